use Rattle.std.proofs.Common.{◌≡◌, ℕ, ◌+◌, ◌<◌, ◌≤◌, length, reverse}
use Rattle.xp_columns.specs.Columns.{united}
use Rattle.xp_columns.specs.inner.Tables.{AreArms, AreLists, AreOfWidth}
use Rattle.xp_columns.proofs.columns.united.Given as goal

-- the arms so far, and the others behind them, are all
abbrev pub invariant-loop-arm : goal.invariant-loop-arm
invariant-loop-arm l = record {
  arms : AreArms l.scene.c (reverse l.left);
  says : united l.scene l.made (reverse l.left) ≡ united l.scene l.fn.first l.fn.arms;
  sources : AreLists l.scene.c l.made.lists;
  few : length l.left ≤ length l.fn.arms;
  count : length l.made.lists + length l.left ≡ length l.fn.first.lists + length l.fn.arms;
  widths : (width : ℕ) → 0 < length l.fn.first.lists → AreOfWidth width l.fn.first.lists → AreOfWidth width l.made.lists;
}

abbrev pub decreases-loop-arm : goal.decreases-loop-arm
decreases-loop-arm l = length l.left
