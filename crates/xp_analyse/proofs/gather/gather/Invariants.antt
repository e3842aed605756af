use Rattle.std.proofs.Common.{◌≡◌, ◌++◌, drop, length, map, Ok}
use Rattle.xp_columns.specs.inner.Tables.{AreLists}
use Rattle.xp_expressions.specs.Operands.{each}
use Rattle.xp_analyse.specs.Lists.{listed, with_list}
use Rattle.xp_analyse.specs.inner.Views.{lists_in}
use Rattle.xp_analyse.proofs.gather.gather.Given as goal

-- the lists so far, and the others behind them, are all
abbrev pub invariant-loop-place : goal.invariant-loop-place
invariant-loop-place l = record {
  sources : AreLists l.scene.c l.all.lists;
  shape : map length l.all.lists ++ map length (drop l.place (lists_in l.lists)) ≡ map length (lists_in l.lists);
  says : each (with_list l.scene) (Ok l.all) (drop l.place (lists_in l.lists)) ≡ listed l.scene (lists_in l.lists);
}
