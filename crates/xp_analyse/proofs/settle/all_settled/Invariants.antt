use Rattle.std.proofs.Common.{◌≡◌, ◌++◌, length, map, reverse, Ok}
use Rattle.xp_columns.specs.inner.Tables.{AreLists}
use Rattle.xp_expressions.specs.Operands.{each}
use Rattle.xp_analyse.specs.Statements.{all_settled, with_settled}
use Rattle.xp_analyse.proofs.settle.all_settled.Given as goal

-- the lists so far, and the others behind them, are all
abbrev pub invariant-loop-parts : goal.invariant-loop-parts
invariant-loop-parts l = record {
  sources : AreLists l.scene.c (reverse l.left);
  shape : map length l.all.lists ++ map length (reverse l.left) ≡ map length l.fn.table.lists;
  says : each (with_settled l.scene) (Ok l.all) (reverse l.left) ≡ all_settled l.scene l.fn.table;
}

abbrev pub decreases-loop-parts : goal.decreases-loop-parts
decreases-loop-parts l = length l.left
