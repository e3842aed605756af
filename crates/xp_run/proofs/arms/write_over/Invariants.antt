use Rattle.std.proofs.Common.{◌≡◌, ◌+◌, drop, map}
use Rattle.xp_base.proofs.Progress.{Progress}
use Rattle.xp_run.specs.Answer.{output_row}
use Rattle.xp_run.specs.inner.Arms.{count_after, rows_text}
use Rattle.xp_run.proofs.arms.write_over.Given as goal

-- the rows so far are written, and those of the rest are left
abbrev pub invariant-loop-row : goal.invariant-loop-row
invariant-loop-row g l = record {
  wrote : Progress (g.K.Sink.contents l.initial.out) (g.K.Sink.contents l.out) (rows_text l.k l.done (map (output_row l.trees) (drop l.row-index l.rows))) (rows_text l.k l.before (map (output_row l.trees) l.rows));
  count : count_after l.done (map (output_row l.trees) (drop l.row-index l.rows)) ≡ count_after l.before (map (output_row l.trees) l.rows);
  few : l.done ≡ l.before + l.row-index;
  same : g.K.Sink.faults l.out ≡ g.K.Sink.faults l.initial.out;
}
