use Rattle.std.proofs.Common.{◌≡◌, ◌*◌, ◌^◌, ◌≤◌, drop}
use Rattle.xp_base.proofs.Progress.{Progress}
use Rattle.xp_run.specs.Answer.{output_rows}
use Rattle.xp_run.specs.inner.Arms.{count_after, rows_text}
use Rattle.xp_run.proofs.arms.write_rows.Given as goal

-- the rows of the arms so far are written, and those of the rest are left
abbrev pub invariant-loop-arm : goal.invariant-loop-arm
invariant-loop-arm g l = record {
  wrote : Progress (g.K.Sink.contents l.initial.out) (g.K.Sink.contents l.out) (rows_text l.k l.done (output_rows l.rows (drop l.arm-index l.arms))) (rows_text l.k 0 (output_rows l.rows l.arms));
  count : count_after l.done (output_rows l.rows (drop l.arm-index l.arms)) ≡ count_after 0 (output_rows l.rows l.arms);
  few : l.done ≤ l.arm-index * 2 ^ 64;
  same : g.K.Sink.faults l.out ≡ g.K.Sink.faults l.initial.out;
}
