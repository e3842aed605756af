use Rattle.std.proofs.Common.{◌≡◌, ℕ, ◌+◌, ◌-◌, ◌≤◌, ◌&&◌, length}
use Rattle.xp_base.proofs.Progress.{Progress}
use Rattle.xp_run.specs.Report.{all_ok, blocks_from, report, steps_in, text_of}
use Rattle.xp_run.specs.Script.{answers_from}
use Rattle.xp_run.proofs.report.write_report.Given as goal

-- the blocks of the statements so far are written, and those of the rest are left, of which there are at most `n`
abbrev pub invariant-loop-at : goal.invariant-loop-at
invariant-loop-at g l = record {
  n : ℕ;
  enough : length l.inputs.script ≤ l.at + n;
  wrote : Progress (g.K.Sink.contents l.initial.out) (g.K.Sink.contents l.out) (text_of (blocks_from l.inputs.catalog l.tally.next (answers_from n l.inputs l.at))) (text_of (report l.inputs));
  fine : (l.tally.all_ok && all_ok (blocks_from l.inputs.catalog l.tally.next (answers_from n l.inputs l.at))) ≡ all_ok (report l.inputs);
  steps : steps_in (blocks_from l.inputs.catalog l.tally.next (answers_from n l.inputs l.at)) ≡ steps_in (report l.inputs);
  within : l.at ≤ length l.inputs.script;
  few : l.tally.next ≤ l.at + 1;
  same : g.K.Sink.faults l.out ≡ g.K.Sink.faults l.initial.out;
}

abbrev pub decreases-loop-at : goal.decreases-loop-at
decreases-loop-at g l = length l.inputs.script - l.at
