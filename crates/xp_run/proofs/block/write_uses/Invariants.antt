use Rattle.std.proofs.Common.{◌≡◌, drop}
use Rattle.std.specs.List.{concat}
use Rattle.xp_base.proofs.Progress.{Progress}
use Rattle.xp_run.specs.Blocks.{uses_lines}
use Rattle.xp_run.proofs.block.write_uses.Given as goal

-- the lines so far are written, and those of the rest are left
abbrev pub invariant-loop-one : goal.invariant-loop-one
invariant-loop-one g l = record {
  wrote : Progress (g.K.Sink.contents l.initial.out) (g.K.Sink.contents l.out) (concat (uses_lines l.catalog l.k (drop l.one-index l.uses))) (concat (uses_lines l.catalog l.k l.uses));
  same : g.K.Sink.faults l.out ≡ g.K.Sink.faults l.initial.out;
}
