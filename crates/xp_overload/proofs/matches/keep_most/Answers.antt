use Rattle.std.proofs.Common.{◌==◌}
use Rattle.xp_overload.specs.Places.{slots_at}
use Rattle.xp_overload.specs.Matches.{matches}
use Rattle.xp_overload.proofs.Marks.{kept-filter}
use Rattle.xp_overload.proofs.matches.keep_most.Goals as goal

pub returns : goal.returns
returns c = rw (← c.greatest-most.ensures) (kept-filter (λ k. matches c.args.kind c.args.inputs.now (slots_at c.args.candidates.now k) == c.greatest-most.result) c.args.keep.now c.loop-place.keep c.loop-place.place c.loop-place.auto.keep c.loop-place-test.false c.loop-place.invariant.below)
