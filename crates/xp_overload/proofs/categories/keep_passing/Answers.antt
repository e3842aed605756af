use Rattle.xp_overload.specs.Places.{slots_at}
use Rattle.xp_overload.specs.inner.Demands.{meets_all}
use Rattle.xp_overload.proofs.Marks.{kept-filter}
use Rattle.xp_overload.proofs.categories.keep_passing.Goals as goal

pub returns : goal.returns
returns c = kept-filter (λ k. meets_all c.args.demands.now (slots_at c.args.candidates.now k)) c.args.keep.now c.loop-place.keep c.loop-place.place c.loop-place.auto.keep c.loop-place-test.false c.loop-place.invariant.below
