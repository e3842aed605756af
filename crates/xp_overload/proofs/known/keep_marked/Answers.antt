use Rattle.std.proofs.Common.{false, get_or}
use Rattle.xp_overload.proofs.Marks.{kept-filter}
use Rattle.xp_overload.proofs.known.keep_marked.Goals as goal

pub returns : goal.returns
returns c = kept-filter (λ k. get_or c.args.marks.now k false) c.args.keep.now c.loop-place.keep c.loop-place.place c.loop-place.auto.keep c.loop-place-test.false c.loop-place.invariant.below
