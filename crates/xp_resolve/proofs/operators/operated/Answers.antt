use Rattle.std.proofs.Common.{◌≡◌, ◌∙◌}
use Rattle.xp_resolve.specs.Calls.{types_of}
use Rattle.xp_resolve.proofs.operators.operated.Goals as goal

pub returns-in-Some-clause-value : goal.returns-in-Some-clause-value
returns-in-Some-clause-value c =
    let pair = rw c.in-Some.is at c.pair_of.ensures.value in
    let same = rw c.as_slice-parts.ensures at pair in
    rw same c.operated_over.ensures.value

pub returns-clause-value : goal.returns-clause-value
returns-clause-value c =
    let inputs : c.as_slice.result.now ≡ types_of c.args.gathered.parts = c.as_slice.ensures ∙ (rw c.as_slice-parts.ensures at c.in_ok-inputs.ensures.value) in
    rw inputs at c.operated_over-2.ensures.value
