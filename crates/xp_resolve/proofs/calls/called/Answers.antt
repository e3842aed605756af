use Rattle.std.proofs.Common.{◌≡◌, ◌∙◌, false, length, arith, nat_lt}
use Rattle.std.proofs.lemmas.Bool.Decides.{nat_tests}
use Rattle.xp_base.specs.declared.limits.TheConstants.{ARGUMENT_LIMIT}
use Rattle.xp_resolve.specs.Calls.{types_of}
use Rattle.xp_resolve.specs.Order.{in_order}
use Rattle.xp_resolve.proofs.calls.called.Goals as goal

pub returns-clause-value : goal.returns-clause-value
returns-clause-value c =
    let few : nat_lt ARGUMENT_LIMIT (length c.args.gathered.parts) ≡ false = grind (arith, nat_tests, c.if-parts.false, c.as_slice-parts.ensures) in
    let inputs : c.as_slice.result.now ≡ in_order c.args.order (types_of c.args.gathered.parts) = c.as_slice.ensures ∙ (rw c.as_slice-parts.ensures at c.in_ok-inputs.ensures.value) in
    rw few (rw inputs at c.picked.ensures.value)
