use Rattle.std.proofs.Common.{◌≡◌, ◌∙◌}
use Rattle.xp_resolve.specs.Calls.{types_of}
use Rattle.xp_forms.proofs.equality.compared.Goals as goal

pub returns-clause-value : goal.returns-clause-value
returns-clause-value c =
    let inputs : c.as_slice.result.now ≡ types_of c.args.operands.parts = c.as_slice.ensures ∙ (rw c.as_slice-parts.ensures at c.in_ok-inputs.ensures.value) in
    rw inputs at c.compared_over.ensures.value
