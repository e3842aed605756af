use Rattle.std.proofs.Common.{◌≡◌, ◌∙◌}
use Rattle.xp_forms.specs.Cases.{result_types}
use Rattle.xp_forms.proofs.cases.cased.Goals as goal

pub returns-clause-value : goal.returns-clause-value
returns-clause-value c =
    let inputs : c.as_slice.result.now ≡ result_types c.args.whens c.args.otherwise.part = c.as_slice.ensures ∙ (rw c.as_slice-arms.ensures at c.in_ok-inputs.ensures.value) in
    rw inputs at c.cased_over.ensures.value
