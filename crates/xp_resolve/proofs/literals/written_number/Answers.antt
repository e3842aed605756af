use Rattle.std.proofs.Common.{◌≡◌, ◌∙◌, ◌++◌, ap}
use Rattle.xp_numeric.specs.Texts.{text}
use Rattle.xp_resolve.proofs.literals.written_number.Goals as goal

pub returns-clause-value : goal.returns-clause-value
returns-clause-value c =
    let is : c.as_slice.result.now ≡ text c.args.value = c.as_slice.ensures ∙ c.in_ok-write_numeric.ensures.ok ∙ ap (λ out. out ++ text c.args.value) c.new-text.ensures in
    rw is at c.constant_named.ensures.value
