use Rattle.std.proofs.Common.{◌≡◌, ◌∙◌, sym, subst}
use Rattle.std.specs.Prelude.{OnOk}
use Rattle.xp_overload.specs.Places.{kept}
use Rattle.xp_candidates.specs.Known.{bases}
use Rattle.xp_candidates.specs.Chosen.{narrowed}
use Rattle.xp_candidates.specs.inner.Marked.{those}
use Rattle.xp_candidates.proofs.Places.{narrowed-short, two-of-several}
use Rattle.xp_candidates.proofs.chosen.narrow_several.Goals as goal

pub narrow-requires-clause-several : goal.narrow-requires-clause-several
narrow-requires-clause-several c = two-of-several (kept c.args.keep.now) c.in-Several.first c.in-Several.second (sym c.first_two.ensures.value ∙ c.in-Several.is)

pub returns-in_default : goal.returns-in_default
returns-in_default c = sym (narrowed-short c.args.c.now (bases c.args.c.now c.args.inputs.now) c.args.candidates.now (kept c.args.keep.now) (λ x y is. c.in_default.not-Several x y (c.first_two.ensures.value ∙ is)))

pub returns-in_ok-types-in-Several : goal.returns-in_ok-types-in-Several
returns-in_ok-types-in-Several c =
    subst (λ types. OnOk c.narrow.result (those c.args.candidates.now (kept c.narrow.new.keep) ≡ narrowed c.args.c.now types (those c.args.candidates.now (kept c.args.keep.now)))) (c.as_slice.ensures ∙ c.in_ok-types-in-Several.ensures.value) c.narrow.ensures
