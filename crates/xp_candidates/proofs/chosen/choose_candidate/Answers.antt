use Rattle.std.proofs.Common.{◌∙◌, ap, sym, subst}
use Rattle.xp_overload.specs.Places.{kept}
use Rattle.xp_candidates.specs.Chosen.{chosen, outcome}
use Rattle.xp_candidates.specs.inner.Marked.{AcceptsOne, first_two, outcome_at}
use Rattle.xp_candidates.proofs.Made.{Answers-same}
use Rattle.xp_candidates.proofs.Places.{accepts_one, outcome-at}
use Rattle.xp_candidates.proofs.chosen.choose_candidate.Goals as goal

pub outcome-requires-clause-accepted : goal.outcome-requires-clause-accepted
outcome-requires-clause-accepted c =
    subst (λ marked. AcceptsOne c.args.c.now c.args.inputs.now c.args.candidates.now marked)
    (sym (c.first_two.ensures.value ∙ ap (λ marks. first_two (kept marks)) c.deref.ensures.value))
    (accepts_one c.args.c.now c.args.variadic c.args.inputs.now c.args.candidates.now (kept c.in_ok-keep.keep.items) c.in_ok-keep.ensures.value)

pub returns-clause-value : goal.returns-clause-value
returns-clause-value c =
    let cat = c.args.c.now in
    let inputs = c.args.inputs.now in
    let candidates = c.args.candidates.now in
    Answers-same (chosen cat c.args.variadic inputs candidates) c.outcome.result
    (c.outcome.ensures
    ∙ ap (outcome_at cat inputs candidates) (c.first_two.ensures.value ∙ ap (λ marks. first_two (kept marks)) c.deref.ensures.value)
    ∙ outcome-at cat inputs candidates (kept c.in_ok-keep.keep.items)
    ∙ ap (outcome cat inputs) c.in_ok-keep.ensures.value)
