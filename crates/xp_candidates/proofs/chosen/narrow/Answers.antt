use Rattle.std.proofs.Common.{◌<◌, length, map, ◌∙◌, sym, ap}
use Rattle.xp_overload.specs.Places.{kept}
use Rattle.xp_candidates.specs.Accepted.{takes_as}
use Rattle.xp_candidates.proofs.Found.{known_type-All}
use Rattle.xp_candidates.proofs.Places.{have_slots, those-narrowed}
use Rattle.xp_candidates.proofs.chosen.narrow.Goals as goal

pub mark_taking_as-requires-clause-known : goal.mark_taking_as-requires-clause-known
mark_taking_as-requires-clause-known c = λ x is. known_type-All (λ type. type.0 < length c.args.c.now.types) c.args.inputs.now c.requires.inputs x (sym c.known_type.ensures ∙ is)

pub choose-requires-clause-slots : goal.choose-requires-clause-slots
choose-requires-clause-slots c = rw (c.deref.ensures.value, c.in_ok-slots.ensures, c.as_slice.ensures, c.in_ok-input_slots.ensures) (have_slots c.args.c.now c.args.inputs.now c.args.candidates.now c.requires.candidates)

pub returns : goal.returns
returns c = those-narrowed c.args.c.now c.args.inputs.now c.args.candidates.now c.args.keep.now (kept c.choose.new.keep) _ _ _ c.requires.lengths c.choose.ensures.left
    (c.deref.ensures.value ∙ c.in_ok-slots.ensures)
    (c.as_slice.ensures ∙ c.in_ok-input_slots.ensures)
    (c.deref-2.ensures.value ∙ c.in_ok-as_known.ensures ∙ ap (λ k. map (takes_as c.args.c.now k c.args.inputs.now) c.args.candidates.now) c.known_type.ensures)
