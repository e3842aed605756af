use Rattle.std.proofs.Common.{◌∙◌, ap, true, false, refl, sym}
use Rattle.xp_types.specs.Common.{converted}
use Rattle.xp_types.proofs.Considered.{common_of_first, considered_none}
use Rattle.xp_types.proofs.Converting.{unknown_convert}
use Rattle.xp_types.proofs.common_type.common_of.Goals as goal

pub returns-in-None-clause-value : goal.returns-in-None-clause-value
returns-in-None-clause-value c = rw (considered_none c.args.c.now c.args.inputs.now (sym c.in-None.ensures), c.text.ensures.value) refl

pub returns-then-are_of-clause-value : goal.returns-then-are_of-clause-value
returns-then-are_of-clause-value c =
    c.converted.ensures.value ∙ ap (converted c.args.c.now c.args.inputs.now) c.candidate_of.ensures.value
    ∙ sym (common_of_first c.args.c.now c.args.inputs.now c.in-Some.place c.base-first.result c.category.result _ true (sym c.in-Some.ensures) refl c.base-first.ensures.value c.category.ensures (sym c.if-are_of.true ∙ c.are_of.ensures))

pub returns-else-are_of-clause-value : goal.returns-else-are_of-clause-value
returns-else-are_of-clause-value c =
    sym (common_of_first c.args.c.now c.args.inputs.now c.in-Some.place c.base-first.result c.category.result _ false (sym c.in-Some.ensures) refl c.base-first.ensures.value c.category.ensures (sym c.if-are_of.false ∙ c.are_of.ensures))

pub returns-in-None-clause-converts : goal.returns-in-None-clause-converts
returns-in-None-clause-converts c = unknown_convert c.args.c.now c.args.inputs.now c.text.result (sym c.in-None.ensures)
