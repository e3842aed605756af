use Rattle.std.proofs.Common.{rules, ◌≡◌, ◌++◌, ◌∙◌, ap, arith, drop, length, take}
use Rattle.std.proofs.lemmas.List.{take-append-le, take_all}
use Rattle.xp_overload.specs.Places.{kept}
use Rattle.xp_candidates.specs.Accepted.{takes}
use Rattle.xp_candidates.specs.Known.{bases}
use Rattle.xp_candidates.specs.Chosen.{narrowed}
use Rattle.xp_candidates.specs.inner.Marked.{those}
use Rattle.xp_candidates.proofs.Places.{those-marked}
use Rattle.xp_candidates.proofs.chosen.mark_remaining.Goals as goal

pub returns-clause-value : goal.returns-clause-value
returns-clause-value c =
    let cat = c.args.c.now in
    let inputs = c.args.inputs.now in
    let candidates = c.args.candidates.now in
    let same : c.in_ok-keep.keep.len ≡ length c.narrow_several.new.keep = search rules in
    let whole : take c.in_ok-keep.keep.len (c.narrow_several.new.keep ++ drop (length c.narrow_several.new.keep) c.in_ok-keep.keep.items) ≡ c.narrow_several.new.keep =
    take-append-le c.in_ok-keep.keep.len c.narrow_several.new.keep (drop (length c.narrow_several.new.keep) c.in_ok-keep.keep.items) (omega (arith, same)) ∙ take_all c.in_ok-keep.keep.len c.narrow_several.new.keep (omega (arith, same)) in
    ap (λ marks. those candidates (kept marks)) whole
    ∙ c.in_ok-narrow_several.ensures
    ∙ ap (λ marks. narrowed cat (bases cat inputs) (those candidates (kept marks))) (c.deref_mut.ensures.value ∙ c.in_ok-keep.ensures)
    ∙ ap (narrowed cat (bases cat inputs)) (those-marked (takes cat c.args.variadic inputs) candidates)
