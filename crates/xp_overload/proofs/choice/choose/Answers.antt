use Rattle.std.proofs.Common.{◌≡◌, ◌∙◌, ℕ, List, Bool, ap}
use Rattle.xp_overload.specs.Places.{is_marked, kept, slots_at}
use Rattle.xp_overload.specs.Matches.{most_exact, most_preferred}
use Rattle.xp_overload.specs.Categories.{of_category}
use Rattle.xp_overload.specs.Choosing.{as_known_type, choice_of, left}
use Rattle.xp_overload.specs.declared.slots.InSlot.{InSlot}
use Rattle.xp_overload.proofs.choice.choose.Goals as goal

in-order : (declared : ℕ → List InSlot) (passes : ℕ → Bool) (inputs : List InSlot) (all exact preferred category known : List ℕ) → exact ≡ most_exact declared inputs all → preferred ≡ most_preferred declared inputs exact → category ≡ of_category declared inputs preferred → known ≡ as_known_type passes category → known ≡ left declared passes inputs all
in-order declared passes inputs all exact preferred category known is_exact is_preferred is_category is_known =
    is_known ∙ ap (as_known_type passes) (is_category ∙ ap (of_category declared inputs) (is_preferred ∙ ap (most_preferred declared inputs) is_exact))

pub returns-clause-left : goal.returns-clause-left
returns-clause-left c =
    in-order (slots_at c.args.candidates.now) (is_marked c.args.as_known.now) c.args.inputs.now (kept c.args.keep.now) (kept c.keep_most.new.keep) (kept c.keep_most-2.new.keep) (kept c.keep_of_category.new.keep) (kept c.keep_as_known.new.keep) c.keep_most.ensures c.keep_most-2.ensures c.keep_of_category.ensures c.keep_as_known.ensures

pub returns-clause-choice : goal.returns-clause-choice
returns-clause-choice c =
    c.only_one.ensures ∙ ap choice_of (in-order (slots_at c.args.candidates.now) (is_marked c.args.as_known.now) c.args.inputs.now (kept c.args.keep.now) (kept c.keep_most.new.keep) (kept c.keep_most-2.new.keep) (kept c.keep_of_category.new.keep) (kept c.keep_as_known.new.keep) c.keep_most.ensures c.keep_most-2.ensures c.keep_of_category.ensures c.keep_as_known.ensures)
