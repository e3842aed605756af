-- The type at the end of elements and bases, one step after another.
use Rattle.std.proofs.Common.{◌≡◌, ℕ, ◌+◌, Option, Some, None, refl, add-one, ◌∙◌, ap, sym}
use Rattle.std.specs.Option.{option_map_or}
use Rattle.xp_base.specs.declared.numbers.TypeNo.{TypeNo}
use Rattle.xp_catalog.specs.Contents.{Contents}
use Rattle.xp_catalog.specs.Rules.{kind_of, leaf_by, leaf_in}

leaf_in-more : (n k : ℕ) (c : Contents) (type : TypeNo) → k ≡ n + 1 → leaf_in k c type ≡ leaf_by (kind_of c type) c type (leaf_in n c)
unfolding leaf_in
leaf_in-more n k c type e = rw (e, add-one) refl

-- one step further in
pub leaf_in-next : (n k : ℕ) (c : Contents) (type next goal : TypeNo) (found : Option TypeNo) → k ≡ n + 1
    → ((onward : TypeNo → TypeNo) → leaf_by (kind_of c type) c type onward ≡ option_map_or onward found type) → found ≡ Some next → leaf_in k c type ≡ goal → leaf_in n c next ≡ goal
leaf_in-next n k c type next goal found e steps is here =
    sym (leaf_in-more n k c type e ∙ steps (leaf_in n c) ∙ ap (λ o. option_map_or (leaf_in n c) o type) is) ∙ here

-- no step further
pub leaf_in-here : (n k : ℕ) (c : Contents) (type goal : TypeNo) (found : Option TypeNo) → k ≡ n + 1
    → ((onward : TypeNo → TypeNo) → leaf_by (kind_of c type) c type onward ≡ option_map_or onward found type) → found ≡ None → leaf_in k c type ≡ goal → type ≡ goal
leaf_in-here n k c type goal found e steps is here =
    sym (leaf_in-more n k c type e ∙ steps (leaf_in n c) ∙ ap (λ o. option_map_or (leaf_in n c) o type) is) ∙ here

pub leaf_in-none : (k : ℕ) (c : Contents) (type goal : TypeNo) → k ≡ 0 → leaf_in k c type ≡ goal → type ≡ goal
unfolding leaf_in
leaf_in-none k c type goal e here = rw e at here
