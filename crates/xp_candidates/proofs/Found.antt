-- The type that all known inputs have, and that it is one of the inputs.
use Rattle.std.proofs.Common.{◌≡◌, List, [], ◌∷◌, Bool, true, false, cond, Some, None, refl, subst, sym, arith}
use Rattle.std.specs.List.{All, filter, find, list_all}
use Rattle.std.proofs.lemmas.Bool.Decides.{nat_tests}
use Rattle.std.proofs.lemmas.List.Elements.{All-filter, All-head}
use Rattle.xp_base.specs.declared.numbers.TypeNo.{TypeNo}
use Rattle.xp_types.specs.Readers.{is_known, is_same}
use Rattle.xp_candidates.specs.Known.{known_type, shared}

by-first : (known : Bool) (type first : TypeNo) (types : List TypeNo) → ((find is_known types ≡ Some first) → (rest : List TypeNo) × (filter is_known types ≡ first ∷ rest)) → cond known (Some type) (find is_known types) ≡ Some first → (rest : List TypeNo) × (cond known (type ∷ filter is_known types) (filter is_known types) ≡ first ∷ rest)
by-first true type first types later is = let same : type ≡ first = cc in (filter is_known types, rw same refl)
by-first false type first types later is = later is

-- the first known one is the first of the known ones
first-known : (types : List TypeNo) (first : TypeNo) → find is_known types ≡ Some first → (rest : List TypeNo) × (filter is_known types ≡ first ∷ rest)
first-known [] first is = cc
first-known (type ∷ types) first is = by-first (is_known type) type first types (first-known types first) is

by-none : (known : Bool) (type : TypeNo) (types : List TypeNo) → (find is_known types ≡ None → filter is_known types ≡ []) → cond known (Some type) (find is_known types) ≡ None → cond known (type ∷ filter is_known types) (filter is_known types) ≡ []
by-none true type types later is = cc
by-none false type types later is = later is

none-known : (types : List TypeNo) → find is_known types ≡ None → filter is_known types ≡ []
none-known [] is = refl
none-known (type ∷ types) is = by-none (is_known type) type types (none-known types) is

shared-first : (first : TypeNo) (rest : List TypeNo) → cond (list_all (is_same first) (first ∷ rest)) (Some first) None ≡ shared (first ∷ rest)
shared-first first rest = let own : is_same first first ≡ true = grind (arith, nat_tests) in rw own refl

-- without a known one there is none that they share
pub none_shared : (types : List TypeNo) → find is_known types ≡ None → known_type types ≡ None
none_shared types is = by (list_all is_known types)
  where
    by : (all : Bool) → cond all None (shared (filter is_known types)) ≡ None
    by true = refl
    by false = rw (none-known types is) refl

-- what they share, by the first known one
pub known_by : (types : List TypeNo) (all same : Bool) (first : TypeNo) → all ≡ list_all is_known types → all ≡ false → find is_known types ≡ Some first → same ≡ list_all (is_same first) (filter is_known types) → cond same (Some first) None ≡ known_type types
known_by types all same first is_all some is is_same_as =
    let found = first-known types first is in
    rw (sym is_all, some, is_same_as, found.1) (shared-first first found.0)

shared-All : (P : TypeNo → Type 0) (types : List TypeNo) → All P types → (x : TypeNo) → shared types ≡ Some x → P x
shared-All P [] each x is = cc
shared-All P (type ∷ types) each x is = by (list_all (is_same type) types) is
  where
    by : (test : Bool) → cond test (Some type) None ≡ Some x → P x
    by true found = let same : type ≡ x = cc in subst P same (All-head P type types each)
    by false found = cc

-- what holds of each of them holds of it
pub known_type-All : (P : TypeNo → Type 0) (types : List TypeNo) → All P types → (x : TypeNo) → known_type types ≡ Some x → P x
known_type-All P types each x is = by (list_all is_known types) is
  where
    by : (test : Bool) → cond test None (shared (filter is_known types)) ≡ Some x → P x
    by true found = cc
    by false found = shared-All P (filter is_known types) (All-filter is_known P types each) x found
