-- Where the table of bodies declares `any`: last, of a body that is variadic.
use Rattle.std.proofs.Common.{◌≡◌, ℕ, List, [], ◌∷◌, ◌++◌, Bool, true, false, ◌&&◌, ◌||◌, not, refl, sym, ◌∙◌, Option, Some, None, slice_get}
use Rattle.std.specs.List.{list_all}
use Rattle.std.proofs.Math.Bool.{beq}
use Rattle.std.specs.Cmp.{booleans_Decides}
use Rattle.std.proofs.lemmas.Bool.{and_parts}
use Rattle.xp_base.specs.declared.numbers.BodyNo.{BodyNo}
use Rattle.xp_base.specs.declared.numbers.TypeNo.{TypeNo}
use Rattle.xp_bodies.specs.Fits.{agrees, agrees_with, are_named, fits_with, is_as_loose, is_named}
use Rattle.xp_bodies.specs.Row.{Row}
use Rattle.xp_bodies.specs.Table.{arithmetic, arrays, bodies, comparisons, dates, edits, integers, numerics, ranges, texts}
use Rattle.xp_candidates.specs.Accepted.{is_any}
use Rattle.xp_catalog.specs.declared.rows.FuncRow.{FuncRow}
use Rattle.xp_catalog.specs.declared.rows.PseudoType.{PseudoType}
use Rattle.xp_catalog.specs.declared.rows.PseudoType.TheVariants as pseudo
use Rattle.xp_catalog.specs.Contents.{Contents}
use Rattle.xp_catalog.specs.Spelling as spelling
use Rattle.xp_catalog.specs.WellFormed.{IsWellFormed}
use Rattle.xp_poly.specs.declared.roles.Role.TheVariants.{Any}
use Rattle.xp_poly.specs.Roles.{role, role_by}
use Rattle.xp_coerce.proofs.Rests.{agreed, named_is}
use Rattle.xp_resolve.proofs.PseudoNames.{role_called}
use Rattle.xp_resolve.proofs.SettledBodies.{at_place}

abbrev pub is_end : {A : Type 0} → List A → Bool
is_end [] = true
is_end (a ∷ more) = false

-- `any` is declared last alone, where the last is variadic
abbrev pub AnyIsLast : Contents → Bool → List TypeNo → Type 0
AnyIsLast c variadic [] = Unit {0}
AnyIsLast c variadic (declared ∷ more) = (role c declared ≡ Any → (variadic && is_end more) ≡ true) × AnyIsLast c variadic more

-- ---- the table

abbrev ends_with_any : Bool → List (List ℕ) → Bool
ends_with_any variadic [] = true
ends_with_any variadic (name ∷ names) = (not (is_any (spelling.pseudo_type name)) || (variadic && is_end names)) && ends_with_any variadic names

abbrev row_ends : Row → Bool
row_ends row = ends_with_any row.variadic row.args

all_end : list_all row_ends bodies ≡ true
unfolding bodies arithmetic comparisons integers numerics texts edits dates arrays ranges
all_end = refl

-- ---- the functions that have the bodies

any_by : (o : Option PseudoType) → role_by o ≡ Any → is_any o ≡ true
any_by None is = cc is
any_by (Some pseudo.Any) is = refl
any_by (Some pseudo.AnyElement) is = cc is
any_by (Some pseudo.AnyNonArray) is = cc is
any_by (Some pseudo.AnyArray) is = cc is
any_by (Some pseudo.AnyRange) is = cc is
any_by (Some pseudo.AnyCompatible) is = cc is
any_by (Some pseudo.AnyCompatibleNonArray) is = cc is
any_by (Some pseudo.AnyCompatibleArray) is = cc is
any_by (Some pseudo.AnyCompatibleRange) is = cc is

same_end : (c : Contents) (args : List TypeNo) (names : List (List ℕ)) → are_named c args names ≡ true → is_end args ≡ is_end names
same_end c [] [] named = refl
same_end c [] (name ∷ names) named = cc named
same_end c (declared ∷ args) [] named = cc named
same_end c (declared ∷ args) (name ∷ names) named = refl

implied : (a b : Bool) → a ≡ true → (not a || b) ≡ true → b ≡ true
implied true true a either = refl
implied true false a either = cc either
implied false b a either = cc a

any_is_last : (c : Contents) (variadic : Bool) (args : List TypeNo) (names : List (List ℕ)) → IsWellFormed c → are_named c args names ≡ true → ends_with_any variadic names ≡ true → AnyIsLast c variadic args
any_is_last c variadic [] names well named bare = tt
any_is_last c variadic (declared ∷ args) [] well named bare = absurd (cc named)
any_is_last c variadic (declared ∷ args) (name ∷ names) well named bare =
    let called = and_parts (is_named c declared name) (are_named c args names) named in
    let both = and_parts (not (is_any (spelling.pseudo_type name)) || (variadic && is_end names)) (ends_with_any variadic names) bare in
    (first called.0 called.1 both.0, any_is_last c variadic args names well called.1 both.1)
  where
    first : is_named c declared name ≡ true → are_named c args names ≡ true → (not (is_any (spelling.pseudo_type name)) || (variadic && is_end names)) ≡ true → role c declared ≡ Any → (variadic && is_end args) ≡ true
    first own others test any =
        let own_role : role_by (spelling.pseudo_type name) ≡ Any = sym (role_called c declared name well (named_is c declared name own)) ∙ any in
        rw (same_end c args names others) (implied (is_any (spelling.pseudo_type name)) (variadic && is_end names) (any_by (spelling.pseudo_type name) own_role) test)

is_variadic : (c : Contents) (f : FuncRow) (row : Row) → agrees c f row ≡ true → f.variadic ≡ row.variadic
is_variadic c f row is =
    let all = and_parts (beq f.variadic row.variadic && beq f.strict row.strict && is_as_loose f.volatility row.volatility && is_named c f.result row.result) (are_named c f.args row.args) is in
    let four = and_parts (beq f.variadic row.variadic && beq f.strict row.strict && is_as_loose f.volatility row.volatility) (is_named c f.result row.result) all.0 in
    let three = and_parts (beq f.variadic row.variadic && beq f.strict row.strict) (is_as_loose f.volatility row.volatility) four.0 in
    let two = and_parts (beq f.variadic row.variadic) (beq f.strict row.strict) three.0 in
    (booleans_Decides f.variadic row.variadic).0 two.0

by_row : (c : Contents) (f : FuncRow) (place : ℕ) (o : Option Row) → IsWellFormed c → slice_get bodies place ≡ o → agrees_with c f o ≡ true → AnyIsLast c f.variadic f.args
by_row c f place None well at agree = absurd (cc agree)
by_row c f place (Some row) well at agree =
    rw (is_variadic c f row agree) (any_is_last c row.variadic f.args row.args well (agreed c f row agree).args (at_place row_ends bodies place row all_end at))

-- a function that has a body declares `any` last alone, and is variadic where it does
pub bodies_any_last : (c : Contents) (f : FuncRow) (body : BodyNo) → IsWellFormed c → fits_with c f (Some body) ≡ true → AnyIsLast c f.variadic f.args
bodies_any_last c f body well fit = by_row c f body.0 (slice_get bodies body.0) well refl fit

never_both : (b : Bool) → (b && false) ≡ true → false ≡ true
never_both true is = is
never_both false is = is

-- what stands before the last is never `any`
pub front_any_last : (c : Contents) (variadic : Bool) (front : List TypeNo) (last : TypeNo) → AnyIsLast c variadic (front ++ last ∷ []) → AnyIsLast c false front
front_any_last c variadic [] last all = tt
front_any_last c variadic (declared ∷ []) last all = (λ is. never_both variadic (all.0 is), tt)
front_any_last c variadic (declared ∷ other ∷ front) last all = (λ is. never_both variadic (all.0 is), front_any_last c variadic (other ∷ front) last all.1)
