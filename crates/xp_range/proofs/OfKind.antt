-- Ranges that are made have the kind of what they are made of.
use Rattle.std.proofs.Common.{◌≡◌, Bool, true, false, ◌||◌, refl, ap, sym, subst, ◌∙◌, arith, ℤ, pos, ◌+ℤ◌, int_lt, cond, not, Option, Some, None, Result, Ok, Err}
use Rattle.std.specs.Prelude.{IfOk, IfSome}
use Rattle.std.specs.Int.{int_max, int_min}
use Rattle.std.proofs.lemmas.Bool.{and_from, and_parts, false≢true}
use Rattle.std.proofs.lemmas.Int.{ints}
use Rattle.xp_base.specs.FromLeft.{and_then}
use Rattle.xp_base.specs.declared.codes.EvalError.{EvalError}
use Rattle.xp_base.specs.declared.codes.EvalError.TheVariants as error
use Rattle.xp_value.specs.Representation.{are_bounds, is_bound, is_range}
use Rattle.xp_value.specs.declared.value.Range.{Range}
use Rattle.xp_value.specs.declared.value.Range.TheVariants.{Empty, Bounds}
use Rattle.xp_value.specs.declared.value.RangeKind.{RangeKind}
use Rattle.xp_value.specs.declared.value.RangeKind.TheVariants as subtype
use Rattle.xp_range.specs.Bounds.{between, inner_lower, inner_upper, is_under, outer_lower, outer_upper}
use Rattle.xp_range.specs.Constructors.{canonical, is_crossed, made, past, stepped}
use Rattle.xp_range.specs.Relations.{adjacent, overlaps}
use Rattle.xp_range.specs.Sets.{behind, below, difference, intersection, merged, single, union}
use Rattle.xp_range.specs.declared.constructors.Flags.{Flags}

-- the bound, where it is finite, is of the subtype
abbrev pub IsOf : RangeKind → Option ℤ → Type 0
IsOf kind bound = IfSome bound (λ n. is_bound kind n ≡ true)

pub empty_is : (k : RangeKind) → is_range k (Empty k) ≡ true
empty_is subtype.Int4 = refl
empty_is subtype.Int8 = refl
empty_is subtype.Day = refl

pub bounds_are : (k : RangeKind) (l u : Option ℤ) → is_range k (Bounds l u k) ≡ are_bounds k l u
bounds_are subtype.Int4 l u = refl
bounds_are subtype.Int8 l u = refl
bounds_are subtype.Day l u = refl

pub filled : (k : RangeKind) (l u : Option ℤ) → IsOf k l → IsOf k u → is_under l u ≡ true → are_bounds k l u ≡ true
filled k None None a b e = refl
filled k (Some l) None a b e = a
filled k None (Some u) a b e = b
filled k (Some l) (Some u) a b e = and_from _ _ (and_from _ _ a b) e

pub between_is : (k : RangeKind) (l u : Option ℤ) → IsOf k l → IsOf k u → is_range k (between k l u) ≡ true
between_is k l u a b = by (is_under l u) refl
  where
    by : (t : Bool) → is_under l u ≡ t → is_range k (cond t (Bounds l u k) (Empty k)) ≡ true
    by true e = bounds_are k l u ∙ filled k l u a b e
    by false e = empty_is k

abbrev pub StepsOf : RangeKind → Result (Option ℤ) EvalError → Type 0
StepsOf kind r = IfOk r (λ bound. IsOf kind bound)

stepped_is : (k : RangeKind) (t : Bool) (b : Option ℤ) → IsOf k b → StepsOf k (stepped k t b)
stepped_is k t None a = tt
stepped_is k false (Some n) a = a
stepped_is k true (Some n) a = by (is_bound k (n +ℤ pos 1)) refl
  where
    by : (t : Bool) → is_bound k (n +ℤ pos 1) ≡ t → StepsOf k (cond t (Ok (Some (n +ℤ pos 1))) (Err (past k)))
    by true e = e
    by false e = tt

canonical_is : (k : RangeKind) (l u : Result (Option ℤ) EvalError) → StepsOf k l → StepsOf k u → IfOk (and_then l (λ first. and_then u (λ end. Ok (between k first end)))) (λ range. is_range k range ≡ true)
canonical_is k (Err e) u a b = tt
canonical_is k (Ok l) (Err e) a b = tt
canonical_is k (Ok l) (Ok u) a b = between_is k l u a b

pub made_is : (k : RangeKind) (flags : Flags) (l u : Option ℤ) → IsOf k l → IsOf k u → IfOk (made k flags l u) (λ range. is_range k range ≡ true)
made_is k flags l u a b = by (is_crossed l u)
  where
    by : (t : Bool) → IfOk (cond t (Err error.RangeData) (canonical k flags l u)) (λ range. is_range k range ≡ true)
    by true = tt
    by false = canonical_is k (stepped k (not flags.lower_inc) l) (stepped k flags.upper_inc u) (stepped_is k (not flags.lower_inc) l a) (stepped_is k flags.upper_inc u b)

pub made_result : (r : Range) (k : RangeKind) (flags : Flags) (l u : Option ℤ) → Ok r ≡ made k flags l u → IsOf k l → IsOf k u → is_range k r ≡ true
made_result r k flags l u e a b = subst (λ x. IfOk x (λ range. is_range k range ≡ true)) (sym e) (made_is k flags l u a b)

-- ---- ranges made of two

lower_part : (k : RangeKind) (l u : Option ℤ) → are_bounds k l u ≡ true → IsOf k l
lower_part k None u e = tt
lower_part k (Some l) None e = e
lower_part k (Some l) (Some u) e = (and_parts (is_bound k l) _ (and_parts _ (int_lt l u) e).0).0

upper_part : (k : RangeKind) (l u : Option ℤ) → are_bounds k l u ≡ true → IsOf k u
upper_part k l None e = tt
upper_part k None (Some u) e = e
upper_part k (Some l) (Some u) e = (and_parts (is_bound k l) _ (and_parts _ (int_lt l u) e).0).1

least : (k : RangeKind) (x y : ℤ) → is_bound k x ≡ true → is_bound k y ≡ true → is_bound k (int_min x y) ≡ true
least k x y a b = by (int_lt y x)
  where
    by : (t : Bool) → is_bound k (cond t y x) ≡ true
    by true = b
    by false = a

greatest : (k : RangeKind) (x y : ℤ) → is_bound k x ≡ true → is_bound k y ≡ true → is_bound k (int_max x y) ≡ true
greatest k x y a b = by (int_lt y x)
  where
    by : (t : Bool) → is_bound k (cond t x y) ≡ true
    by true = a
    by false = b

inner_lower_is : (k : RangeKind) (x y : Option ℤ) → IsOf k x → IsOf k y → IsOf k (inner_lower x y)
inner_lower_is k None y a b = b
inner_lower_is k (Some x) None a b = a
inner_lower_is k (Some x) (Some y) a b = greatest k x y a b

inner_upper_is : (k : RangeKind) (x y : Option ℤ) → IsOf k x → IsOf k y → IsOf k (inner_upper x y)
inner_upper_is k None y a b = b
inner_upper_is k (Some x) None a b = a
inner_upper_is k (Some x) (Some y) a b = least k x y a b

outer_lower_is : (k : RangeKind) (x y : Option ℤ) → IsOf k x → IsOf k y → IsOf k (outer_lower x y)
outer_lower_is k None y a b = tt
outer_lower_is k (Some x) None a b = tt
outer_lower_is k (Some x) (Some y) a b = least k x y a b

outer_upper_is : (k : RangeKind) (x y : Option ℤ) → IsOf k x → IsOf k y → IsOf k (outer_upper x y)
outer_upper_is k None y a b = tt
outer_upper_is k (Some x) None a b = tt
outer_upper_is k (Some x) (Some y) a b = greatest k x y a b

pub bounds_of : (k j : RangeKind) (l u : Option ℤ) → is_range k (Bounds l u j) ≡ true → (j ≡ k) × (are_bounds k l u ≡ true)
bounds_of subtype.Int4 subtype.Int4 l u e = (refl, e)
bounds_of subtype.Int8 subtype.Int8 l u e = (refl, e)
bounds_of subtype.Day subtype.Day l u e = (refl, e)
bounds_of k j l u e = absurd (false≢true e)

pub empty_of : (k j : RangeKind) → is_range k (Empty j) ≡ true → j ≡ k
empty_of subtype.Int4 subtype.Int4 e = refl
empty_of subtype.Int8 subtype.Int8 e = refl
empty_of subtype.Day subtype.Day e = refl
empty_of k j e = absurd (false≢true e)

pub under_part : (k : RangeKind) (l u : Option ℤ) → are_bounds k l u ≡ true → is_under l u ≡ true
under_part k None u e = refl
under_part k (Some l) None e = refl
under_part k (Some l) (Some u) e = (and_parts _ (int_lt l u) e).1

wider : (l l' u u' : ℤ) → int_lt l u ≡ true → int_lt (int_min l l') (int_max u u') ≡ true
wider l l' u u' e = grind (arith, ints)

outer_under : (l l' u u' : Option ℤ) → is_under l u ≡ true → is_under (outer_lower l l') (outer_upper u u') ≡ true
outer_under None l' u u' e = refl
outer_under (Some l) None u u' e = refl
outer_under (Some l) (Some l') None u' e = refl
outer_under (Some l) (Some l') (Some u) None e = refl
outer_under (Some l) (Some l') (Some u) (Some u') e = wider l l' u u' e

pub merged_is : (a b : Range) (k : RangeKind) → is_range k a ≡ true → is_range k b ≡ true → is_range k (merged a b) ≡ true
merged_is (Empty j) b k e f = f
merged_is (Bounds l u j) (Empty j') k e f = e
merged_is (Bounds l u j) (Bounds l' u' j') k e f =
    let one = bounds_of k j l u e in
    let other = bounds_of k j' l' u' f in
    let lower = outer_lower_is k l l' (lower_part k l u one.1) (lower_part k l' u' other.1) in
    let upper = outer_upper_is k u u' (upper_part k l u one.1) (upper_part k l' u' other.1) in
    let under = outer_under l l' u u' (under_part k l u one.1) in
    ap (λ i. is_range k (Bounds (outer_lower l l') (outer_upper u u') i)) one.0
    ∙ bounds_are k (outer_lower l l') (outer_upper u u')
    ∙ filled k (outer_lower l l') (outer_upper u u') lower upper under

between_of : (k j : RangeKind) (l u : Option ℤ) → j ≡ k → IsOf k l → IsOf k u → is_range k (between j l u) ≡ true
between_of k j l u e a b = ap (λ i. is_range k (between i l u)) e ∙ between_is k l u a b

empty_still : (k j : RangeKind) → j ≡ k → is_range k (Empty j) ≡ true
empty_still k j e = ap (λ i. is_range k (Empty i)) e ∙ empty_is k

pub intersection_is : (a b : Range) (k : RangeKind) → is_range k a ≡ true → is_range k b ≡ true → is_range k (intersection a b) ≡ true
intersection_is (Empty j) b k e f = e
intersection_is (Bounds l u j) (Empty j') k e f = empty_still k j (bounds_of k j l u e).0
intersection_is (Bounds l u j) (Bounds l' u' j') k e f =
    let one = bounds_of k j l u e in
    let other = bounds_of k j' l' u' f in
    let lower = inner_lower_is k l l' (lower_part k l u one.1) (lower_part k l' u' other.1) in
    let upper = inner_upper_is k u u' (upper_part k l u one.1) (upper_part k l' u' other.1) in
    between_of k j (inner_lower l l') (inner_upper u u') one.0 lower upper

union_is : (a b : Range) (k : RangeKind) → is_range k a ≡ true → is_range k b ≡ true → IfOk (union a b) (λ range. is_range k range ≡ true)
union_is (Empty j) b k e f = f
union_is (Bounds l u j) (Empty j') k e f = e
union_is (Bounds l u j) (Bounds l' u' j') k e f = by (overlaps (Bounds l u j) (Bounds l' u' j') || adjacent (Bounds l u j) (Bounds l' u' j'))
  where
    by : (t : Bool) → IfOk (cond t (Ok (merged (Bounds l u j) (Bounds l' u' j'))) (Err error.RangeData)) (λ range. is_range k range ≡ true)
    by true = merged_is (Bounds l u j) (Bounds l' u' j') k e f
    by false = tt

below_is : (a : Range) (bound : Option ℤ) (k : RangeKind) → is_range k a ≡ true → IsOf k bound → is_range k (below a bound) ≡ true
below_is (Empty j) bound k e a = e
below_is (Bounds l u j) None k e a = empty_still k j (bounds_of k j l u e).0
below_is (Bounds l u j) (Some n) k e a =
    let one = bounds_of k j l u e in
    between_of k j l (inner_upper u (Some n)) one.0 (lower_part k l u one.1) (inner_upper_is k u (Some n) (upper_part k l u one.1) a)

behind_is : (a : Range) (bound : Option ℤ) (k : RangeKind) → is_range k a ≡ true → IsOf k bound → is_range k (behind a bound) ≡ true
behind_is (Empty j) bound k e a = e
behind_is (Bounds l u j) None k e a = empty_still k j (bounds_of k j l u e).0
behind_is (Bounds l u j) (Some n) k e a =
    let one = bounds_of k j l u e in
    between_of k j (inner_lower l (Some n)) u one.0 (inner_lower_is k l (Some n) (lower_part k l u one.1) a) (upper_part k l u one.1)

single_is : (a b : Range) (k : RangeKind) → is_range k a ≡ true → is_range k b ≡ true → IfOk (single a b) (λ range. is_range k range ≡ true)
single_is (Empty j) b k e f = f
single_is (Bounds l u j) (Empty j') k e f = e
single_is (Bounds l u j) (Bounds l' u' j') k e f = tt

difference_is : (a b : Range) (k : RangeKind) → is_range k a ≡ true → is_range k b ≡ true → IfOk (difference a b) (λ range. is_range k range ≡ true)
difference_is a (Empty j') k e f = e
difference_is a (Bounds l' u' j') k e f =
    let other = bounds_of k j' l' u' f in
    single_is (below a l') (behind a u') k (below_is a l' k e (lower_part k l' u' other.1)) (behind_is a u' k e (upper_part k l' u' other.1))

-- ---- the same of what functions answer

pub union_result : (r : Result Range EvalError) (a b : Range) → r ≡ union a b → (k : RangeKind) → is_range k a ≡ true → is_range k b ≡ true → IfOk r (λ range. is_range k range ≡ true)
union_result r a b same k e f = subst (λ x. IfOk x (λ range. is_range k range ≡ true)) (sym same) (union_is a b k e f)

pub difference_result : (r : Result Range EvalError) (a b : Range) → r ≡ difference a b → (k : RangeKind) → is_range k a ≡ true → is_range k b ≡ true → IfOk r (λ range. is_range k range ≡ true)
difference_result r a b same k e f = subst (λ x. IfOk x (λ range. is_range k range ≡ true)) (sym same) (difference_is a b k e f)

pub merged_result : (r a b : Range) → r ≡ merged a b → (k : RangeKind) → is_range k a ≡ true → is_range k b ≡ true → is_range k r ≡ true
merged_result r a b same k e f = ap (is_range k) same ∙ merged_is a b k e f

pub intersection_result : (r a b : Range) → r ≡ intersection a b → (k : RangeKind) → is_range k a ≡ true → is_range k b ≡ true → is_range k r ≡ true
intersection_result r a b same k e f = ap (is_range k) same ∙ intersection_is a b k e f
