-- The points of ranges that are made of bounds, and of two ranges.
use Rattle.std.proofs.Common.{◌≡◌, Bool, true, false, ◌&&◌, ◌||◌, not, refl, ap, sym, ◌∙◌, arith, ℤ, pos, ◌-ℤ◌, int_lt, int_le, cond, Option, Some, None, Result, Ok, Err}
use Rattle.std.specs.Int.{int_max, int_min}
use Rattle.std.specs.Ordering.{int_eq}
use Rattle.std.proofs.lemmas.Bool.{and_from, and_parts, false≢true}
use Rattle.std.proofs.lemmas.Int.{ints}
use Rattle.xp_value.specs.Representation.{is_range}
use Rattle.xp_value.specs.declared.value.Range.{Range}
use Rattle.xp_value.specs.declared.value.Range.TheVariants.{Empty, Bounds}
use Rattle.xp_value.specs.declared.value.RangeKind.{RangeKind}
use Rattle.xp_range.specs.Bounds.{HasPoints, between, includes, inner_lower, inner_upper, is_from, is_under, is_until, outer_lower, outer_upper}
use Rattle.xp_base.specs.declared.codes.EvalError.{EvalError}
use Rattle.xp_base.specs.declared.codes.EvalError.TheVariants.{RangeData}
use Rattle.xp_range.specs.Relations.{before, contains, meets, overlaps, reaches_down, reaches_up}
use Rattle.xp_range.proofs.OfKind.{bounds_of, under_part}
use Rattle.xp_range.specs.Sets.{behind, below, difference, intersection, merged, single, union}

none_between : (l u p : ℤ) → int_lt l u ≡ false → (int_le l p && int_lt p u) ≡ false
none_between l u p e = grind (arith, ints)

pub between_points : (k : RangeKind) (l u : Option ℤ) (p : ℤ) → includes (between k l u) p ≡ (is_from l p && is_until u p)
between_points k None u p = refl
between_points k (Some l) None p = refl
between_points k (Some l) (Some u) p = by (int_lt l u) refl
  where
    by : (t : Bool) → int_lt l u ≡ t → includes (cond t (Bounds (Some l) (Some u) k) (Empty k)) p ≡ (int_le l p && int_lt p u)
    by true e = refl
    by false e = sym (none_between l u p e)

max_from : (x y p : ℤ) → int_le (int_max x y) p ≡ (int_le x p && int_le y p)
max_from x y p = grind (arith, ints)

min_until : (x y p : ℤ) → int_lt p (int_min x y) ≡ (int_lt p x && int_lt p y)
min_until x y p = grind (arith, ints)

min_from : (x y p : ℤ) → int_le (int_min x y) p ≡ (int_le x p || int_le y p)
min_from x y p = grind (arith, ints)

max_until : (x y p : ℤ) → int_lt p (int_max x y) ≡ (int_lt p x || int_lt p y)
max_until x y p = grind (arith, ints)

always : (t : Bool) → (t && true) ≡ t
always true = refl
always false = refl

ever : (t : Bool) → (t || true) ≡ true
ever true = refl
ever false = refl

pub inner_from : (x y : Option ℤ) (p : ℤ) → is_from (inner_lower x y) p ≡ (is_from x p && is_from y p)
inner_from None y p = refl
inner_from (Some x) None p = sym (always (int_le x p))
inner_from (Some x) (Some y) p = max_from x y p

pub inner_until : (x y : Option ℤ) (p : ℤ) → is_until (inner_upper x y) p ≡ (is_until x p && is_until y p)
inner_until None y p = refl
inner_until (Some x) None p = sym (always (int_lt p x))
inner_until (Some x) (Some y) p = min_until x y p

pub outer_from : (x y : Option ℤ) (p : ℤ) → is_from (outer_lower x y) p ≡ (is_from x p || is_from y p)
outer_from None y p = refl
outer_from (Some x) None p = sym (ever (int_le x p))
outer_from (Some x) (Some y) p = min_from x y p

pub outer_until : (x y : Option ℤ) (p : ℤ) → is_until (outer_upper x y) p ≡ (is_until x p || is_until y p)
outer_until None y p = refl
outer_until (Some x) None p = sym (ever (int_lt p x))
outer_until (Some x) (Some y) p = max_until x y p

never : (t : Bool) → false ≡ (t && false)
never true = refl
never false = refl

crosswise : (a b c d : Bool) → ((a && b) && (c && d)) ≡ ((a && c) && (b && d))
crosswise true true c d = refl
crosswise true false true d = refl
crosswise true false false d = refl
crosswise false b c d = refl

pub intersection_points : (a b : Range) (p : ℤ) → includes (intersection a b) p ≡ (includes a p && includes b p)
intersection_points (Empty k) b p = refl
intersection_points (Bounds l u k) (Empty k') p = never (is_from l p && is_until u p)
intersection_points (Bounds l u k) (Bounds l' u' k') p =
    between_points k (inner_lower l l') (inner_upper u u') p
    ∙ ap (λ t. t && is_until (inner_upper u u') p) (inner_from l l' p)
    ∙ ap (λ t. (is_from l p && is_from l' p) && t) (inner_until u u' p)
    ∙ crosswise (is_from l p) (is_from l' p) (is_until u p) (is_until u' p)

-- ---- the difference

flipped : (p n : ℤ) → int_lt p n ≡ not (int_le n p)
flipped p n = grind (arith, ints)

flopped : (p n : ℤ) → int_le n p ≡ not (int_lt p n)
flopped p n = grind (arith, ints)

below_bool : (a b c : Bool) → (a && (b && c)) ≡ ((a && b) && c)
below_bool true b c = refl
below_bool false b c = refl

behind_bool : (a b c : Bool) → ((a && c) && b) ≡ ((a && b) && c)
behind_bool true true true = refl
behind_bool true true false = refl
behind_bool true false true = refl
behind_bool true false false = refl
behind_bool false b c = refl

below_points : (a : Range) (bound : Option ℤ) (p : ℤ) → includes (below a bound) p ≡ (includes a p && not (is_from bound p))
below_points (Empty k) bound p = refl
below_points (Bounds l u k) None p = never (is_from l p && is_until u p)
below_points (Bounds l u k) (Some n) p =
    between_points k l (inner_upper u (Some n)) p
    ∙ ap (λ t. is_from l p && t) (inner_until u (Some n) p ∙ ap (λ t. is_until u p && t) (flipped p n))
    ∙ below_bool (is_from l p) (is_until u p) (not (int_le n p))

behind_points : (a : Range) (bound : Option ℤ) (p : ℤ) → includes (behind a bound) p ≡ (includes a p && not (is_until bound p))
behind_points (Empty k) bound p = refl
behind_points (Bounds l u k) None p = never (is_from l p && is_until u p)
behind_points (Bounds l u k) (Some n) p =
    between_points k (inner_lower l (Some n)) u p
    ∙ ap (λ t. t && is_until u p) (inner_from l (Some n) p ∙ ap (λ t. is_from l p && t) (flopped p n))
    ∙ behind_bool (is_from l p) (is_until u p) (not (int_lt p n))

abbrev okay : Range → Result Range EvalError
okay r = Ok r

ok_is : (r s : Range) → okay r ≡ okay s → r ≡ s
ok_is r s e = cc

or_false : (t : Bool) → (t || false) ≡ t
or_false true = refl
or_false false = refl

single_points : (a b r : Range) (p : ℤ) → single a b ≡ Ok r → includes r p ≡ (includes a p || includes b p)
single_points (Empty k) b r p e = sym (ap (λ x. includes x p) (ok_is b r e))
single_points (Bounds l u k) (Empty k') r p e = sym (ap (λ x. includes x p) (ok_is (Bounds l u k) r e)) ∙ sym (or_false (is_from l p && is_until u p))
single_points (Bounds l u k) (Bounds l' u' k') r p e = cc

parts_bool : (a l u : Bool) → ((a && not l) || (a && not u)) ≡ (a && not (l && u))
parts_bool true true u = refl
parts_bool true false true = refl
parts_bool true false false = refl
parts_bool false l u = refl

pub difference_points : (a b r : Range) (p : ℤ) → difference a b ≡ Ok r → includes r p ≡ (includes a p && not (includes b p))
difference_points a (Empty k') r p e = sym (ap (λ x. includes x p) (ok_is a r e)) ∙ sym (always (includes a p))
difference_points a (Bounds l' u' k') r p e =
    single_points (below a l') (behind a u') r p e
    ∙ ap (λ t. t || includes (behind a u') p) (below_points a l' p)
    ∙ ap (λ t. (includes a p && not (is_from l' p)) || t) (behind_points a u' p)
    ∙ parts_bool (includes a p) (is_from l' p) (is_until u' p)

-- ---- the union

-- no point lies from the upper bound on and below the lower one
abbrev pub NoGap : Option ℤ → Option ℤ → Type 0
NoGap upper lower = (p : ℤ) → is_until upper p ≡ false → is_from lower p ≡ false → ⊥

under_no_gap : (l u : Option ℤ) → is_under l u ≡ true → NoGap u l
under_no_gap None u e p f g = absurd (false≢true (sym g))
under_no_gap (Some l) None e p f g = absurd (false≢true (sym f))
under_no_gap (Some l) (Some u) e p f g = absurd (grind (arith, ints))

meets_no_gap : (u l : Option ℤ) → meets u l ≡ true → NoGap u l
meets_no_gap None l e p f g = absurd (false≢true e)
meets_no_gap (Some u) None e p f g = absurd (false≢true e)
meets_no_gap (Some u) (Some l) e p f g = absurd (grind (arith, ints))

-- where the first range's end meets the second, none lies between the second's end and the first
meets_other : (l u l' u' : Option ℤ) → is_under l u ≡ true → is_under l' u' ≡ true → meets u l' ≡ true → NoGap u' l
meets_other l None l' u' a b e p f g = absurd (false≢true e)
meets_other l (Some u) None u' a b e p f g = absurd (false≢true e)
meets_other None (Some u) (Some l') u' a b e p f g = absurd (false≢true (sym g))
meets_other (Some l) (Some u) (Some l') None a b e p f g = absurd (false≢true (sym f))
meets_other (Some l) (Some u) (Some l') (Some u') a b e p f g = absurd (grind (arith, ints))

merged_bool : (l u l' u' : Bool) → (u ≡ false → l' ≡ false → ⊥) → (u' ≡ false → l ≡ false → ⊥) → ((l || l') && (u || u')) ≡ ((l && u) || (l' && u'))
merged_bool true true l' u' g h = refl
merged_bool true false true u' g h = refl
merged_bool true false false u' g h = absurd (g refl refl)
merged_bool false true l' true g h = refl
merged_bool false true l' false g h = absurd (h refl refl)
merged_bool false false true u' g h = refl
merged_bool false false false u' g h = refl

merged_points : (l u l' u' : Option ℤ) (k k' : RangeKind) (p : ℤ) → NoGap u l' → NoGap u' l → includes (merged (Bounds l u k) (Bounds l' u' k')) p ≡ (includes (Bounds l u k) p || includes (Bounds l' u' k') p)
merged_points l u l' u' k k' p g h =
    ap (λ t. t && is_until (outer_upper u u') p) (outer_from l l' p)
    ∙ ap (λ t. (is_from l p || is_from l' p) && t) (outer_until u u' p)
    ∙ merged_bool (is_from l p) (is_until u p) (is_from l' p) (is_until u' p) (g p) (h p)

touching : (l u l' u' : Option ℤ) → is_under l u ≡ true → is_under l' u' ≡ true → ((is_under l u' && is_under l' u) || (meets u l' || meets u' l)) ≡ true → NoGap u l' × NoGap u' l
touching l u l' u' a b e = by (is_under l u') (is_under l' u) (meets u l') (meets u' l) refl refl refl refl e
  where
    by : (w x y z : Bool) → is_under l u' ≡ w → is_under l' u ≡ x → meets u l' ≡ y → meets u' l ≡ z → ((w && x) || (y || z)) ≡ true → NoGap u l' × NoGap u' l
    by true true y z c d f g h = (under_no_gap l' u d, under_no_gap l u' c)
    by true false true z c d f g h = (meets_no_gap u l' f, under_no_gap l u' c)
    by true false false true c d f g h = (meets_other l' u' l u b a g, meets_no_gap u' l g)
    by true false false false c d f g h = absurd (false≢true h)
    by false x true z c d f g h = (meets_no_gap u l' f, meets_other l u l' u' a b f)
    by false x false true c d f g h = (meets_other l' u' l u b a g, meets_no_gap u' l g)
    by false x false false c d f g h = absurd (false≢true h)

pub union_points : (a b r : Range) (k : RangeKind) (p : ℤ) → is_range k a ≡ true → is_range k b ≡ true → union a b ≡ Ok r → includes r p ≡ (includes a p || includes b p)
union_points (Empty j) b r k p of other e = sym (ap (λ x. includes x p) (ok_is b r e))
union_points (Bounds l u j) (Empty j') r k p of other e = sym (ap (λ x. includes x p) (ok_is (Bounds l u j) r e)) ∙ sym (or_false (is_from l p && is_until u p))
union_points (Bounds l u j) (Bounds l' u' j') r k p of other e = by ((is_under l u' && is_under l' u) || (meets u l' || meets u' l)) refl e
  where
    by : (t : Bool) → ((is_under l u' && is_under l' u) || (meets u l' || meets u' l)) ≡ t → cond t (okay (merged (Bounds l u j) (Bounds l' u' j'))) (Err RangeData) ≡ Ok r → includes r p ≡ (includes (Bounds l u j) p || includes (Bounds l' u' j') p)
    by true t f =
        let no = touching l u l' u' (under_part k l u (bounds_of k j l u of).1) (under_part k l' u' (bounds_of k j' l' u' other).1) t in
        sym (ap (λ x. includes x p) (ok_is (merged (Bounds l u j) (Bounds l' u' j')) r f)) ∙ merged_points l u l' u' j j' p no.0 no.1
    by false t f = cc

-- ---- relations

down_cases : (x y : Option ℤ) (p : ℤ) → reaches_down x y ≡ true → is_from y p ≡ true → is_from x p ≡ true
down_cases None y p e f = refl
down_cases (Some x) None p e f = absurd (false≢true e)
down_cases (Some x) (Some y) p e f = grind (arith, ints)

up_cases : (x y : Option ℤ) (p : ℤ) → reaches_up x y ≡ true → is_until y p ≡ true → is_until x p ≡ true
up_cases None y p e f = refl
up_cases (Some x) None p e f = absurd (false≢true e)
up_cases (Some x) (Some y) p e f = grind (arith, ints)

pub contains_points : (a b : Range) (p : ℤ) → contains a b ≡ true → includes b p ≡ true → includes a p ≡ true
contains_points a (Empty k') p e f = absurd (false≢true f)
contains_points (Empty k) (Bounds l' u' k') p e f = absurd (false≢true e)
contains_points (Bounds l u k) (Bounds l' u' k') p e f =
    let both = and_parts (reaches_down l l') (reaches_up u u') e in
    let at = and_parts (is_from l' p) (is_until u' p) f in
    and_from _ _ (down_cases l l' p both.0 at.0) (up_cases u u' p both.1 at.1)

-- a point between the two bounds, where one lies there
abbrev witness : Option ℤ → Option ℤ → ℤ
witness None None = pos 0
witness None (Some u) = u -ℤ pos 1
witness (Some l) u = l

lower_self : (l : ℤ) → int_le l l ≡ true
lower_self l = grind (arith, ints)

before_self : (u : ℤ) → int_lt (u -ℤ pos 1) u ≡ true
before_self u = grind (arith, ints)

witness_is : (l u : Option ℤ) → is_under l u ≡ true → (is_from l (witness l u) && is_until u (witness l u)) ≡ true
witness_is None None e = refl
witness_is None (Some u) e = before_self u
witness_is (Some l) None e = and_from _ _ (lower_self l) refl
witness_is (Some l) (Some u) e = and_from _ _ (lower_self l) e

inner_under : (l u l' u' : Option ℤ) → is_under l u ≡ true → is_under l' u' ≡ true → is_under l u' ≡ true → is_under l' u ≡ true → is_under (inner_lower l l') (inner_upper u u') ≡ true
inner_under None None l' u' a b c d = b
inner_under None (Some u) l' None a b c d = d
inner_under None (Some u) None (Some u') a b c d = refl
inner_under None (Some u) (Some l') (Some u') a b c d = grind (arith, ints)
inner_under (Some l) None None u' a b c d = c
inner_under (Some l) None (Some l') None a b c d = refl
inner_under (Some l) None (Some l') (Some u') a b c d = grind (arith, ints)
inner_under (Some l) (Some u) None None a b c d = a
inner_under (Some l) (Some u) None (Some u') a b c d = grind (arith, ints)
inner_under (Some l) (Some u) (Some l') None a b c d = grind (arith, ints)
inner_under (Some l) (Some u) (Some l') (Some u') a b c d = grind (arith, ints)

-- ranges that overlap have a point in common
pub overlap_point : (a b : Range) (k : RangeKind) → is_range k a ≡ true → is_range k b ≡ true → overlaps a b ≡ true → (p : ℤ) × ((includes a p && includes b p) ≡ true)
overlap_point (Empty j) b k of other e = absurd (false≢true e)
overlap_point (Bounds l u j) (Empty j') k of other e = absurd (false≢true e)
overlap_point (Bounds l u j) (Bounds l' u' j') k of other e =
    let both = and_parts (is_under l u') (is_under l' u) e in
    let lower = inner_lower l l' in
    let upper = inner_upper u u' in
    let under = inner_under l u l' u' (under_part k l u (bounds_of k j l u of).1) (under_part k l' u' (bounds_of k j' l' u' other).1) both.0 both.1 in
    let p = witness lower upper in
    (p, sym (intersection_points (Bounds l u j) (Bounds l' u' j') p) ∙ between_points j lower upper p ∙ witness_is lower upper under)

common_under : (l u : Option ℤ) (p : ℤ) → is_from l p ≡ true → is_until u p ≡ true → is_under l u ≡ true
common_under None u p e f = refl
common_under (Some l) None p e f = refl
common_under (Some l) (Some u) p e f = grind (arith, ints)

-- and ranges with a point in common overlap
pub point_overlap : (a b : Range) (p : ℤ) → includes a p ≡ true → includes b p ≡ true → overlaps a b ≡ true
point_overlap (Empty k) b p e f = absurd (false≢true e)
point_overlap (Bounds l u k) (Empty k') p e f = absurd (false≢true f)
point_overlap (Bounds l u k) (Bounds l' u' k') p e f =
    let one = and_parts (is_from l p) (is_until u p) e in
    let two = and_parts (is_from l' p) (is_until u' p) f in
    and_from _ _ (common_under l u' p one.0 two.1) (common_under l' u p two.0 one.1)

-- ---- what is refused is no range

from_later : (l : Option ℤ) (p s : ℤ) → is_from l p ≡ true → int_le p s ≡ true → is_from l s ≡ true
from_later None p s e f = refl
from_later (Some l) p s e f = grind (arith, ints)

until_earlier : (u : Option ℤ) (p s : ℤ) → is_until u p ≡ true → int_le s p ≡ true → is_until u s ≡ true
until_earlier None p s e f = refl
until_earlier (Some u) p s e f = grind (arith, ints)

-- a range includes what lies between two of its points
between_two : (r : Range) (p s q : ℤ) → includes r p ≡ true → includes r q ≡ true → int_le p s ≡ true → int_le s q ≡ true → includes r s ≡ true
between_two (Empty k) p s q e f g h = absurd (false≢true e)
between_two (Bounds l u k) p s q e f g h =
    and_from _ _ (from_later l p s (and_parts (is_from l p) (is_until u p) e).0 g) (until_earlier u q s (and_parts (is_from l q) (is_until u q) f).1 h)

no_such : (points : ℤ → Bool) (r : Range) (p s q : ℤ) → HasPoints r points → points p ≡ true → points q ≡ true → int_le p s ≡ true → int_le s q ≡ true → points s ≡ false → ⊥
no_such points r p s q has e f g h out =
    false≢true (sym out ∙ sym (has s) ∙ between_two r p s q (has p ∙ e) (has q ∙ f) g h)

or_first : (a b : Bool) → a ≡ true → (a || b) ≡ true
or_first a b e = ap (λ t. t || b) e

or_second : (a b : Bool) → b ≡ true → (a || b) ≡ true
or_second a b e = ap (λ t. a || t) e ∙ ever a

or_none : (a b : Bool) → a ≡ false → b ≡ false → (a || b) ≡ false
or_none a b e f = ap (λ t. t || b) e ∙ f

and_none : (a b : Bool) → a ≡ false → (a && b) ≡ false
and_none a b e = ap (λ t. t && b) e

last_in : (l : Option ℤ) (u : ℤ) → is_under l (Some u) ≡ true → is_from l (u -ℤ pos 1) ≡ true
last_in None u e = refl
last_in (Some l) u e = grind (arith, ints)

not_own : (u : ℤ) → int_lt u u ≡ false
not_own u = grind (arith, ints)

not_from : (u l' : ℤ) → int_lt l' u ≡ false → int_eq u l' ≡ false → int_le l' u ≡ false
not_from u l' e f = grind (arith, ints)

just_before : (u : ℤ) → int_le (u -ℤ pos 1) u ≡ true
just_before u = grind (arith, ints)

up_to : (u l' : ℤ) → int_lt l' u ≡ false → int_le u l' ≡ true
up_to u l' e = grind (arith, ints)

first_in : (l : ℤ) (u : Option ℤ) → is_under (Some l) u ≡ true → (int_le l l && is_until u l) ≡ true
first_in l None e = and_from _ _ (lower_self l) refl
first_in l (Some u) e = and_from _ _ (lower_self l) e

out_of_own : (l : Option ℤ) (u : ℤ) → (is_from l u && int_lt u u) ≡ false
out_of_own l u = ap (λ t. is_from l u && t) (not_own u) ∙ sym (never (is_from l u))

-- the second range lies behind the first, and doesn't meet it
gap : (l u l' u' : Option ℤ) (k k' : RangeKind) (r : Range) → is_under l u ≡ true → is_under l' u' ≡ true → is_under l' u ≡ false → meets u l' ≡ false → HasPoints r (λ p. includes (Bounds l u k) p || includes (Bounds l' u' k') p) → ⊥
gap l u None u' k k' r a b e f has = false≢true (sym e)
gap l None (Some l') u' k k' r a b e f has = false≢true (sym e)
gap l (Some u) (Some l') u' k k' r a b e f has =
    no_such (λ p. includes (Bounds l (Some u) k) p || includes (Bounds (Some l') u' k') p) r (u -ℤ pos 1) u l' has
    (or_first _ _ (and_from _ _ (last_in l u a) (before_self u)))
    (or_second (includes (Bounds l (Some u) k) l') _ (first_in l' u' b))
    (just_before u) (up_to u l' e)
    (or_none _ _ (out_of_own l u) (and_none _ _ (not_from u l' e f)))

or_swap : (a b : Bool) → (a || b) ≡ (b || a)
or_swap true b = sym (ever b)
or_swap false b = sym (or_false b)

apart : (l u l' u' : Option ℤ) (k k' : RangeKind) (r : Range) → is_under l u ≡ true → is_under l' u' ≡ true → ((is_under l u' && is_under l' u) || (meets u l' || meets u' l)) ≡ false → HasPoints r (λ p. includes (Bounds l u k) p || includes (Bounds l' u' k') p) → ⊥
apart l u l' u' k k' r a b e has = by (is_under l u') (is_under l' u) (meets u l') (meets u' l) refl refl refl refl e
  where
    by : (w x y z : Bool) → is_under l u' ≡ w → is_under l' u ≡ x → meets u l' ≡ y → meets u' l ≡ z → ((w && x) || (y || z)) ≡ false → ⊥
    by true true y z c d f g h = false≢true (sym h)
    by true false true z c d f g h = false≢true (sym h)
    by true false false z c d f g h = gap l u l' u' k k' r a b d f has
    by false x true z c d f g h = false≢true (sym h)
    by false x false true c d f g h = false≢true (sym h)
    by false x false false c d f g h = gap l' u' l u k' k r b a c g (λ p. has p ∙ or_swap (includes (Bounds l u k) p) (includes (Bounds l' u' k') p))

-- where a union is refused, no range has the points of both
pub union_refused : (a b : Range) (k : RangeKind) → is_range k a ≡ true → is_range k b ≡ true → union a b ≡ Err RangeData → (r : Range) → HasPoints r (λ p. includes a p || includes b p) → ⊥
union_refused (Empty j) b k of other e r has = cc
union_refused (Bounds l u j) (Empty j') k of other e r has = cc
union_refused (Bounds l u j) (Bounds l' u' j') k of other e r has = by ((is_under l u' && is_under l' u) || (meets u l' || meets u' l)) refl e
  where
    by : (t : Bool) → ((is_under l u' && is_under l' u) || (meets u l' || meets u' l)) ≡ t → cond t (okay (merged (Bounds l u j) (Bounds l' u' j'))) (Err RangeData) ≡ Err RangeData → ⊥
    by true t f = cc
    by false t f = apart l u l' u' j j' r (under_part k l u (bounds_of k j l u of).1) (under_part k l' u' (bounds_of k j' l' u' other).1) t has

-- a part that isn't empty has a point
part_point : (k : RangeKind) (l u : Option ℤ) → is_under l u ≡ true → includes (between k l u) (witness l u) ≡ true
part_point k l u e = between_points k l u (witness l u) ∙ witness_is l u e

negated : (t : Bool) → not t ≡ true → t ≡ false
negated true e = absurd (false≢true e)
negated false e = refl

before_bound : (p n : ℤ) → int_le n p ≡ false → int_le p n ≡ true
before_bound p n e = grind (arith, ints)

past_bound : (p n m : ℤ) → int_lt p m ≡ false → int_lt n m ≡ true → int_le n p ≡ true
past_bound p n m e f = grind (arith, ints)

none_out : (a b : Bool) → b ≡ true → (a && not b) ≡ false
none_out a b e = ap (λ t. a && not t) e ∙ sym (never a)

out_in : (a b : Bool) → a ≡ true → b ≡ false → (a && not b) ≡ true
out_in a b e f = ap (λ t. t && not b) e ∙ ap (λ t. not t) f

second_none : (a b : Bool) → b ≡ false → (a && b) ≡ false
second_none a b e = ap (λ t. a && t) e ∙ sym (never a)

-- the first range has a point before the second, and one behind it
around : (a r : Range) (l' u' p q : ℤ) (k' : RangeKind) → int_lt l' u' ≡ true → (includes a p && not (int_le l' p)) ≡ true → (includes a q && not (int_lt q u')) ≡ true → HasPoints r (λ x. includes a x && not (includes (Bounds (Some l') (Some u') k') x)) → ⊥
around a r l' u' p q k' e f g has =
    let one = and_parts (includes a p) (not (int_le l' p)) f in
    let two = and_parts (includes a q) (not (int_lt q u')) g in
    let low = negated (int_le l' p) one.1 in
    let high = negated (int_lt q u') two.1 in
    no_such (λ x. includes a x && not (includes (Bounds (Some l') (Some u') k') x)) r p l' q has
    (out_in (includes a p) _ one.0 (and_none _ _ low))
    (out_in (includes a q) _ two.0 (second_none (int_le l' q) _ high))
    (before_bound p l' low) (past_bound q l' u' high e)
    (none_out (includes a l') _ (and_from _ _ (lower_self l') e))

abbrev IsSomeBounds : Range → Type 0
IsSomeBounds (Empty k) = ⊥
IsSomeBounds (Bounds l u k) = Unit {0}

single_both : (a b : Range) → single a b ≡ Err RangeData → IsSomeBounds a × IsSomeBounds b
single_both (Empty k) b e = cc
single_both (Bounds l u k) (Empty k') e = cc
single_both (Bounds l u k) (Bounds l' u' k') e = (tt, tt)

between_point : (k : RangeKind) (l u : Option ℤ) → IsSomeBounds (between k l u) → (p : ℤ) × (includes (between k l u) p ≡ true)
between_point k l u some = by (is_under l u) refl some
  where
    by : (t : Bool) → is_under l u ≡ t → IsSomeBounds (cond t (Bounds l u k) (Empty k)) → (p : ℤ) × (includes (between k l u) p ≡ true)
    by true e some = (witness l u, part_point k l u e)
    by false e some = absurd some

below_point : (a : Range) (n : ℤ) → IsSomeBounds (below a (Some n)) → (p : ℤ) × ((includes a p && not (int_le n p)) ≡ true)
below_point (Empty k) n some = absurd some
below_point (Bounds l u k) n some =
    let at = between_point k l (inner_upper u (Some n)) some in
    (at.0, sym (below_points (Bounds l u k) (Some n) at.0) ∙ at.1)

behind_point : (a : Range) (n : ℤ) → IsSomeBounds (behind a (Some n)) → (p : ℤ) × ((includes a p && not (int_lt p n)) ≡ true)
behind_point (Empty k) n some = absurd some
behind_point (Bounds l u k) n some =
    let at = between_point k (inner_lower l (Some n)) u some in
    (at.0, sym (behind_points (Bounds l u k) (Some n) at.0) ∙ at.1)

below_finite : (a : Range) → IsSomeBounds (below a None) → ⊥
below_finite (Empty k) some = some
below_finite (Bounds l u k) some = some

behind_finite : (a : Range) → IsSomeBounds (behind a None) → ⊥
behind_finite (Empty k) some = some
behind_finite (Bounds l u k) some = some

-- where a difference is refused, no range has the points of the first that aren't in the second
pub difference_refused : (a b : Range) (k : RangeKind) → is_range k b ≡ true → difference a b ≡ Err RangeData → (r : Range) → HasPoints r (λ p. includes a p && not (includes b p)) → ⊥
difference_refused a (Empty j') k of e r has = cc
difference_refused a (Bounds None u' j') k of e r has = below_finite a (single_both (below a None) (behind a u') e).0
difference_refused a (Bounds (Some l') None j') k of e r has = behind_finite a (single_both (below a (Some l')) (behind a None) e).1
difference_refused a (Bounds (Some l') (Some u') j') k of e r has =
    let both = single_both (below a (Some l')) (behind a (Some u')) e in
    let p = below_point a l' both.0 in
    let q = behind_point a u' both.1 in
    around a r l' u' p.0 q.0 j' (under_part k (Some l') (Some u') (bounds_of k j' (Some l') (Some u') of).1) p.1 q.1 has

-- ---- before

before_apart : (u l' : Option ℤ) (p q : ℤ) → not (is_under l' u) ≡ true → is_until u p ≡ true → is_from l' q ≡ true → int_lt p q ≡ true
before_apart u None p q e f g = absurd (false≢true e)
before_apart None (Some l') p q e f g = absurd (false≢true e)
before_apart (Some u) (Some l') p q e f g = apart_by u l' p q (negated (int_lt l' u) e) f g
  where
    apart_by : (u l' p q : ℤ) → int_lt l' u ≡ false → int_lt p u ≡ true → int_le l' q ≡ true → int_lt p q ≡ true
    apart_by u l' p q e f g = grind (arith, ints)

pub before_points : (a b : Range) (p q : ℤ) → before a b ≡ true → includes a p ≡ true → includes b q ≡ true → int_lt p q ≡ true
before_points (Empty k) b p q e f g = absurd (false≢true f)
before_points (Bounds l u k) (Empty k') p q e f g = absurd (false≢true g)
before_points (Bounds l u k) (Bounds l' u' k') p q e f g =
    before_apart u l' p q e (and_parts (is_from l p) (is_until u p) f).1 (and_parts (is_from l' q) (is_until u' q) g).0
