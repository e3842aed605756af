-- The order of values is total.
use Rattle.std.proofs.Common.{ap, ◌≡◌, ℕ, ℤ, pos, true, false, List, [], ◌∷◌, Option, Some, None, refl, subst}
use Rattle.std.specs.declared.cmp.Ordering.{Ordering}
use Rattle.std.specs.declared.cmp.Ordering.TheVariants.{Less, Equal, Greater}
use Rattle.std.specs.Ordering.{nat_cmp, int_cmp, ordering_then, on, then_cmp}
use Rattle.std.specs.Cmp.{IsTotalOrder}
use Rattle.std.specs.Cmp.Lexicographic.{slice_cmp}
use Rattle.std.proofs.lemmas.Cmp.{nat_cmp_total, int_cmp_total, nat_list_cmp_total, on_total, then_total}
use Rattle.xp_value.specs.declared.value.Range.{Range}
use Rattle.xp_value.specs.declared.value.Range.TheVariants.{Empty, Bounds}
use Rattle.xp_value.specs.declared.value.RangeKind.TheVariants.{Int4}
use Rattle.xp_value.specs.declared.value.Value.{Value, Arr', Row_of-Value, end_of-Value, more_of-Value}
use Rattle.xp_value.specs.declared.value.Value.TheVariants as value
use Rattle.xp_value.specs.Order.{units, unpadded, lower_order, upper_order, range_order, kind, value_order, elements_order}
use Rattle.xp_value.proofs.Points.{OrdersAt, EachOrders, orders_total, orders_on, orders_then, orders_lists}

-- two orders that answer alike
alike_total : {K : Type 0} (R S : K → K → Ordering) → ((x y : K) → S x y ≡ R x y) → IsTotalOrder S → IsTotalOrder R
alike_total R S e t = let p : S ≡ R = λ i. λ x y. e x y i in subst IsTotalOrder p t

alike_orders : {K : Type 0} (R S : K → K → Ordering) (x : K) → ((x y : K) → S x y ≡ R x y) → OrdersAt S x → OrdersAt R x
alike_orders R S x e t = let p : S ≡ R = λ i. λ x y. e x y i in subst (λ T. OrdersAt T x) p t

then_equal : (o : Ordering) → ordering_then o Equal ≡ o
then_equal Less = refl
then_equal Equal = refl
then_equal Greater = refl

-- bounds, as a number that says whether they are finite, and the number itself
abbrev finite : Option ℤ → ℕ
finite None = 0
finite (Some x) = 1

abbrev infinite : Option ℤ → ℕ
infinite None = 1
infinite (Some x) = 0

abbrev bound : Option ℤ → ℤ
bound None = pos 0
bound (Some x) = x

lower_alike : (x y : Option ℤ) → then_cmp (on finite nat_cmp) (on bound int_cmp) x y ≡ lower_order x y
lower_alike None None = refl
lower_alike None (Some y) = refl
lower_alike (Some x) None = refl
lower_alike (Some x) (Some y) = refl

upper_alike : (x y : Option ℤ) → then_cmp (on infinite nat_cmp) (on bound int_cmp) x y ≡ upper_order x y
upper_alike None None = refl
upper_alike None (Some y) = refl
upper_alike (Some x) None = refl
upper_alike (Some x) (Some y) = refl

lower_total : IsTotalOrder lower_order
lower_total = alike_total lower_order (then_cmp (on finite nat_cmp) (on bound int_cmp)) lower_alike (then_total (on_total finite nat_cmp_total) (on_total bound int_cmp_total))

upper_total : IsTotalOrder upper_order
upper_total = alike_total upper_order (then_cmp (on infinite nat_cmp) (on bound int_cmp)) upper_alike (then_total (on_total infinite nat_cmp_total) (on_total bound int_cmp_total))

abbrev filled : Range → ℕ
filled (Empty k) = 0
filled (Bounds lower upper k) = 1

abbrev lower_of : Range → Option ℤ
lower_of (Empty k) = None
lower_of (Bounds lower upper k) = lower

abbrev upper_of : Range → Option ℤ
upper_of (Empty k) = None
upper_of (Bounds lower upper k) = upper

abbrev by_bounds : Range → Range → Ordering
by_bounds = then_cmp (on filled nat_cmp) (then_cmp (on lower_of lower_order) (on upper_of upper_order))

range_alike : (x y : Range) → by_bounds x y ≡ range_order x y
range_alike (Empty k) (Empty k') = refl
range_alike (Empty k) (Bounds lower' upper' k') = refl
range_alike (Bounds lower upper k) (Empty k') = refl
range_alike (Bounds lower upper k) (Bounds lower' upper' k') = refl

range_total : IsTotalOrder range_order
range_total = alike_total range_order by_bounds range_alike (then_total (on_total filled nat_cmp_total) (then_total (on_total lower_of lower_total) (on_total upper_of upper_total)))

-- what of a value decides among those of its kind
abbrev number : Value → ℤ
number (value.Bool false) = pos 0
number (value.Bool true) = pos 1
number (value.Int n) = n
number (value.Num d) = units d
number (value.Day n) = n
number _ = pos 0

abbrev bytes : Value → List ℕ
bytes (value.Text t) = t
bytes (value.Pad t) = unpadded t
bytes (value.Bytes b) = b
bytes (value.Opaque t) = t
bytes _ = []

abbrev range : Value → Range
range (value.Rng r) = r
range _ = Empty Int4

abbrev items : {m : _} → Row_of-Value m → List Value
items end_of-Value = []
items (more_of-Value v rest) = v ∷ items rest

abbrev elements : Value → List Value
elements (Arr' shape row) = items row
elements _ = []

abbrev by_range : Value → Value → Ordering
by_range = then_cmp (on range range_order) (on elements (slice_cmp value_order))

abbrev by_bytes : Value → Value → Ordering
by_bytes = then_cmp (on bytes (slice_cmp nat_cmp)) by_range

abbrev by_number : Value → Value → Ordering
by_number = then_cmp (on number int_cmp) by_bytes

abbrev by_parts : Value → Value → Ordering
by_parts = then_cmp (on kind nat_cmp) by_number

items_alike : {m n : _} (xs : Row_of-Value m) (ys : Row_of-Value n) → slice_cmp value_order (items xs) (items ys) ≡ elements_order xs ys
items_alike end_of-Value end_of-Value = refl
items_alike end_of-Value (more_of-Value y ys) = refl
items_alike (more_of-Value x xs) end_of-Value = refl
items_alike (more_of-Value x xs) (more_of-Value y ys) = ap (ordering_then (value_order x y)) (items_alike xs ys)

parts_alike : (x y : Value) → by_parts x y ≡ value_order x y
parts_alike (value.Bool false) (value.Bool false) = refl
parts_alike (value.Bool false) (value.Bool true) = refl
parts_alike (value.Bool true) (value.Bool false) = refl
parts_alike (value.Bool true) (value.Bool true) = refl
parts_alike (value.Int x) (value.Int y) = then_equal (int_cmp x y)
parts_alike (value.Num x) (value.Num y) = then_equal (int_cmp (units x) (units y))
parts_alike (value.Text x) (value.Text y) = then_equal (slice_cmp nat_cmp x y)
parts_alike (value.Pad x) (value.Pad y) = then_equal (slice_cmp nat_cmp (unpadded x) (unpadded y))
parts_alike (value.Bytes x) (value.Bytes y) = then_equal (slice_cmp nat_cmp x y)
parts_alike (value.Day x) (value.Day y) = then_equal (int_cmp x y)
parts_alike (Arr' shape xs) (Arr' shape' ys) = items_alike xs ys
parts_alike (value.Rng x) (value.Rng y) = then_equal (range_order x y)
parts_alike (value.Opaque x) (value.Opaque y) = then_equal (slice_cmp nat_cmp x y)
parts_alike value.Null value.Null = refl
parts_alike x y = refl

-- a value whose elements are ordered is
ordered : (v : Value) → EachOrders value_order (elements v) → OrdersAt value_order v
ordered v each = alike_orders value_order by_parts v parts_alike
    (orders_then (on kind nat_cmp) by_number v (orders_on kind nat_cmp v (orders_total nat_cmp nat_cmp_total (kind v)))
    (orders_then (on number int_cmp) by_bytes v (orders_on number int_cmp v (orders_total int_cmp int_cmp_total (number v)))
    (orders_then (on bytes (slice_cmp nat_cmp)) by_range v (orders_on bytes (slice_cmp nat_cmp) v (orders_total (slice_cmp nat_cmp) nat_list_cmp_total (bytes v)))
    (orders_then (on range range_order) (on elements (slice_cmp value_order)) v (orders_on range range_order v (orders_total range_order range_total (range v)))
    (orders_on elements (slice_cmp value_order) v (orders_lists value_order (elements v) each))))))

mutual
  value_orders : (v : Value) → OrdersAt value_order v
  value_orders (Arr' shape row) = ordered (Arr' shape row) (row_orders row)
  value_orders v = ordered v tt

  row_orders : {m : _} (row : Row_of-Value m) → EachOrders value_order (items row)
  row_orders end_of-Value = tt
  row_orders (more_of-Value v rest) = (value_orders v, row_orders rest)

pub value_order_total : IsTotalOrder value_order
value_order_total = record {
  antisymm = λ v. (value_orders v).antisymm;
  trans = λ v. (value_orders v).trans;
  congr = λ v. (value_orders v).congr;
}
