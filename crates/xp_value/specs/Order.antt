-- The order of values (manual 9.1, 9.2, 9.19, 9.20).
use Rattle.std.specs.Prelude.{ℕ, ◌*◌, ◌-◌, ◌^◌, ◌==◌, ℤ, pos, neg_ℤ, Bool, cond, List, [], ◌∷◌, Option, Some, None}
use Rattle.std.specs.declared.cmp.Ordering.{Ordering}
use Rattle.std.specs.declared.cmp.Ordering.TheVariants.{Less, Equal, Greater}
use Rattle.std.specs.Ordering.{nat_cmp, int_cmp, bool_cmp, ordering_then, is_eq}
use Rattle.std.specs.Cmp.Lexicographic.{slice_cmp}
use Rattle.xp_base.specs.declared.decimal.Dec.{Dec}
use Rattle.xp_value.specs.declared.value.Range.{Range}
use Rattle.xp_value.specs.declared.value.Range.TheVariants.{Empty, Bounds}
use Rattle.xp_value.specs.declared.value.Value.{Value, Arr', Row_of-Value, end_of-Value, more_of-Value}
use Rattle.xp_value.specs.declared.value.Value.TheVariants as value

-- a number, counted in units of the 38th decimal
abbrev pub units : Dec → ℤ
units d = cond d.neg (neg_ℤ (pos (d.coef * 10 ^ (38 - d.scale)))) (pos (d.coef * 10 ^ (38 - d.scale)))

-- a byte and what is left of the rest: a space with nothing behind it goes
abbrev pub before : ℕ → List ℕ → List ℕ
before c [] = cond (c == 32) [] (c ∷ [])
before c (d ∷ rest) = c ∷ d ∷ rest

-- a text without the spaces at its end
abbrev pub unpadded : List ℕ → List ℕ
unpadded [] = []
unpadded (c ∷ rest) = before c (unpadded rest)

-- a lower bound that is infinite comes first
abbrev pub lower_order : Option ℤ → Option ℤ → Ordering
lower_order None None = Equal
lower_order None (Some y) = Less
lower_order (Some x) None = Greater
lower_order (Some x) (Some y) = int_cmp x y

-- an upper bound that is infinite comes last
abbrev pub upper_order : Option ℤ → Option ℤ → Ordering
upper_order None None = Equal
upper_order None (Some y) = Greater
upper_order (Some x) None = Less
upper_order (Some x) (Some y) = int_cmp x y

-- the empty range comes first, then the lower bounds decide, then the upper ones
abbrev pub range_order : Range → Range → Ordering
range_order (Empty k) (Empty k') = Equal
range_order (Empty k) (Bounds lower' upper' k') = Less
range_order (Bounds lower upper k) (Empty k') = Greater
range_order (Bounds lower upper k) (Bounds lower' upper' k') = ordering_then (lower_order lower lower') (upper_order upper upper')

-- the place of a value's kind among the kinds: null comes last
abbrev pub kind : Value → ℕ
kind (value.Bool b) = 0
kind (value.Int n) = 1
kind (value.Num d) = 2
kind (value.Text t) = 3
kind (value.Pad t) = 4
kind (value.Bytes b) = 5
kind (value.Day n) = 6
kind (Arr' shape elements) = 7
kind (value.Rng r) = 8
kind (value.Opaque t) = 9
kind value.Null = 10

-- the order of two values, and of two lists of elements: the first two that differ decide, then the lengths
abbrev mutual
  pub value_order : Value → Value → Ordering
  value_order (value.Bool x) (value.Bool y) = bool_cmp x y
  value_order (value.Int x) (value.Int y) = int_cmp x y
  value_order (value.Num x) (value.Num y) = int_cmp (units x) (units y)
  value_order (value.Text x) (value.Text y) = slice_cmp nat_cmp x y
  value_order (value.Pad x) (value.Pad y) = slice_cmp nat_cmp (unpadded x) (unpadded y)
  value_order (value.Bytes x) (value.Bytes y) = slice_cmp nat_cmp x y
  value_order (value.Day x) (value.Day y) = int_cmp x y
  value_order (Arr' shape xs) (Arr' shape' ys) = elements_order xs ys
  value_order (value.Rng x) (value.Rng y) = range_order x y
  value_order (value.Opaque x) (value.Opaque y) = slice_cmp nat_cmp x y
  value_order x y = nat_cmp (kind x) (kind y)

  pub elements_order : {m n : _} → Row_of-Value m → Row_of-Value n → Ordering
  elements_order end_of-Value end_of-Value = Equal
  elements_order end_of-Value (more_of-Value y ys) = Less
  elements_order (more_of-Value x xs) end_of-Value = Greater
  elements_order (more_of-Value x xs) (more_of-Value y ys) = ordering_then (value_order x y) (elements_order xs ys)

-- the order tells two values apart in no way
abbrev pub is_same : Value → Value → Bool
is_same v w = is_eq (value_order v w)
