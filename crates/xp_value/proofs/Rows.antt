-- What is defined by the rows of an array's elements, by their list.
use Rattle.std.proofs.Common.{◌≡◌, ◌+◌, ◌&&◌, List, [], ◌∷◌, length, refl, sym, ap, ◌∙◌, arith}
use Rattle.std.specs.Prelude.{sum_by, nat_le}
use Rattle.std.specs.List.{list_all}
use Rattle.std.specs.Ordering.{ordering_then}
use Rattle.std.specs.Cmp.Lexicographic.{slice_cmp}
use Rattle.std.proofs.lemmas.List.Sums.{sum_by-cons}
use denote.Hole.Carrier.{hidden}
use Rattle.xp_base.specs.declared.limits.TheConstants.{VALUE_LIMIT, ELEMENT_LIMIT}
use Rattle.xp_value.specs.declared.value.Value.{Value}
use Rattle.xp_value.specs.declared.value.Value.TheViews.{Arr}
use Rattle.xp_value.specs.declared.value.Value.TheBlock.{hidden-the_row-Value-0}
use Rattle.xp_value.specs.Order.{value_order, elements_order}
use Rattle.xp_value.specs.Representation.{Shape, array_of, is_of, has, each_has, byte_count, element_bytes, element_count, is_short, are_short}

rows_order : (xs ys : List Value) → elements_order (hidden-the_row-Value-0 xs) (hidden-the_row-Value-0 ys) ≡ slice_cmp value_order xs ys
unfolding hidden-the_row-Value-0 hidden
rows_order [] [] = refl
rows_order [] (y ∷ ys) = refl
rows_order (x ∷ xs) [] = refl
rows_order (x ∷ xs) (y ∷ ys) = ap (ordering_then (value_order x y)) (rows_order xs ys)

pub order_of_arrays : (xs ys : List Value) → value_order (Arr xs) (Arr ys) ≡ slice_cmp value_order xs ys
order_of_arrays xs ys = rows_order xs ys

row_has : (s : Shape) (xs : List Value) → each_has s (hidden-the_row-Value-0 xs) ≡ list_all (has s) xs
unfolding hidden-the_row-Value-0 hidden
row_has s [] = refl
row_has s (x ∷ xs) = ap (λ b. has s x && b) (row_has s xs)

row_bytes : (xs : List Value) → element_bytes (hidden-the_row-Value-0 xs) ≡ sum_by byte_count xs
unfolding hidden-the_row-Value-0 hidden
row_bytes [] = refl
row_bytes (x ∷ xs) = ap (λ n. byte_count x + n) (row_bytes xs) ∙ sym (sum_by-cons byte_count x xs)

row_length : (xs : List Value) → element_count (hidden-the_row-Value-0 xs) ≡ length xs
unfolding hidden-the_row-Value-0 hidden
row_length [] = refl
row_length (x ∷ xs) = omega (arith, row_length xs)

row_is_short : (xs : List Value) → are_short (hidden-the_row-Value-0 xs) ≡ list_all is_short xs
unfolding hidden-the_row-Value-0 hidden
row_is_short [] = refl
row_is_short (x ∷ xs) = ap (λ b. is_short x && b) (row_is_short xs)

-- when a list is an array of a representation
pub array_is_of : (s : Shape) (xs : List Value) → is_of (array_of s) (Arr xs) ≡ (list_all (has s) xs && (nat_le (sum_by byte_count xs) VALUE_LIMIT && (nat_le (length xs) ELEMENT_LIMIT && list_all is_short xs)))
array_is_of s xs = simp (row_has, row_bytes, row_length, row_is_short)
