-- The bytes of an array, by the list of its elements.
use Rattle.std.proofs.Common.{◌≡◌, ◌+◌, List, [], ◌∷◌, refl, sym, ap, ◌∙◌}
use Rattle.std.specs.Prelude.{sum_by}
use Rattle.std.proofs.lemmas.List.Sums.{sum_by-cons}
use denote.Hole.Carrier.{hidden}
use Rattle.xp_value.specs.declared.value.Value.{Value}
use Rattle.xp_value.specs.declared.value.Value.TheViews.{Arr}
use Rattle.xp_value.specs.declared.value.Value.TheBlock.{hidden-the_row-Value-0}
use Rattle.xp_value.specs.Representation.{byte_count, element_bytes}

row_bytes : (xs : List Value) → element_bytes (hidden-the_row-Value-0 xs) ≡ sum_by byte_count xs
unfolding hidden-the_row-Value-0 hidden
row_bytes [] = refl
row_bytes (x ∷ xs) = ap (λ n. byte_count x + n) (row_bytes xs) ∙ sym (sum_by-cons byte_count x xs)

pub array_bytes : (xs : List Value) → byte_count (Arr xs) ≡ sum_by byte_count xs
array_bytes xs = row_bytes xs
