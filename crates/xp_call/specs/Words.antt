-- The words that the names of bodies are made of, and the types that they take (manual 9.1 to 9.5, 9.7, 9.9).
use Rattle.std.specs.Prelude.{ℕ, List, [], ◌∷◌, codes}
use Rattle.xp_call.specs.declared.operations.IntType.{IntType}
use Rattle.xp_call.specs.declared.operations.IntType.TheVariants.{Int2, Int4, Int8}
use Rattle.xp_call.specs.declared.operations.Comparison.{Comparison}
use Rattle.xp_call.specs.declared.operations.Comparison.TheVariants as comparison

abbrev pub type_name : IntType → List ℕ
type_name Int2 = codes "int2"
type_name Int4 = codes "int4"
type_name Int8 = codes "int8"

abbrev pub comparison_word : Comparison → List ℕ
comparison_word comparison.Equal = codes "eq"
comparison_word comparison.NotEqual = codes "ne"
comparison_word comparison.Less = codes "lt"
comparison_word comparison.AtMost = codes "le"
comparison_word comparison.Greater = codes "gt"
comparison_word comparison.AtLeast = codes "ge"

abbrev pub int_types : List IntType
int_types = Int2 ∷ Int4 ∷ Int8 ∷ []

abbrev pub comparisons : List Comparison
comparisons = comparison.Equal ∷ comparison.NotEqual ∷ comparison.Less ∷ comparison.AtMost ∷ comparison.Greater ∷ comparison.AtLeast ∷ []
