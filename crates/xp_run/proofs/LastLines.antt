-- The last line of a block begins with its number and `ok` exactly where nothing was refused and nothing raised.
use Rattle.std.proofs.Common.{◌≡◌, ℕ, ◌+◌, List, [], ◌∷◌, ◌++◌, Option, None, Some, Ok, Err, true, refl, codes, ◌&&◌, arith}
use Rattle.std.specs.Prelude.{Bool, nat_eq, is_none, is_ok}
use Rattle.std.proofs.lemmas.Bool.Decides.{nat_tests}
use Rattle.std.specs.Fmt.{decimal}
use Rattle.std.specs.List.{concat, list_all, starts_with}
use Rattle.xp_base.specs.Codes.{state_of, word_of}
use Rattle.xp_base.specs.declared.codes.Code.TheVariants as codes_of
use Rattle.xp_base.specs.declared.codes.EvalError.{EvalError}
use Rattle.xp_catalog.specs.Contents.{Contents}
use Rattle.xp_resolve.specs.declared.typed.Use.{Use}
use Rattle.xp_run.specs.Answer.{Answer, OutputRow, Refused, Described, Evaluated}
use Rattle.xp_run.specs.Blocks.{numbered, ok_line, outcome_lines, row_lines, types_line, uses_line, uses_lines}
use Rattle.xp_run.specs.Fields.{row_line}
use Rattle.xp_run.specs.LastLine.{EndsAsItSays, last_line}
use Rattle.xp_run.specs.Uses.{type_names, use_words}

same : (n : ℕ) → nat_eq n n ≡ true
same n = grind (arith, nat_tests)

-- a common front says nothing
behind : (front xs ys : List ℕ) → starts_with nat_eq (front ++ xs) (front ++ ys) ≡ starts_with nat_eq xs ys
behind [] xs ys = refl
behind (x ∷ front) xs ys = rw (same x) (behind front xs ys)

of_number : (k : ℕ) (parts others : List (List ℕ)) → starts_with nat_eq (numbered k parts) (numbered k others) ≡ starts_with nat_eq (concat parts) (concat others)
of_number k parts others = behind (decimal k) (concat parts) (concat others)

abbrev says : ℕ → List (List ℕ) → Bool
says k lines = starts_with nat_eq (last_line lines) (numbered k (codes " ok " ∷ []))

last_rows : (k before : ℕ) (first : List ℕ) (rows : List OutputRow) → says k (first ∷ row_lines k before rows) ≡ list_all is_ok rows
last_rows k before first [] = of_number k (codes " ok " ∷ decimal before ∷ codes "\n" ∷ []) (codes " ok " ∷ [])
last_rows k before first (Ok values ∷ rows) = last_rows k (before + 1) (row_line values) rows
last_rows k before first (Err error ∷ rows) = of_number k (codes " error " ∷ state_of (codes_of.Raised error) ∷ codes " " ∷ word_of (codes_of.Raised error) ∷ codes " row " ∷ decimal (before + 1) ∷ codes "\n" ∷ []) (codes " ok " ∷ [])

last_use : (c : Contents) (k : ℕ) (first : List ℕ) (uses : List Use) → says k (first ∷ (uses_lines c k uses ++ ok_line k 0 ∷ [])) ≡ true
last_use c k first [] = of_number k (codes " ok " ∷ decimal 0 ∷ codes "\n" ∷ []) (codes " ok " ∷ [])
last_use c k first (one ∷ uses) = last_use c k (uses_line k (use_words c one)) uses

last_outcome : (k : ℕ) (first : List ℕ) (early : Option EvalError) (rows : List OutputRow) → says k (first ∷ outcome_lines k early rows) ≡ (is_none early && list_all is_ok rows)
last_outcome k first None rows = last_rows k 0 first rows
last_outcome k first (Some error) rows = of_number k (codes " error " ∷ state_of (codes_of.Raised error) ∷ codes " " ∷ word_of (codes_of.Raised error) ∷ codes " early\n" ∷ []) (codes " ok " ∷ [])

pub ends_as_it_says : (c : Contents) (k : ℕ) (answer : Answer) → EndsAsItSays c k answer
ends_as_it_says c k (Refused code at) = of_number k (codes " refused " ∷ state_of code ∷ codes " " ∷ word_of code ∷ codes " byte " ∷ decimal at ∷ codes "\n" ∷ []) (codes " ok " ∷ [])
ends_as_it_says c k (Described types uses) = last_use c k (types_line k (type_names c types)) uses
ends_as_it_says c k (Evaluated types it) = last_outcome k (types_line k (type_names c types)) it.early it.rows
