-- The block of a statement: its lines, whether the last says `ok`, and how many machine steps it took.
use Rattle.std.specs.Prelude.{ℕ, ◌+◌, List, [], ◌∷◌, ◌++◌, map, Bool, codes, Option, Some, None, Ok, Err}
use Rattle.std.specs.List.{concat}
use Rattle.std.specs.Fmt.{decimal}
use Rattle.xp_base.specs.Codes.{state_of, word_of}
use Rattle.xp_base.specs.declared.codes.Code.{Code}
use Rattle.xp_base.specs.declared.codes.Code.TheVariants as code
use Rattle.xp_base.specs.declared.codes.EvalError.{EvalError}
use Rattle.xp_catalog.specs.Contents.{Contents}
use Rattle.xp_resolve.specs.declared.typed.Use.{Use}
use Rattle.xp_run.specs.Answer.{Answer, OutputRow, Refused, Described, Evaluated, is_fine, steps_of}
use Rattle.xp_run.specs.Fields.{row_line}
use Rattle.xp_run.specs.Uses.{type_names, use_words}

pub record Block : Type 0 where
  -- each with the newline that ends it
  pub lines : List (List ℕ)
  pub ends_in_ok : Bool
  pub steps : ℕ

-- ---- lines

-- a line of the block of statement k: its number, and the parts behind it
abbrev pub numbered : ℕ → List (List ℕ) → List ℕ
numbered k parts = codes "-- " ++ decimal k ++ concat parts

abbrev pub types_line : ℕ → List ℕ → List ℕ
types_line k names = numbered k (codes " types " ∷ names ∷ codes "\n" ∷ [])

abbrev pub uses_line : ℕ → List ℕ → List ℕ
uses_line k words = numbered k (codes " uses " ∷ words ∷ codes "\n" ∷ [])

abbrev pub ok_line : ℕ → ℕ → List ℕ
ok_line k rows = numbered k (codes " ok " ∷ decimal rows ∷ codes "\n" ∷ [])

-- an error that is raised early, and one of a row
abbrev pub early_line : ℕ → Code → List ℕ
early_line k c = numbered k (codes " error " ∷ state_of c ∷ codes " " ∷ word_of c ∷ codes " early\n" ∷ [])

abbrev pub error_line : ℕ → Code → ℕ → List ℕ
error_line k c row = numbered k (codes " error " ∷ state_of c ∷ codes " " ∷ word_of c ∷ codes " row " ∷ decimal row ∷ codes "\n" ∷ [])

abbrev pub refused_line : ℕ → Code → ℕ → List ℕ
refused_line k c at = numbered k (codes " refused " ∷ state_of c ∷ codes " " ∷ word_of c ∷ codes " byte " ∷ decimal at ∷ codes "\n" ∷ [])

-- ---- blocks

-- a line for each overload that is chosen
abbrev pub uses_lines : Contents → ℕ → List Use → List (List ℕ)
uses_lines c k uses = map (λ one. uses_line k (use_words c one)) uses

-- the rows behind so many, up to and with the first that raises, and else the last line
abbrev pub row_lines : ℕ → ℕ → List OutputRow → List (List ℕ)
row_lines k before [] = ok_line k before ∷ []
row_lines k before (Ok values ∷ rows) = row_line values ∷ row_lines k (before + 1) rows
row_lines k before (Err error ∷ rows) = error_line k (code.Raised error) (before + 1) ∷ []

-- the lines behind that of the types
abbrev pub outcome_lines : ℕ → Option EvalError → List OutputRow → List (List ℕ)
outcome_lines k (Some error) rows = early_line k (code.Raised error) ∷ []
outcome_lines k None rows = row_lines k 0 rows

abbrev pub lines_of : Contents → ℕ → Answer → List (List ℕ)
lines_of c k (Refused code at) = refused_line k code at ∷ []
lines_of c k (Described types uses) = types_line k (type_names c types) ∷ (uses_lines c k uses ++ ok_line k 0 ∷ [])
lines_of c k (Evaluated types it) = types_line k (type_names c types) ∷ outcome_lines k it.early it.rows

-- the block of statement k
abbrev pub block_of : Contents → ℕ → Answer → Block
block_of c k answer = record { lines = lines_of c k answer; ends_in_ok = is_fine answer; steps = steps_of answer }
