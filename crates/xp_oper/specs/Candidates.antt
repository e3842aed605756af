-- The operators that a name and a number of operands may mean (manual 10.2 step 1).
use Rattle.std.specs.Prelude.{ℕ, List, [], ◌∷◌, Bool, ◌==◌, ◌&&◌, cond, length, slice_get}
use Rattle.std.specs.Option.{option_map_or}
use Rattle.std.specs.Str.{bytes_eq}
use Rattle.xp_base.specs.declared.numbers.TypeNo.{TypeNo}
use Rattle.xp_catalog.specs.declared.rows.OperRow.{OperRow}
use Rattle.xp_catalog.specs.Contents.{Contents}
use Rattle.xp_catalog.specs.Lookups.{operands, row_number}
use Rattle.xp_types.specs.Readers.{unknown}
use Rattle.xp_candidates.specs.Forms.{forms_from}
use Rattle.xp_candidates.specs.declared.candidate.Candidate.{Candidate}

-- an operator yields what its function yields
abbrev pub result_of : Contents → OperRow → TypeNo
result_of c oper = option_map_or (λ func. func.result) (slice_get c.funcs oper.function.0) unknown

abbrev pub candidate_of : Contents → ℕ → OperRow → Candidate
candidate_of c place oper = record { row = row_number place; declared = operands oper.left oper.right; result_type = result_of c oper; expanded = 0 }

abbrev pub is_meant : List ℕ → ℕ → OperRow → Bool
is_meant name count oper = bytes_eq oper.name name && length (operands oper.left oper.right) == count

-- a record gives itself where it is meant
abbrev pub form_of : Contents → List ℕ → ℕ → ℕ → OperRow → List Candidate
form_of c name count place oper = cond (is_meant name count oper) (candidate_of c place oper ∷ []) []

-- the operators of that name with that many operands, in the order of their records
abbrev pub candidates : Contents → List ℕ → ℕ → List Candidate
candidates c name count = forms_from (form_of c name count) 0 c.opers
