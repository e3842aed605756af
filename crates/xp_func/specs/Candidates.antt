-- The functions that a name and a number of arguments may mean (manual 10.3 step 1, 38.5.6).
use Rattle.std.specs.Prelude.{ℕ, ◌+◌, ◌-◌, List, [], ◌∷◌, ◌++◌, Bool, true, false, ◌==◌, ◌&&◌, cond, codes, length, nat_le, take, replicate, Option, Some, None, option_map, option_and_then}
use Rattle.std.specs.List.{list_any}
use Rattle.std.specs.Str.{bytes_eq}
use Rattle.std.proofs.Math.Bool.{beq}
use Rattle.xp_base.specs.declared.numbers.TypeNo.{TypeNo}
use Rattle.xp_catalog.specs.declared.rows.FuncRow.{FuncRow}
use Rattle.xp_catalog.specs.Contents.{Contents}
use Rattle.xp_catalog.specs.Lookups.{row_number, same_types, type_named}
use Rattle.xp_catalog.specs.Rules.{last_of}
use Rattle.xp_catalog.specs.declared.rows.PseudoType.{PseudoType}
use Rattle.xp_catalog.specs.declared.rows.PseudoType.TheVariants.{Any, AnyArray, AnyCompatibleArray}
use Rattle.xp_types.specs.Readers.{element, pseudo_type}
use Rattle.xp_candidates.specs.Forms.{forms_from}
use Rattle.xp_candidates.specs.declared.candidate.Candidate.{Candidate}

-- a record as it stands
abbrev pub unexpanded_of : ℕ → FuncRow → Candidate
unexpanded_of place func = record { row = row_number place; declared = func.args; result_type = func.result; expanded = 0 }

abbrev pub is_meant : List ℕ → ℕ → Bool → FuncRow → Bool
is_meant name count variadic func = bytes_eq func.name name && beq func.variadic variadic && (length func.args == count)

abbrev pub own_form : List ℕ → ℕ → Bool → ℕ → FuncRow → List Candidate
own_form name count variadic place func = cond (is_meant name count variadic func) (unexpanded_of place func ∷ []) []

-- the records of that name with that many arguments, as they stand: those that are variadic, or those that aren't
abbrev pub unexpanded : Contents → List ℕ → ℕ → Bool → List Candidate
unexpanded c name count variadic = forms_from (own_form name count variadic) 0 c.funcs

abbrev pub element_by : Contents → TypeNo → Option PseudoType → Option TypeNo
element_by c type (Some Any) = Some type
element_by c type (Some AnyArray) = type_named c (codes "anyelement")
element_by c type (Some AnyCompatibleArray) = type_named c (codes "anycompatible")
element_by c type _ = element c type

-- the type of one argument of a variadic parameter of that type
abbrev pub element_of : Contents → TypeNo → Option TypeNo
element_of c type = element_by c type (pseudo_type c type)

-- the last parameter replaced by that many of its element type
abbrev pub expanded_of : ℕ → FuncRow → ℕ → TypeNo → Candidate
expanded_of place func extra type = record {
  row = row_number place;
  declared = take (length func.args - 1) func.args ++ replicate extra type;
  result_type = func.result;
  expanded = extra;
}

-- a variadic record for a call of that many arguments, which are one at least for its last parameter
abbrev pub expansion : Contents → ℕ → ℕ → FuncRow → Option Candidate
expansion c count place func =
    cond (nat_le (length func.args) count) (option_map (expanded_of place func (count + 1 - length func.args)) (option_and_then (element_of c) (last_of func.args))) None

-- one of these has the same arguments
abbrev pub is_covered : List Candidate → Candidate → Bool
is_covered plain candidate = list_any (λ other. same_types other.declared candidate.declared) plain

abbrev pub unless_covered : List Candidate → Option Candidate → List Candidate
unless_covered plain None = []
unless_covered plain (Some candidate) = cond (is_covered plain candidate) [] (candidate ∷ [])

-- what a record gives: itself, or expanded where no record that isn't variadic has the same arguments
abbrev pub forms_of : Contents → ℕ → List Candidate → ℕ → FuncRow → List Candidate
forms_of c count plain place func =
    cond func.variadic (unless_covered plain (expansion c count place func)) (cond (length func.args == count) (unexpanded_of place func ∷ []) [])

abbrev pub named_forms : Contents → List ℕ → ℕ → List Candidate → ℕ → FuncRow → List Candidate
named_forms c name count plain place func = cond (bytes_eq func.name name) (forms_of c count plain place func) []

-- in the order of their records; behind the word VARIADIC the variadic records alone, and as they stand
abbrev pub candidates : Contents → List ℕ → ℕ → Bool → List Candidate
candidates c name count true = unexpanded c name count true
candidates c name count false = forms_from (named_forms c name count (unexpanded c name count false)) 0 c.funcs
