-- One more operator of another name.
use Rattle.std.proofs.Common.{◌≡◌, ℕ, List, [], ◌∷◌, ◌++◌, false, ◌==◌, cond, length, refl, ◌∙◌, ap, Option, Some, None, option_map}
use Rattle.std.specs.List.{list_all}
use Rattle.std.specs.Option.{option_or}
use Rattle.std.specs.Str.{bytes_eq}
use Rattle.std.proofs.lemmas.Bool.{and_left}
use Rattle.xp_base.specs.declared.numbers.TypeNo.{TypeNo}
use Rattle.xp_catalog.specs.declared.rows.OperRow.{OperRow}
use Rattle.xp_catalog.specs.declared.record.Record.TheVariants as record_of
use Rattle.xp_catalog.specs.Contents.{Contents, added}
use Rattle.xp_catalog.specs.Lookups.{has_operands, operands, row_number, same_types}
use Rattle.xp_types.specs.Readers.{base}
use Rattle.xp_types.proofs.Places.{position_push}
use Rattle.xp_candidates.specs.Chosen.{chosen, made_of}
use Rattle.xp_candidates.proofs.Listed.{forms-unpushed}
use Rattle.xp_candidates.proofs.Others.{chosen-same}
use Rattle.xp_oper.specs.Candidates.{candidate_of, candidates, form_of}
use Rattle.xp_oper.specs.Exact.{assumed, both, exact, matched, may_match, other_operand}
use Rattle.xp_oper.specs.Picked.{chosen_operator, found_or, picked_operator}

module _ (c : Contents) (name : List ℕ) (oper : OperRow) (other : bytes_eq oper.name name ≡ false) where
  exact-same : (types : List TypeNo) → exact (added c (record_of.Operator oper)) name types ≡ exact c name types
  exact-same types =
      ap (λ place. cond (list_all (may_match c) types) (option_map row_number place) None)
      (position_push (has_operands name types) c.opers oper (and_left (bytes_eq oper.name name) (same_types (operands oper.left oper.right) types) other))

  assumed-same : (type : Option TypeNo) → assumed (added c (record_of.Operator oper)) name type ≡ assumed c name type
  assumed-same None = refl
  assumed-same (Some type) =
      ap (λ it. option_or it (exact (added c (record_of.Operator oper)) name (both (base c type)))) (exact-same (both type))
      ∙ ap (option_or (exact c name (both type))) (exact-same (both (base c type)))

  matched-same : (inputs : List TypeNo) → matched (added c (record_of.Operator oper)) name inputs ≡ matched c name inputs
  matched-same inputs =
      ap (λ it. option_or it (assumed (added c (record_of.Operator oper)) name (other_operand inputs))) (exact-same inputs)
      ∙ ap (option_or (exact c name inputs)) (assumed-same (other_operand inputs))

  no-form : (count place : ℕ) → form_of c name count place oper ≡ []
  no-form count place = ap (λ test. cond test (candidate_of c place oper ∷ []) []) (and_left (bytes_eq oper.name name) (length (operands oper.left oper.right) == count) other)

  candidates-same : (count : ℕ) → candidates (added c (record_of.Operator oper)) name count ≡ candidates c name count
  candidates-same count = forms-unpushed (form_of c name count) 0 c.opers oper (no-form count)

  choice-same : (inputs : List TypeNo) → chosen_operator (added c (record_of.Operator oper)) name inputs ≡ chosen_operator c name inputs
  choice-same inputs =
      ap (λ candidates. made_of (λ picked. picked.row) (chosen (added c (record_of.Operator oper)) false inputs candidates)) (candidates-same (length inputs))
      ∙ ap (made_of (λ picked. picked.row)) (chosen-same c c.funcs (c.opers ++ oper ∷ []) false inputs (candidates c name (length inputs)))

  pub picked-same : (inputs : List TypeNo) → picked_operator (added c (record_of.Operator oper)) name inputs ≡ picked_operator c name inputs
  picked-same inputs =
      ap (λ it. found_or it (chosen_operator (added c (record_of.Operator oper)) name inputs)) (matched-same inputs)
      ∙ ap (found_or (matched c name inputs)) (choice-same inputs)
