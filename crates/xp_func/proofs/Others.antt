-- One more function of another name.
use Rattle.std.proofs.Common.{◌≡◌, ℕ, List, [], ◌∷◌, ◌++◌, Bool, true, false, ◌&&◌, ◌==◌, cond, length, ◌∙◌, ap}
use Rattle.std.specs.Str.{bytes_eq}
use Rattle.std.proofs.Math.Bool.{beq}
use Rattle.xp_base.specs.declared.numbers.TypeNo.{TypeNo}
use Rattle.xp_catalog.specs.declared.rows.FuncRow.{FuncRow}
use Rattle.xp_catalog.specs.declared.record.Record.TheVariants as record_of
use Rattle.xp_catalog.specs.Contents.{Contents, added}
use Rattle.xp_candidates.specs.Chosen.{made_of}
use Rattle.xp_candidates.specs.Forms.{forms_from}
use Rattle.xp_candidates.specs.declared.candidate.Candidate.{Candidate}
use Rattle.xp_candidates.proofs.Listed.{forms-unpushed}
use Rattle.xp_candidates.proofs.Others.{chosen-same}
use Rattle.xp_func.specs.Candidates.{candidates, forms_of, named_forms, own_form, unexpanded, unexpanded_of}
use Rattle.xp_func.specs.Exact.{exact}
use Rattle.xp_func.specs.Picked.{exact_or, picked_among, picked_function, request_or}
use Rattle.xp_func.specs.Request.{cast_request}
use Rattle.xp_func.specs.declared.pick.PickedFunc.TheVariants.{Call}

module _ (c : Contents) (name : List ℕ) (func : FuncRow) (other : bytes_eq func.name name ≡ false) where
  no-own : (count : ℕ) (variadic : Bool) (place : ℕ) → own_form name count variadic place func ≡ []
  no-own count variadic place = ap (λ test. cond (test && beq func.variadic variadic && (length func.args == count)) (unexpanded_of place func ∷ []) []) other

  unexpanded-same : (count : ℕ) (variadic : Bool) → unexpanded (added c (record_of.Function func)) name count variadic ≡ unexpanded c name count variadic
  unexpanded-same count variadic = forms-unpushed (own_form name count variadic) 0 c.funcs func (no-own count variadic)

  no-form : (count : ℕ) (plain : List Candidate) (place : ℕ) → named_forms c name count plain place func ≡ []
  no-form count plain place = ap (λ test. cond test (forms_of c count plain place func) []) other

  candidates-same : (count : ℕ) (variadic : Bool) → candidates (added c (record_of.Function func)) name count variadic ≡ candidates c name count variadic
  candidates-same count true = unexpanded-same count true
  candidates-same count false =
      ap (λ plain. forms_from (named_forms c name count plain) 0 (c.funcs ++ func ∷ [])) (unexpanded-same count false)
      ∙ forms-unpushed (named_forms c name count (unexpanded c name count false)) 0 c.funcs func (no-form count (unexpanded c name count false))

  among-same : (inputs : List TypeNo) (variadic : Bool) (candidates : List Candidate) → picked_among (added c (record_of.Function func)) name inputs variadic candidates ≡ picked_among c name inputs variadic candidates
  among-same inputs variadic candidates =
      ap (λ choice. exact_or (exact inputs candidates) (request_or (cast_request c name inputs variadic) (made_of (λ picked. Call picked.row picked.expanded) choice)))
      (chosen-same c (c.funcs ++ func ∷ []) c.opers variadic inputs candidates)

  pub picked-same : (inputs : List TypeNo) (variadic : Bool) → picked_function (added c (record_of.Function func)) name inputs variadic ≡ picked_function c name inputs variadic
  picked-same inputs variadic =
      ap (picked_among (added c (record_of.Function func)) name inputs variadic) (candidates-same (length inputs) variadic)
      ∙ among-same inputs variadic (candidates c name (length inputs) variadic)
