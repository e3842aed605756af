-- What is permitted of a few trees.
use Rattle.std.proofs.Common.{◌≡◌, ◌⊎◌, inl, inr, ℕ, List, [], ◌∷◌, true, false, pos, Ok, Err, refl, sym, ap, ◌∙◌, subst, slice_get, unwrap_or}
use Rattle.xp_base.specs.declared.codes.EvalError.{EvalError}
use Rattle.xp_base.specs.declared.codes.EvalError.TheVariants.{DivisionByZero}
use Rattle.xp_base.specs.declared.numbers.BodyNo.{BodyNo}
use Rattle.xp_base.specs.declared.numbers.RowNo.{RowNo}
use Rattle.xp_value.specs.declared.value.Value.{Value}
use Rattle.xp_value.specs.declared.value.Value.TheVariants as value
use Rattle.xp_tree.specs.declared.parts.NodeType.{NodeType}
use Rattle.xp_tree.specs.Term.{Term, none, more, Terms}
use Rattle.xp_meaning.specs.Nodes.{call_of}
use Rattle.xp_meaning.specs.Permits.{EachPermits, OfConstant, OfNode, Permits, Within, SomePermits}
use Rattle.xp_meaning.specs.Primitives.{Primitives}
use Rattle.xp_meaning.specs.Sets.{Choice, Errors, errors_of, Is, Raises}
use Rattle.xp_meaning.specs.Truth.{Outcome, is_true}
use Rattle.xp_meaning.specs.Worked.{AreThese, DividesByZero, IsThis, column_at, false_and_quotient, null_over_quotient, one_unless, over_column, quotient, strict_call, the}
use Rattle.xp_meaning.proofs.Itself.{itself}

no_error : (e : EvalError) (v : Value) → Is (Ok v) (Err e) → ⊥
no_error e v h = absurd cc

no_value : (e : EvalError) (v : Value) → Is (Err e) (Ok v) → ⊥
no_value e v h = absurd cc

raised : (errors : Errors) (o : Outcome) → Raises errors o → (e : EvalError) × errors e × Is (Err e) o
raised errors (Ok v) h = absurd h
raised errors (Err e) h = (e, h, refl)

same_value : (v w : Value) → Is (Ok w) (Ok v) → v ≡ w
same_value v w h = cc

not_null : (n : ℕ) → Is (Ok (value.Int (pos n))) (Ok value.Null) → ⊥
not_null n h = absurd cc

module _ (p : Primitives) (d : BodyNo) (r : RowNo) (ty : NodeType) (by_zero : DividesByZero p d) where
  of_leaf : (row : List Value) (v x : Value) (o : Outcome) → Permits p row v (the d r ty x) o → Is (Ok x) o
  of_leaf row v x o (inl h) = absurd (raised (λ e. ⊥) o h).1
  of_leaf row v x o (inr h) = h

  -- a constant raises nothing
  constant_fine : (row : List Value) (v : Value) (e : EvalError) → OfConstant (the d r ty v) (OfNode p row value.Null (the d r ty v)) (Within p row (the d r ty v)) e → ⊥
  constant_fine row v e (inl h) = no_error e v (of_leaf row value.Null v (Err e) h.1)
  constant_fine row v e (inr h) = h

  parts_fine : (row : List Value) (e : EvalError) → Within p row (quotient d r ty) e → ⊥
  parts_fine row e (inl h) = constant_fine row (value.Int (pos 1)) e h
  parts_fine row e (inr (inl h)) = constant_fine row (value.Int (pos 0)) e h
  parts_fine row e (inr (inr h)) = h

  abbrev numbers : Terms
  numbers = more (the d r ty (value.Int (pos 1))) (more (the d r ty (value.Int (pos 0))) none)

  divided : (row : List Value) (v : Value) (xs : List Value) → EachPermits p row v numbers xs → xs ≡ value.Int (pos 1) ∷ value.Int (pos 0) ∷ []
  divided row v [] h = absurd h
  divided row v (x ∷ []) h = absurd h.1
  divided row v (x ∷ y ∷ rest) h = rw (same_value x (value.Int (pos 1)) (of_leaf row v (value.Int (pos 1)) (Ok x) h.0), same_value y (value.Int (pos 0)) (of_leaf row v (value.Int (pos 0)) (Ok y) h.1.0), h.1.1) refl

  no_null : (row : List Value) (v : Value) → SomePermits p row v numbers (Ok value.Null) → ⊥
  no_null row v (inl h) = not_null 1 (of_leaf row v (value.Int (pos 1)) (Ok value.Null) h)
  no_null row v (inr (inl h)) = not_null 0 (of_leaf row v (value.Int (pos 0)) (Ok value.Null) h)
  no_null row v (inr (inr h)) = h

  numbers_fine : (row : List Value) (v : Value) (e : EvalError) → SomePermits p row v numbers (Err e) → ⊥
  numbers_fine row v e (inl h) = no_error e (value.Int (pos 1)) (of_leaf row v (value.Int (pos 1)) (Err e) h)
  numbers_fine row v e (inr (inl h)) = no_error e (value.Int (pos 0)) (of_leaf row v (value.Int (pos 0)) (Err e) h)
  numbers_fine row v e (inr (inr h)) = h

  -- 1/0 permits nothing but the error
  quotient_raises : (row : List Value) (v : Value) (o : Outcome) → Permits p row v (quotient d r ty) o → Is (Err DivisionByZero) o
  quotient_raises row v o (inl h) = absurd (let w = raised (Within p row (quotient d r ty)) o h in parts_fine row w.0 w.1)
  quotient_raises row v o (inr (inl h)) = absurd (no_null row v h.2)
  quotient_raises row v o (inr (inr (inl h))) = absurd (let w = raised (errors_of (SomePermits p row v numbers)) o h in numbers_fine row v w.0 w.1)
  quotient_raises row v o (inr (inr (inr h))) = h.2 ∙ ap (call_of p (strict_call d r ty)) (divided row v h.0 h.1) ∙ by_zero

  quotient_permits : (row : List Value) (v : Value) → Permits p row v (quotient d r ty) (Err DivisionByZero)
  quotient_permits row v = subst (Permits p row v (quotient d r ty)) by_zero (itself p row v (quotient d r ty))

  constant_raises : (row : List Value) (e : EvalError) → OfConstant (quotient d r ty) (OfNode p row value.Null (quotient d r ty)) (Within p row (quotient d r ty)) e → Is (Err DivisionByZero) (Err e)
  constant_raises row e (inl h) = quotient_raises row value.Null (Err e) h.1
  constant_raises row e (inr h) = absurd (parts_fine row e h)

  no_quotient : (row : List Value) (v x : Value) → Permits p row v (quotient d r ty) (Ok x) → ⊥
  no_quotient row v x h = no_value DivisionByZero x (quotient_raises row v (Ok x) h)

  pub arm_raises : AreThese (Permits p [] value.Null (false_and_quotient d r ty)) (Ok (value.Bool false)) (Err DivisionByZero)
  arm_raises o = (only, back)
    where
      only : Permits p [] value.Null (false_and_quotient d r ty) o → Is (Ok (value.Bool false)) o ⊎ Is (Err DivisionByZero) o
      only (inl h) = let w = raised _ o h in inr (w.2 ∙ constant w.0 w.1)
        where
          constant : (e : EvalError) → OfConstant (the d r ty (value.Bool false)) (OfNode p [] value.Null (the d r ty (value.Bool false))) (Within p [] (the d r ty (value.Bool false))) e
              ⊎ OfConstant (quotient d r ty) (OfNode p [] value.Null (quotient d r ty)) (Within p [] (quotient d r ty)) e → Is (Err DivisionByZero) (Err e)
          constant e (inl k) = absurd (constant_fine [] (value.Bool false) e k)
          constant e (inr k) = constant_raises [] e k
      only (inr (inl h)) = inl h.0
      only (inr (inr (inl h))) = absurd (let w = raised (errors_of (Permits p [] value.Null (the d r ty (value.Bool false)))) o h in no_error w.0 (value.Bool false) (of_leaf [] value.Null (value.Bool false) (Err w.0) w.1))
      only (inr (inr (inr (inl h)))) = let w = raised _ o h in inr (w.2 ∙ quotient_raises [] value.Null (Err w.0) w.1)
      only (inr (inr (inr (inr h)))) = absurd (no_quotient [] value.Null h.1 h.3)

      back : Is (Ok (value.Bool false)) o ⊎ Is (Err DivisionByZero) o → Permits p [] value.Null (false_and_quotient d r ty) o
      back (inl e) = subst (Permits p [] value.Null (false_and_quotient d r ty)) (sym e) (itself p [] value.Null (false_and_quotient d r ty))
      back (inr e) = subst (Permits p [] value.Null (false_and_quotient d r ty)) (sym e) (inr (inr (inr (inl (quotient_permits [] value.Null)))))

  abbrev Whole : List Value → Term → Errors
  Whole row t = OfConstant t (OfNode p row value.Null t) (Within p row t)

  of_column : (row : List Value) (v : Value) (number : ℕ) (o : Outcome) → Permits p row v (column_at d r ty number) o → Is (Ok (unwrap_or (slice_get row number) value.Null)) o
  of_column row v number o (inl h) = absurd (raised (λ e. ⊥) o h).1
  of_column row v number o (inr h) = h

  column_fine : (row : List Value) (number : ℕ) (e : EvalError) → Whole row (column_at d r ty number) e → ⊥
  column_fine row number e (inl h) = absurd (false_true h.0)
    where
      false_true : false ≡ true → ⊥
      false_true k = absurd cc
  column_fine row number e (inr h) = h

  condition_fine : (rest : List Value) (o : Outcome) → Raises (errors_of (Permits p (value.Bool true ∷ rest) value.Null (column_at d r ty 0))) o → ⊥
  condition_fine rest o h =
      let w = raised (errors_of (Permits p (value.Bool true ∷ rest) value.Null (column_at d r ty 0))) o h in
      no_error w.0 (value.Bool true) (of_column (value.Bool true ∷ rest) value.Null 0 (Err w.0) w.1)

  -- where the condition is true, the result is 1
  first_arm : (rest : List Value) (other : Term) (o : Outcome) (x : Value) → Permits p (value.Bool true ∷ rest) value.Null (column_at d r ty 0) (Ok x) → Choice (is_true x) (Permits p (value.Bool true ∷ rest) value.Null (the d r ty (value.Int (pos 1)))) (Permits p (value.Bool true ∷ rest) value.Null other) o → Is (Ok (value.Int (pos 1))) o
  first_arm rest other o x e h =
      let is_one = rw (same_value x (value.Bool true) (of_column (value.Bool true ∷ rest) value.Null 0 (Ok x) e)) at h in
      of_leaf (value.Bool true ∷ rest) value.Null (value.Int (pos 1)) o is_one

  pub constant_part : AreThese (Permits p (value.Bool true ∷ []) value.Null (one_unless d r ty (quotient d r ty))) (Ok (value.Int (pos 1))) (Err DivisionByZero)
  constant_part o = (only, back)
    where
      only : Permits p (value.Bool true ∷ []) value.Null (one_unless d r ty (quotient d r ty)) o → Is (Ok (value.Int (pos 1))) o ⊎ Is (Err DivisionByZero) o
      only (inl h) = let w = raised _ o h in inr (w.2 ∙ constant w.0 w.1)
        where
          constant : (e : EvalError) → (Whole (value.Bool true ∷ []) (column_at d r ty 0) e ⊎ (Whole (value.Bool true ∷ []) (the d r ty (value.Int (pos 1))) e ⊎ ⊥)) ⊎ Whole (value.Bool true ∷ []) (quotient d r ty) e → Is (Err DivisionByZero) (Err e)
          constant e (inl (inl k)) = absurd (column_fine (value.Bool true ∷ []) 0 e k)
          constant e (inl (inr (inl k))) = absurd (constant_fine (value.Bool true ∷ []) (value.Int (pos 1)) e k)
          constant e (inl (inr (inr k))) = absurd k
          constant e (inr k) = constant_raises (value.Bool true ∷ []) e k
      only (inr (inl h)) = absurd (condition_fine [] o h)
      only (inr (inr h)) = inl (first_arm [] (quotient d r ty) o h.0 h.1 h.2)

      back : Is (Ok (value.Int (pos 1))) o ⊎ Is (Err DivisionByZero) o → Permits p (value.Bool true ∷ []) value.Null (one_unless d r ty (quotient d r ty)) o
      back (inl e) = subst (Permits p (value.Bool true ∷ []) value.Null (one_unless d r ty (quotient d r ty))) (sym e) (itself p (value.Bool true ∷ []) value.Null (one_unless d r ty (quotient d r ty)))
      back (inr e) = subst (Permits p (value.Bool true ∷ []) value.Null (one_unless d r ty (quotient d r ty))) (sym e) (inl (inr (inl (refl, quotient_permits (value.Bool true ∷ []) value.Null))))

  abbrev at_zero : List Value
  at_zero = value.Bool true ∷ value.Int (pos 0) ∷ []

  column_parts_fine : (e : EvalError) → Whole at_zero (over_column d r ty) e → ⊥
  column_parts_fine e (inl h) = false_true h.0
    where
      false_true : false ≡ true → ⊥
      false_true k = absurd cc
  column_parts_fine e (inr (inl h)) = constant_fine at_zero (value.Int (pos 1)) e h
  column_parts_fine e (inr (inr (inl h))) = column_fine at_zero 1 e h
  column_parts_fine e (inr (inr (inr h))) = h

  pub no_constant_part : IsThis (Permits p (value.Bool true ∷ value.Int (pos 0) ∷ []) value.Null (one_unless d r ty (over_column d r ty))) (Ok (value.Int (pos 1)))
  no_constant_part o = (only, back)
    where
      only : Permits p at_zero value.Null (one_unless d r ty (over_column d r ty)) o → Is (Ok (value.Int (pos 1))) o
      only (inl h) = absurd (let w = raised _ o h in constant w.0 w.1)
        where
          constant : (e : EvalError) → (Whole at_zero (column_at d r ty 0) e ⊎ (Whole at_zero (the d r ty (value.Int (pos 1))) e ⊎ ⊥)) ⊎ Whole at_zero (over_column d r ty) e → ⊥
          constant e (inl (inl k)) = column_fine at_zero 0 e k
          constant e (inl (inr (inl k))) = constant_fine at_zero (value.Int (pos 1)) e k
          constant e (inl (inr (inr k))) = k
          constant e (inr k) = column_parts_fine e k
      only (inr (inl h)) = absurd (condition_fine (value.Int (pos 0) ∷ []) o h)
      only (inr (inr h)) = first_arm (value.Int (pos 0) ∷ []) (over_column d r ty) o h.0 h.1 h.2

      back : Is (Ok (value.Int (pos 1))) o → Permits p at_zero value.Null (one_unless d r ty (over_column d r ty)) o
      back e = subst (Permits p at_zero value.Null (one_unless d r ty (over_column d r ty))) (sym e) (itself p at_zero value.Null (one_unless d r ty (over_column d r ty)))

  pub strict_null : AreThese (Permits p [] value.Null (null_over_quotient d r ty)) (Ok value.Null) (Err DivisionByZero)
  strict_null o = (only, back)
    where
      of_some : (e : EvalError) → SomePermits p [] value.Null (more (the d r ty value.Null) (more (quotient d r ty) none)) (Err e) → Is (Err DivisionByZero) (Err e)
      of_some e (inl k) = absurd (no_error e value.Null (of_leaf [] value.Null value.Null (Err e) k))
      of_some e (inr (inl k)) = quotient_raises [] value.Null (Err e) k
      of_some e (inr (inr k)) = absurd k

      constant : (e : EvalError) → Whole [] (the d r ty value.Null) e ⊎ (Whole [] (quotient d r ty) e ⊎ ⊥) → Is (Err DivisionByZero) (Err e)
      constant e (inl k) = absurd (constant_fine [] value.Null e k)
      constant e (inr (inl k)) = constant_raises [] e k
      constant e (inr (inr k)) = absurd k

      no_list : (xs : List Value) → EachPermits p [] value.Null (more (the d r ty value.Null) (more (quotient d r ty) none)) xs → ⊥
      no_list [] h = h
      no_list (x ∷ []) h = h.1
      no_list (x ∷ y ∷ rest) h = no_quotient [] value.Null y h.1.0

      only : Permits p [] value.Null (null_over_quotient d r ty) o → Is (Ok value.Null) o ⊎ Is (Err DivisionByZero) o
      only (inl h) = let w = raised _ o h in inr (w.2 ∙ constant w.0 w.1)
      only (inr (inl h)) = inl h.1
      only (inr (inr (inl h))) = let w = raised (errors_of (SomePermits p [] value.Null (more (the d r ty value.Null) (more (quotient d r ty) none)))) o h in inr (w.2 ∙ of_some w.0 w.1)
      only (inr (inr (inr h))) = absurd (no_list h.0 h.1)

      back : Is (Ok value.Null) o ⊎ Is (Err DivisionByZero) o → Permits p [] value.Null (null_over_quotient d r ty) o
      back (inl e) = subst (Permits p [] value.Null (null_over_quotient d r ty)) (sym e) (inr (inl (refl, refl, inl (inr refl))))
      back (inr e) = subst (Permits p [] value.Null (null_over_quotient d r ty)) (sym e) (inr (inr (inl (inr (inl (quotient_permits [] value.Null))))))
