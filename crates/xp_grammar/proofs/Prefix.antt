-- A fault stands at one place only.
use Rattle.std.proofs.Common.{◌≡◌, ℕ, suc, ◌+◌, ◌≤◌, ◌⊎◌, inl, inr, List, [], ◌∷◌, ◌++◌, length, Result, Ok, Err, refl, sym, ap, subst, ◌∙◌, append_assoc, append-nil, length-append, arith}
use Rattle.xp_token.specs.declared.token.Token.{Token}
use Rattle.xp_grammar.specs.Table.{Value}
use Rattle.xp_grammar.specs.Reads.{IsStatement, IsFront, Stuck, Fault, read}
use Rattle.xp_grammar.proofs.Continued.{cut}
use Rattle.xp_grammar.proofs.Exact.{read_is_derived, err_is_fault}

pub begun : (u a b : List Token) → u ≡ a ++ b → IsFront u → IsFront a
begun u a b e (r, v, d) = (b ++ r, v, subst (λ z. IsStatement z v) (ap (λ z. z ++ r) e ∙ append_assoc a b r) d)

stuck_last : (ts u r u' r' : List Token) → ts ≡ u ++ r → ts ≡ u' ++ r' → Stuck u r → IsFront u' → length r ≤ length r'
stuck_last ts u [] u' r' e e' s f = omega arith
stuck_last ts u (t ∷ r) u' r' e e' s f = by (cut u' r' (u ++ t ∷ []) r (sym e' ∙ e ∙ sym (append_assoc u (t ∷ []) r)))
  where
    by : ((c : List Token) × (u' ≡ (u ++ t ∷ []) ++ c)) ⊎ ((c : List Token) × (u ++ t ∷ [] ≡ u' ++ c) × (r' ≡ c ++ r)) → length (t ∷ r) ≤ length r'
    by (inl (c, h)) = absurd (s (begun u' (u ++ t ∷ []) c h f))
    by (inr (c, h, g)) = longer c h g
      where
        longer : (c : List Token) → u ++ t ∷ [] ≡ u' ++ c → r' ≡ c ++ r → length (t ∷ r) ≤ length r'
        longer [] h' g' = absurd (s (subst IsFront (sym (h' ∙ append-nil u')) f))
        longer (x ∷ c') h' g' = let len : length r' ≡ suc (length c' + length r) = ap length g' ∙ ap suc (length-append c' r) in omega (arith, len)

-- the place of a fault is told by the tokens
pub one_fault : (ts : List Token) (m n : ℕ) → Fault ts m → Fault ts n → m ≤ n
one_fault ts m n a b =
    let q = stuck_last ts a.before a.after b.before b.after a.split b.split a.stuck b.front in
    omega (arith, q, a.count, b.count)

-- where there is a fault, it is answered
pub fault_is_err : (ts : List Token) (n : ℕ) → Fault ts n → read ts ≡ Err n
fault_is_err ts n f = by (read ts) refl
  where
    no_statement : (v : Value) (u r : List Token) → ts ≡ u ++ r → Stuck u r → IsStatement ts v → ⊥
    no_statement v u [] e s d = s v (subst (λ z. IsStatement z v) (e ∙ append-nil u) d)
    no_statement v u (t ∷ r) e s d = s (r, v, subst (λ z. IsStatement z v) (e ∙ sym (append_assoc u (t ∷ []) r)) d)

    by : (o : Result Value ℕ) → read ts ≡ o → o ≡ Err n
    by (Ok v) e = absurd (no_statement v f.before f.after f.split f.stuck (read_is_derived ts v e))
    by (Err m) e =
        let g = err_is_fault ts m e in
        let same : m ≡ n = omega (arith, one_fault ts m n g f, one_fault ts n m f g) in ap Err same
