-- Reading is the grammar, both ways, with the place of the first fault.
use Rattle.std.proofs.Common.{◌≡◌, ℕ, suc, ◌+◌, ◌*◌, ◌≤◌, false, List, [], ◌∷◌, ◌++◌, length, Result, Ok, Err, refl, sym, ap, subst, ◌∙◌, append_assoc, append-nil, arith}
use Rattle.xp_token.specs.declared.token.Token.{Token}
use Rattle.xp_grammar.specs.Kinds.{ahead}
use Rattle.xp_grammar.specs.Table.{Level, Value}
use Rattle.xp_grammar.specs.inner.Machine.{Outcome, run, rank, parse}
use Rattle.xp_grammar.specs.Reads.{IsStatement, Stuck, Fault, to_end, read}
use Rattle.xp_grammar.proofs.Sound.{Fine, Whole, Begun, run_sound, begun_by}
use Rattle.xp_grammar.proofs.Look.{inner, goes}
use Rattle.xp_grammar.proofs.Complete.{run_complete}
use Rattle.xp_grammar.proofs.Continued.{is_front, front_is}
use Rattle.xp_grammar.proofs.Fronts.{left, front_reached}

no_goes : goes Level.Statement (ahead []) ≡ false
unfolding goes inner
no_goes = refl

abbrev machine : List Token → Outcome Value
machine ts = run (suc (15 * length ts + rank Level.Statement)) Level.Statement ts

-- what is derived is read
pub derived_is_read : (ts : List Token) (v : Value) → IsStatement ts v → read ts ≡ Ok v
unfolding read parse
derived_is_read ts v d =
    let same : ts ++ [] ≡ ts = append-nil ts in
    let fuel : 15 * length (ts ++ []) + rank Level.Statement ≤ 15 * length ts + rank Level.Statement = rw same (omega arith) in
    let all : run (suc (15 * length ts + rank Level.Statement)) Level.Statement (ts ++ []) ≡ Ok (v, []) = run_complete Level.Statement ts v d (15 * length ts + rank Level.Statement) [] fuel no_goes in
    ap to_end (ap (run (suc (15 * length ts + rank Level.Statement)) Level.Statement) (sym same) ∙ all)

same_ok : (v w : Value) → ◌≡◌ {A = Result Value ℕ} (Ok v) (Ok w) → v ≡ w
same_ok v w e = grind arith

same_err : (m n : ℕ) → ◌≡◌ {A = Result Value ℕ} (Err m) (Err n) → m ≡ n
same_err m n e = grind arith

ok_err : {X : Type 0} (v : Value) (n : ℕ) → ◌≡◌ {A = Result Value ℕ} (Ok v) (Err n) → X
ok_err v n e = absurd (cc)

not_nil : (t : Token) (r : List Token) → t ∷ r ≡ [] → ⊥
not_nil t r e = cc

err_ok : {X : Type 0} (v : Value) (n : ℕ) → ◌≡◌ {A = Result Value ℕ} (Err n) (Ok v) → X
err_ok v n e = absurd (cc)

found : (ts : List Token) (o : Outcome Value) (v : Value) → Fine (Whole Level.Statement) (Begun Level.Statement) ts o → to_end o ≡ Ok v → IsStatement ts v
found ts (Ok (w, [])) v (u, e, x) q = subst (λ z. IsStatement z v) (sym (e ∙ append-nil u)) (subst (λ z. IsStatement u z) (same_ok w v q) x)
found ts (Ok (w, t ∷ r)) v (u, e, x) q = err_ok v _ q
found ts (Err n) v f q = err_ok v n q

-- what is read is derived
pub read_is_derived : (ts : List Token) (v : Value) → read ts ≡ Ok v → IsStatement ts v
unfolding read parse
read_is_derived ts v e = found ts (machine ts) v (run_sound (suc (15 * length ts + rank Level.Statement)) Level.Statement ts) e

-- at most one statement is derived
pub one_statement : (ts : List Token) (v w : Value) → IsStatement ts v → IsStatement ts w → v ≡ w
one_statement ts v w d e = same_ok v w (sym (derived_is_read ts v d) ∙ derived_is_read ts w e)

stuck : (ts u r : List Token) → ts ≡ u ++ r → left (machine ts) ≡ length r → ((v : Value) → r ≡ [] → read ts ≡ Ok v → ⊥) → Stuck u r
stuck ts u [] e q n = λ v d. n v refl (derived_is_read ts v (subst (λ z. IsStatement z v) (sym (e ∙ append-nil u)) d))
stuck ts u (t ∷ r) e q n = λ f.
    let same : (u ++ t ∷ []) ++ r ≡ ts = append_assoc u (t ∷ []) r ∙ sym e in
    let fuel : 15 * length ((u ++ t ∷ []) ++ r) + rank Level.Statement ≤ 15 * length ts + rank Level.Statement = rw same (omega arith) in
    let near = front_reached Level.Statement (u ++ t ∷ []) (front_is (u ++ t ∷ []) f) (15 * length ts + rank Level.Statement) r fuel in
    let here : left (machine ts) ≤ length r = subst (λ z. left (run (suc (15 * length ts + rank Level.Statement)) Level.Statement z) ≤ length r) same near in
    omega (arith, here, q)

fault : (ts : List Token) (o : Outcome Value) (n : ℕ) → machine ts ≡ o → Fine (Whole Level.Statement) (Begun Level.Statement) ts o → to_end o ≡ Err n → Fault ts n
unfolding read parse
fault ts (Ok (w, [])) n m f q = ok_err w n q
fault ts (Ok (w, t ∷ r)) n m (u, e, x) q = record {
  before = u;
  after = t ∷ r;
  split = e;
  count = same_err (length (t ∷ r)) n q;
  front = is_front u (begun_by Level.Statement u w x);
  stuck = stuck ts u (t ∷ r) e (ap left m) (λ v p h. absurd (not_nil t r p));
}
fault ts (Err k) n m (u, r, e, len, x) q = record {
  before = u;
  after = r;
  split = e;
  count = len ∙ same_err k n q;
  front = is_front u x;
  stuck = stuck ts u r e (ap left m ∙ sym len) (λ v p h. err_ok v k (ap to_end (sym m) ∙ h));
}

-- the fault is at the first token with which no statement continues
pub err_is_fault : (ts : List Token) (n : ℕ) → read ts ≡ Err n → Fault ts n
unfolding read parse
err_is_fault ts n e = fault ts (machine ts) n refl (run_sound (suc (15 * length ts + rank Level.Statement)) Level.Statement ts) e
