-- The function of parsing answers what the tokens are, and nothing else.
use Rattle.std.proofs.Common.{◌≡◌, ℕ, zero, suc, ◌+◌, ◌-◌, ◌≤◌, ◌<◌, ◌⊎◌, inl, inr, List, [], ◌∷◌, ◌++◌, length, take, Option, Some, None, Result, Ok, Err, refl, sym, ap, subst, ◌∙◌, append_assoc, append-nil, length-append, arith}
use Rattle.std.proofs.Math.Seq.{take-append_seam}
use Rattle.std.proofs.lemmas.List.{append_cancel_left}
use Rattle.xp_base.specs.declared.limits.TheConstants.{DEPTH_LIMIT}
use Rattle.xp_token.specs.declared.token.Token.{Token}
use Rattle.xp_grammar.specs.Table.{Value, Stated}
use Rattle.xp_grammar.specs.Reads.{IsStatement, IsFront, Stuck, Fault, read}
use Rattle.xp_grammar.proofs.Complete.{same_head}
use Rattle.xp_grammar.proofs.Continued.{cut}
use Rattle.xp_grammar.proofs.Exact.{derived_is_read, read_is_derived, err_is_fault}
use Rattle.xp_grammar.proofs.Prefix.{begun, fault_is_err}
use Rattle.xp_grammar.proofs.Built.{statement_built}
use Rattle.xp_parser.specs.declared.fault.ParseFault.{ParseFault}
use Rattle.xp_parser.specs.declared.fault.ParseFault.TheVariants.{Syntax, TooDeep, Memory}
use Rattle.xp_depth.specs.Depth.{depth, first_deep}
use Rattle.xp_parser.specs.Parses.{Answer, Answers, IsAnswer, IsRight, words, start_at, settled, settled_deep, parsed_by, parsed}
use Rattle.xp_depth.proofs.Deep.{first_deep_is, first_deep_none, none_first_deep, some_first_deep, shorter_shallow}

-- the list up to and with a token
cut_at : (ts before after : List Token) (t : Token) (i : ℕ) → ts ≡ before ++ t ∷ after → i ≡ length before → take (i + 1) ts ≡ before ++ t ∷ []
cut_at ts before after t i e n =
    let one : length (before ++ t ∷ []) ≡ i + 1 = length-append before (t ∷ []) ∙ omega (arith, n) in
    ap (take (i + 1)) (e ∙ sym (append_assoc before (t ∷ []) after)) ∙ ap (λ m. take m ((before ++ t ∷ []) ++ after)) (sym one) ∙ take-append_seam (before ++ t ∷ []) after

whole_front : (ts : List Token) (v : Value) → IsStatement ts v → IsFront ts
whole_front ts v d = ([], v, subst (λ z. IsStatement z v) (sym (append-nil ts)) d)

-- a front of the list that ends before its last token
before_last : (front : List Token) (t : Token) (before : List Token) (y : Token) (r : List Token) → front ++ t ∷ [] ≡ before ++ y ∷ r → (c : List Token) × (front ≡ before ++ c)
before_last front t before y r e = by (cut front (t ∷ []) before (y ∷ r) e)
  where
    none : (c : List Token) → before ≡ front ++ c → t ∷ [] ≡ c ++ y ∷ r → (c' : List Token) × (front ≡ before ++ c')
    none [] p q = ([], sym (append-nil before ∙ p ∙ append-nil front))
    none (x ∷ c) p q = let n = ap length q ∙ length-append (x ∷ c) (y ∷ r) in absurd (omega (arith, n))

    by : ((c : List Token) × (front ≡ before ++ c)) ⊎ ((c : List Token) × (before ≡ front ++ c) × (t ∷ [] ≡ c ++ y ∷ r)) → (c : List Token) × (front ≡ before ++ c)
    by (inl x) = x
    by (inr (c, p, q)) = none c p q

right_whole : (all : List Token) (o : Result Value ℕ) → first_deep (words all) ≡ None → read (words all) ≡ o → IsAnswer all (settled all o)
right_whole all (Ok v) e q =
    let d = read_is_derived (words all) v q in
    let b = statement_built (words all) v d in
    subst (λ z. IsAnswer all (settled all (Ok z))) (sym b.1) (IsAnswer.statement b.0 (subst (λ z. IsStatement (words all) z) b.1 d) (first_deep_none (words all) e))
right_whole all (Err n) e q =
    let f = err_is_fault (words all) n q in
    let place : length f.before ≡ length (words all) - n = omega (arith, ap length f.split, length-append f.before f.after, f.count) in
    let shallow : depth f.before ≤ DEPTH_LIMIT = shorter_shallow f.before f.after (subst (λ z. depth z ≤ DEPTH_LIMIT) f.split (first_deep_none (words all) e)) in
    subst (λ i. IsAnswer all (Err (Syntax (start_at all i)))) place (IsAnswer.syntax f.before f.after f.split f.front f.stuck shallow)

module _ (all front rest : List Token) (t : Token) (i : ℕ) (split : words all ≡ front ++ t ∷ rest) (count : i ≡ length front) (shallow : depth front ≤ DEPTH_LIMIT) (deep : DEPTH_LIMIT < depth (front ++ t ∷ [])) where
  too_deep_here : IsFront (front ++ t ∷ []) → IsAnswer all (Err (TooDeep (start_at all i)))
  too_deep_here f = subst (λ n. IsAnswer all (Err (TooDeep (start_at all n)))) (sym count) (IsAnswer.too_deep front rest t split f shallow deep)

  early : (n : ℕ) (before after : List Token) → front ++ t ∷ [] ≡ before ++ after → length after ≡ suc n → IsFront before → Stuck before after → IsAnswer all (Err (Syntax (start_at all (i - n))))
  early n before [] e m f s = absurd (omega (arith, m))
  early n before (y ∷ r) e m f s =
      let c = before_last front t before y r e in
      let place : length before ≡ i - n = omega (arith, m, count, ap length e, length-append before (y ∷ r), length-append front (t ∷ [])) in
      let whole : words all ≡ before ++ y ∷ (r ++ rest) = split ∙ sym (append_assoc front (t ∷ []) rest) ∙ ap (λ z. z ++ rest) e ∙ append_assoc before (y ∷ r) rest in
      let less : depth before ≤ DEPTH_LIMIT = shorter_shallow before c.0 (subst (λ z. depth z ≤ DEPTH_LIMIT) c.1 shallow) in
      subst (λ j. IsAnswer all (Err (Syntax (start_at all j)))) place (IsAnswer.syntax before (y ∷ (r ++ rest)) whole f s less)

  ends_here : (before after : List Token) → front ++ t ∷ [] ≡ before ++ after → length after ≡ 0 → IsFront before → IsFront (front ++ t ∷ [])
  ends_here before [] e m f = subst IsFront (sym (e ∙ append-nil before)) f
  ends_here before (y ∷ r) e m f = absurd (omega (arith, m))

  right_deep : (o : Result Value ℕ) → read (front ++ t ∷ []) ≡ o → IsAnswer all (settled_deep all i o)
  right_deep (Ok v) q = too_deep_here (whole_front (front ++ t ∷ []) v (read_is_derived (front ++ t ∷ []) v q))
  right_deep (Err zero) q =
      let f = err_is_fault (front ++ t ∷ []) 0 q in
      too_deep_here (ends_here f.before f.after f.split f.count f.front)
  right_deep (Err (suc n)) q =
      let f = err_is_fault (front ++ t ∷ []) (suc n) q in
      early n f.before f.after f.split f.count f.front f.stuck

pub parsed_exact : (all : List Token) → IsAnswer all (parsed all)
unfolding parsed depth
parsed_exact all = by (first_deep (words all)) refl
  where
    by : (o : Option ℕ) → first_deep (words all) ≡ o → IsAnswer all (parsed_by all o)
    by None e = right_whole all (read (words all)) e refl
    by (Some i) e =
        let d = first_deep_is (words all) i e in
        subst (λ z. IsAnswer all (settled_deep all i (read z))) (sym (cut_at (words all) d.front d.rest d.token i d.split d.count))
        (right_deep all d.front d.rest d.token i d.split d.count d.shallow d.deep (read (d.front ++ d.token ∷ [])) refl)

-- ---- what the tokens are is answered

-- what is read where a statement begins with all of the tokens
deep_of_front : (all ts : List Token) (i : ℕ) → IsFront ts → (o : Result Value ℕ) → read ts ≡ o → settled_deep all i o ≡ Err (TooDeep (start_at all i))
deep_of_front all ts i f (Ok v) q = refl
deep_of_front all ts i f (Err zero) q = refl
deep_of_front all ts i f (Err (suc n)) q = let x = err_is_fault ts (suc n) q in absurd (no x.before x.after x.split x.count x.stuck)
  where
    no : (before after : List Token) → ts ≡ before ++ after → length after ≡ suc n → Stuck before after → ⊥
    no before [] e m s = omega (arith, m)
    no before (y ∷ r) e m s = s (begun ts (before ++ y ∷ []) r (e ∙ sym (append_assoc before (y ∷ []) r)) f)

-- a fault in a longer list is one in a shorter that has the bad token
fault_in : (before r : List Token) (x : Token) → IsFront before → Stuck before (x ∷ r) → Fault (before ++ x ∷ r) (suc (length r))
fault_in before r x f s = record { before = before; after = x ∷ r; split = refl; count = omega arith; front = f; stuck = s }

syntax_is : (all before after : List Token) → words all ≡ before ++ after → IsFront before → Stuck before after → depth before ≤ DEPTH_LIMIT
    → (o : Option ℕ) → first_deep (words all) ≡ o → parsed_by all o ≡ Err (Syntax (start_at all (length before)))
unfolding depth
syntax_is all before after e f s h None q =
    let x : Fault (words all) (length after) = record { before = before; after = after; split = e; count = refl; front = f; stuck = s } in
    let place : length (words all) - length after ≡ length before = omega (arith, ap length e, length-append before after) in
    ap (settled all) (fault_is_err (words all) (length after) x) ∙ ap (λ i. Err (Syntax (start_at all i))) place
syntax_is all before after e f s h (Some i) q =
    let d = first_deep_is (words all) i q in
    by d.front d.token d.rest d.split d.count d.deep (cut d.front (d.token ∷ d.rest) before after (sym d.split ∙ e))
  where
    here : (front : List Token) (t : Token) (rest : List Token) (x : Token) (r : List Token) → words all ≡ front ++ t ∷ rest → i ≡ length front → front ++ t ∷ [] ≡ before ++ x ∷ r → Stuck before (x ∷ r)
        → parsed_by all (Some i) ≡ Err (Syntax (start_at all (length before)))
    here front t rest x r w n p stuck =
        let place : i - length r ≡ length before = omega (arith, n, ap length p, length-append front (t ∷ []), length-append before (x ∷ r)) in
        ap (λ z. settled_deep all i (read z)) (cut_at (words all) front rest t i w n ∙ p) ∙ ap (settled_deep all i) (fault_is_err (before ++ x ∷ r) (suc (length r)) (fault_in before r x f stuck))
        ∙ ap (λ j. Err (Syntax (start_at all j))) place

    inside : (front : List Token) (t : Token) (rest c : List Token) → words all ≡ front ++ t ∷ rest → i ≡ length front → front ≡ before ++ c → after ≡ c ++ t ∷ rest
        → parsed_by all (Some i) ≡ Err (Syntax (start_at all (length before)))
    inside front t rest [] w n p g = here front t rest t [] w n (ap (λ z. z ++ t ∷ []) (p ∙ append-nil before)) (subst (Stuck before) g s)
    inside front t rest (x ∷ c) w n p g = here front t rest x (c ++ t ∷ []) w n (ap (λ z. z ++ t ∷ []) p ∙ append_assoc before (x ∷ c) (t ∷ [])) (subst (Stuck before) g s)

    beyond : (front : List Token) (t : Token) (rest c : List Token) → words all ≡ front ++ t ∷ rest → i ≡ length front → DEPTH_LIMIT < depth (front ++ t ∷ []) → before ≡ front ++ c → t ∷ rest ≡ c ++ after
        → parsed_by all (Some i) ≡ Err (Syntax (start_at all (length before)))
    beyond front t rest [] w n deep p g = inside front t rest [] w n (sym (append-nil front) ∙ sym p ∙ sym (append-nil before)) (sym g)
    beyond front t rest (x ∷ c) w n deep p g =
        let same : before ≡ (front ++ t ∷ []) ++ c = p ∙ ap (λ z. front ++ z ∷ c) (sym (same_head t x rest (c ++ after) g)) ∙ sym (append_assoc front (t ∷ []) c) in
        let less : depth (front ++ t ∷ []) ≤ DEPTH_LIMIT = shorter_shallow (front ++ t ∷ []) c (subst (λ z. depth z ≤ DEPTH_LIMIT) same h) in
        absurd (omega (arith, less, deep))

    by : (front : List Token) (t : Token) (rest : List Token) → words all ≡ front ++ t ∷ rest → i ≡ length front → DEPTH_LIMIT < depth (front ++ t ∷ [])
        → ((c : List Token) × (front ≡ before ++ c)) ⊎ ((c : List Token) × (before ≡ front ++ c) × (t ∷ rest ≡ c ++ after)) → parsed_by all (Some i) ≡ Err (Syntax (start_at all (length before)))
    by front t rest w n deep (inl (c, p)) =
        let g : before ++ after ≡ before ++ (c ++ t ∷ rest) = sym e ∙ w ∙ ap (λ z. z ++ t ∷ rest) p ∙ append_assoc before c (t ∷ rest) in
        inside front t rest c w n p (append_cancel_left before after (c ++ t ∷ rest) g)
    by front t rest w n deep (inr (c, p, g)) = beyond front t rest c w n deep p g

pub answer_is : (all : List Token) (answer : Answer) → IsAnswer all answer → parsed all ≡ answer
unfolding parsed
answer_is all (Ok s) (IsAnswer.statement s' d h) = ap (parsed_by all) (none_first_deep (words all) h) ∙ ap (settled all) (derived_is_read (words all) (Stated s') d)
answer_is all answer (IsAnswer.syntax before after e f s h) = syntax_is all before after e f s h (first_deep (words all)) refl
answer_is all answer (IsAnswer.too_deep before after t e f h deep) =
    let q : first_deep (words all) ≡ Some (length before) = ap first_deep e ∙ some_first_deep before after t h deep in
    ap (parsed_by all) q ∙ ap (λ z. settled_deep all (length before) (read z)) (cut_at (words all) before after t (length before) e refl)
    ∙ deep_of_front all (before ++ t ∷ []) (length before) f (read (before ++ t ∷ [])) refl

-- ---- of what a function returned

pub right_of : (all : List Token) (r : Answer) → Answers (parsed all) r → IsRight all r
right_of all (Ok s) e = subst (IsAnswer all) e (parsed_exact all)
right_of all (Err (Syntax at)) e = subst (IsAnswer all) e (parsed_exact all)
right_of all (Err (TooDeep at)) e = subst (IsAnswer all) e (parsed_exact all)
right_of all (Err Memory) e = tt

pub only_of : (all : List Token) (r : Answer) → Answers (parsed all) r → (answer : Answer) → IsAnswer all answer → Answers answer r
only_of all r h answer a = subst (λ said. Answers said r) (answer_is all answer a) h

-- ---- for the code

pub read_within : (ts : List Token) (n : ℕ) → read ts ≡ Err n → n ≤ length ts
read_within ts n e = let f = err_is_fault ts n e in omega (arith, ap length f.split, length-append f.before f.after, f.count)

-- what was read of the words up to the first deep one, by its fault
pub answers_fault : (all : List Token) (i : ℕ) (r : Answer) (o p : Result Value ℕ) (fault : ParseFault) → o ≡ p → settled_deep all i p ≡ Err fault → r ≡ Err fault → Answers (settled_deep all i o) r
answers_fault all i r o p fault e f g = rw (g, e, f) (by fault)
  where
    by : (x : ParseFault) → Answers (Err x) (Err x)
    by (Syntax at) = refl
    by (TooDeep at) = refl
    by Memory = tt
