-- Operators: the function finds what the definition says, and nothing else.
use Rattle.std.proofs.Common.{◌≡◌, ℕ, suc, ◌+◌, Bool, true, false, not, ◌||◌, ◌==◌, cond, [], ◌∷◌, ◌++◌, length, take, drop, Ok, refl, sym, ap, subst, ◌∙◌, arith, append_assoc}
use Rattle.std.specs.Prelude.{slice_index}
use Rattle.std.specs.List.{list_any, list_all}
use Rattle.std.proofs.lemmas.Bool.{and_parts}
use Rattle.std.proofs.lemmas.Bool.Decides.{nat_tests}
use Rattle.std.proofs.lemmas.List.{append-nil}
use Rattle.xp_base.specs.Operators.{is_sign, is_special_byte}
use Rattle.xp_lexer.specs.Bytes.{Text, first}
use Rattle.xp_token.specs.Lexemes.{OperatorOf}
use Rattle.xp_lexer.specs.inner.Cutting.{operator_len, cut, operator}
use Rattle.xp_lexer.specs.Meaning.{goes_on, spelled}
use Rattle.xp_lexer.specs.Grammar.{Run, Trims, ends_plain}

abbrev pub HasRun : Text → Type 0
HasRun z = (run : Text) × (rest : Text) × Run z run rest

pub run_found : (z : Text) → HasRun z
run_found [] = ([], [], Run.stops [] refl)
run_found (b ∷ z) = by (goes_on b (first z)) refl (run_found z)
  where
    by : (v : Bool) → goes_on b (first z) ≡ v → HasRun z → HasRun (b ∷ z)
    by true e (run, rest, r) = (b ∷ run, rest, Run.goes b z run rest e r)
    by false e r = ([], b ∷ z, Run.stops (b ∷ z) e)

pub run_text : (z run rest : Text) → Run z run rest → z ≡ run ++ rest
run_text z run rest (Run.stops r e) = refl
run_text z run rest (Run.goes b y w r e more) = ap (λ t. b ∷ t) (run_text y w r more)

-- how much of a run is kept where none of its bytes lets it end in a sign
abbrev pub kept_after : ℕ → ℕ → Text → ℕ
kept_after len kept [] = kept
kept_after len kept (b ∷ run) = kept_after (len + 1) (cond (is_sign b) kept (len + 1)) run

by_free : (f : Bool) (len kept : ℕ) → cond f len kept ≡ cond (f || false) (len + 0) kept
by_free true len kept = omega arith
by_free false len kept = refl

or_same : (a b c : Bool) (m n k : ℕ) → m ≡ n → cond ((a || b) || c) m k ≡ cond (a || (b || c)) n k
or_same true b c m n k e = e
or_same false true c m n k e = e
or_same false false true m n k e = e
or_same false false false m n k e = refl

len_is : (len kept : ℕ) (free : Bool) (z run rest : Text) → Run z run rest → operator_len len kept free z ≡ cond (free || list_any is_special_byte run) (len + length run) (kept_after len kept run)
len_is len kept free z run rest (Run.stops [] e) = by_free free len kept
len_is len kept free z run rest (Run.stops (b ∷ r) e) = rw e (by_free free len kept)
len_is len kept free z run rest (Run.goes b y w r e more) =
    rw e (len_is (len + 1) (cond (is_sign b) kept (len + 1)) (free || is_special_byte b) y w r more ∙ or_same free (is_special_byte b) (list_any is_special_byte w) _ _ _ (omega arith))

kept_signs : (len kept : ℕ) (signs : Text) → list_all is_sign signs ≡ true → kept_after len kept signs ≡ kept
kept_signs len kept [] h = refl
kept_signs len kept (b ∷ signs) h = let p = and_parts (is_sign b) (list_all is_sign signs) h in let e : is_sign b ≡ true = p.0 in rw e (kept_signs (len + 1) kept signs p.1)

kept_append : (len kept : ℕ) (xs ys : Text) → kept_after len kept (xs ++ ys) ≡ kept_after (len + length xs) (kept_after len kept xs) ys
kept_append len kept [] ys = let e : len + 0 ≡ len = omega arith in rw e refl
kept_append len kept (b ∷ xs) ys =
    let e : len + 1 + length xs ≡ len + suc (length xs) = omega arith in
    kept_append (len + 1) (cond (is_sign b) kept (len + 1)) xs ys ∙ ap (λ n. kept_after n (kept_after (len + 1) (cond (is_sign b) kept (len + 1)) xs) ys) e

plain : (v : Bool) → not v ≡ true → v ≡ false
plain true h = absurd cc
plain false h = refl

kept_plain : (len kept : ℕ) (xs : Text) → ends_plain xs ≡ true → kept_after len kept xs ≡ len + length xs
kept_plain len kept [] h = absurd cc
kept_plain len kept (b ∷ []) h = let e : is_sign b ≡ false = plain (is_sign b) h in rw e (omega arith)
kept_plain len kept (b ∷ c ∷ xs) h = kept_plain (len + 1) (cond (is_sign b) kept (len + 1)) (c ∷ xs) h ∙ omega arith

one_kept : (v : Bool) → cond v 1 (0 + 1) ≡ 1
one_kept true = refl
one_kept false = refl

kept_operator : (xs : Text) → (length xs == 1 || ends_plain xs) ≡ true → kept_after 0 1 xs ≡ length xs
kept_operator [] h = absurd (grind (arith, nat_tests))
kept_operator (b ∷ []) h = one_kept (is_sign b)
kept_operator (b ∷ c ∷ xs) h =
    let e : (length (b ∷ c ∷ xs) == 1) ≡ false = grind (arith, nat_tests) in
    kept_plain 0 1 (b ∷ c ∷ xs) (rw e at h) ∙ omega arith

trims_len : (run op signs : Text) → Trims run op signs → cond (list_any is_special_byte run) (0 + length run) (kept_after 0 1 run) ≡ length op
trims_len run op signs (Trims.whole w free) = rw free (omega arith)
trims_len run op signs (Trims.cut x s none all kept) = rw none (kept_append 0 1 x s ∙ kept_signs (0 + length x) (kept_after 0 1 x) s all ∙ kept_operator x kept)

pub trims_text : (run op signs : Text) → Trims run op signs → run ≡ op ++ signs
trims_text run op signs (Trims.whole w free) = sym (append-nil w)
trims_text run op signs (Trims.cut x s none all kept) = refl

pub take_front : (xs ys : Text) → take (length xs) (xs ++ ys) ≡ xs
take_front [] ys = refl
take_front (x ∷ xs) ys = ap (λ t. x ∷ t) (take_front xs ys)

pub drop_front : (xs ys : Text) → drop (length xs) (xs ++ ys) ≡ ys
drop_front [] ys = refl
drop_front (x ∷ xs) ys = drop_front xs ys

pub operator_is : (z run op signs rest : Text) → Run z run rest → Trims run op signs → operator false z ≡ Ok (OperatorOf (spelled op), signs ++ rest)
unfolding operator cut
operator_is z run op signs rest r t =
    let n : operator_len 0 1 false z ≡ length op = len_is 0 1 false z run rest r ∙ trims_len run op signs t in
    let e : z ≡ op ++ (signs ++ rest) = run_text z run rest r ∙ ap (λ x. x ++ rest) (trims_text run op signs t) ∙ append_assoc op signs rest in
    rw n (rw e (rw (take_front op (signs ++ rest), drop_front op (signs ++ rest)) refl))

abbrev HasTrims : Text → Type 0
HasTrims run = (op : Text) × (signs : Text) × Trims run op signs

abbrev Split : Text → Type 0
Split run = (op : Text) × (signs : Text) × (run ≡ op ++ signs) × (list_all is_sign signs ≡ true) × ((length op == 1 || ends_plain op) ≡ true)

or_second : (v w : Bool) → w ≡ true → (v || w) ≡ true
or_second true w e = refl
or_second false w e = e

splits : (b : ℕ) (run : Text) → Split (b ∷ run)
splits b [] = (b ∷ [], [], refl, refl, refl)
splits b (c ∷ run) = by (splits c run)
  where
    one : (d : ℕ) (signs : Text) → c ∷ run ≡ d ∷ signs → list_all is_sign signs ≡ true → (v : Bool) → is_sign d ≡ v → Split (b ∷ c ∷ run)
    one d signs e all true f = (b ∷ [], d ∷ signs, ap (λ t. b ∷ t) e, rw f all, refl)
    one d signs e all false f = (b ∷ d ∷ [], signs, ap (λ t. b ∷ t) e, all, or_second (length (b ∷ d ∷ []) == 1) (not (is_sign d)) (rw f refl))

    by : Split (c ∷ run) → Split (b ∷ c ∷ run)
    by ([], signs, e, all, k) = absurd (grind (arith, nat_tests))
    by (d ∷ [], signs, e, all, k) = one d signs e all (is_sign d) refl
    by (d ∷ f ∷ op, signs, e, all, k) =
        let g : (length (d ∷ f ∷ op) == 1) ≡ false = grind (arith, nat_tests) in
        let h : ends_plain (d ∷ f ∷ op) ≡ true = rw g at k in
        (b ∷ d ∷ f ∷ op, signs, ap (λ t. b ∷ t) e, all, or_second (length (b ∷ d ∷ f ∷ op) == 1) (ends_plain (d ∷ f ∷ op)) h)

pub trims_found : (b : ℕ) (run : Text) → HasTrims (b ∷ run)
trims_found b run = by (list_any is_special_byte (b ∷ run)) refl (splits b run)
  where
    by : (v : Bool) → list_any is_special_byte (b ∷ run) ≡ v → Split (b ∷ run) → HasTrims (b ∷ run)
    by true e s = (b ∷ run, [], Trims.whole (b ∷ run) e)
    by false e (op, signs, f, all, k) = (op, signs, subst (λ x. Trims x op signs) (sym f) (Trims.cut op signs (subst (λ x. list_any is_special_byte x ≡ false) f e) all k))

run_suffix : (z run rest : Text) → Run z run rest → (op signs : Text) → run ≡ op ++ signs → Run (signs ++ rest) signs rest
run_suffix z run rest (Run.stops r e) [] [] f = Run.stops r e
run_suffix z run rest (Run.stops r e) [] (s ∷ signs) f = absurd cc
run_suffix z run rest (Run.stops r e) (x ∷ op) signs f = absurd cc
run_suffix z run rest (Run.goes b y w r e more) [] signs f =
    subst (λ t. Run (t ++ r) t r) f (Run.goes b (w ++ r) w r (subst (λ t. goes_on b (first t) ≡ true) (run_text y w r more) e) (subst (λ t. Run t w r) (run_text y w r more) more))
run_suffix z run rest (Run.goes b y w r e more) (x ∷ op) signs f = let g : w ≡ op ++ signs = cc in run_suffix y w r more op signs g

any_back : (xs ys : Text) → list_any is_special_byte (xs ++ ys) ≡ false → list_any is_special_byte ys ≡ false
any_back [] ys h = h
any_back (x ∷ xs) ys h = by (is_special_byte x) (any_back xs ys) h
  where
    by : (v : Bool) → (list_any is_special_byte (xs ++ ys) ≡ false → list_any is_special_byte ys ≡ false) → (v || list_any is_special_byte (xs ++ ys)) ≡ false → list_any is_special_byte ys ≡ false
    by true back h = absurd cc
    by false back h = back h

-- the signs that were cut off stand alone
pub operator_alone : (z run op signs rest : Text) → Run z run rest → Trims run op signs → operator_len 0 1 false (signs ++ rest) ≡ 1
operator_alone z run op signs rest r t =
    let s = run_suffix z run rest r op signs (trims_text run op signs t) in
    len_is 0 1 false (signs ++ rest) signs rest s ∙ by run op signs t
  where
    by : (run op signs : Text) → Trims run op signs → cond (false || list_any is_special_byte signs) (0 + length signs) (kept_after 0 1 signs) ≡ 1
    by run op signs (Trims.whole w free) = refl
    by run op signs (Trims.cut x s none all kept) = rw (any_back x s none) (kept_signs 0 1 s all)

-- a run that begins has a byte
pub run_some : (z run rest : Text) → Run z run rest → goes_on (first z) (slice_index z 1) ≡ true → (c : ℕ) × (w : Text) × (run ≡ c ∷ w)
run_some z run rest (Run.stops r e) h = absurd cc
run_some z run rest (Run.goes b y w r e more) h = (b, w, refl)
