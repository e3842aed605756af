-- What is quoted: its characters, and its doubled quotes.
use Rattle.std.proofs.Common.{◌≡◌, ◌≢◌, ℕ, zero, suc, ◌<◌, Bool, true, false, ◌==◌, List, [], ◌∷◌, ◌++◌, length, take, get_or, inl, inr, refl, sym, ap, subst, ◌∙◌, arith}
use Rattle.std.proofs.lemmas.Bool.Decides.{nat_tests}
use Rattle.std.proofs.lemmas.List.Folds.{length-prefix_len}
use Rattle.std.proofs.lemmas.Str.{IsUtf8-nil, IsUtf8-append, IsUtf8-from_ascii, utf8_valid_len-IsUtf8, inside_one, encode_ascii, length-encode, len_utf8_bounds}
use Rattle.std.proofs.lemmas.Bool.{and_parts, cases_eq}
use Rattle.std.proofs.lemmas.List.{append-nil}
use Rattle.std.proofs.Math.Utf8.{scalar, scalars}
use Rattle.std.specs.Str.{IsUtf8}
use Rattle.std.specs.Prelude.{encode_utf8, encode_utf8_all}
use Rattle.xp_lexer.specs.Bytes.{Text}
use Rattle.xp_lexer.specs.inner.Cutting.{undoubled}
use Rattle.xp_lexer.specs.Meaning.{nonzero_len, clean_len}

pub clean_all : (raw : Text) (n : ℕ) → n ≡ nonzero_len raw → IsUtf8 (take n raw) → n ≡ clean_len raw
clean_all raw n e u =
    e ∙ sym (length-prefix_len _ raw) ∙ sym (utf8_valid_len-IsUtf8 _ (subst (λ k. IsUtf8 (take k raw)) e u))

-- a byte that is no quote stands for itself
keep_first : (quote : ℕ) (s : Bool) (b : ℕ) (z : Text) → b ≢ quote → undoubled quote s (b ∷ z) ≡ b ∷ undoubled quote false z
keep_first quote s b z other =
    let e : (b == quote) ≡ false = grind (arith, nat_tests) in
    by s e
  where
    by : (s : Bool) → (b == quote) ≡ false → undoubled quote s (b ∷ z) ≡ b ∷ undoubled quote false z
    by true e = rw e refl
    by false e = rw e refl

keep_all : (quote : ℕ) (xs rest : Text) → ((k : ℕ) → k < length xs → get_or xs k 0 ≢ quote) → undoubled quote false (xs ++ rest) ≡ xs ++ undoubled quote false rest
keep_all quote [] rest other = refl
keep_all quote (b ∷ xs) rest other =
    keep_first quote false b (xs ++ rest) (other 0 (omega arith)) ∙ ap (λ t. b ∷ t) (keep_all quote xs rest (λ k h. other (suc k) (omega arith)))

keep : (quote : ℕ) (s : Bool) (xs rest : Text) → 0 < length xs → ((k : ℕ) → k < length xs → get_or xs k 0 ≢ quote) → undoubled quote s (xs ++ rest) ≡ xs ++ undoubled quote false rest
keep quote s [] rest some other = absurd (omega arith)
keep quote s (b ∷ xs) rest some other =
    keep_first quote s b (xs ++ rest) (other 0 (omega arith)) ∙ ap (λ t. b ∷ t) (keep_all quote xs rest (λ k h. other (suc k) (omega arith)))

one_char : (c : ℕ) (cs : List ℕ) → scalars (c ∷ cs) ≡ true → IsUtf8 (encode_utf8 c)
one_char c cs ok =
    let s : scalar c ≡ true = (and_parts (scalar c) (scalars cs) ok).0 in
    (c ∷ [], (rw s refl, append-nil (encode_utf8 c)))

-- at a quote, the first or the second of two
at_quote : (quote : ℕ) (s : Bool) (rest : Text) → quote < 128 → IsUtf8 (undoubled quote true rest) → IsUtf8 (undoubled quote false rest) → IsUtf8 (undoubled quote s (quote ∷ rest))
at_quote quote true rest low one two = let e : (quote == quote) ≡ true = grind (arith, nat_tests) in rw e two
at_quote quote false rest low one two =
    let e : (quote == quote) ≡ true = grind (arith, nat_tests) in
    rw e (IsUtf8-append (quote ∷ []) _ (IsUtf8-from_ascii (quote ∷ []) (λ i. by i)) one)
  where
    by : (i : ℕ) → get_or (quote ∷ []) i 0 < 128
    by zero = low
    by (suc i) = omega arith

same_char : (quote c : ℕ) (cs : List ℕ) (s : Bool) → quote < 128 → c ≡ quote → IsUtf8 (undoubled quote true (encode_utf8_all cs)) → IsUtf8 (undoubled quote false (encode_utf8_all cs)) → IsUtf8 (undoubled quote s (encode_utf8 c ++ encode_utf8_all cs))
same_char quote c cs s low same one two =
    let e : encode_utf8 c ≡ quote ∷ [] = encode_ascii c (omega arith) ∙ ap (λ b. b ∷ []) same in
    rw e (at_quote quote s (encode_utf8_all cs) low one two)

other_char : (quote c : ℕ) (cs : List ℕ) (s : Bool) → quote < 128 → c ≢ quote → scalars (c ∷ cs) ≡ true → IsUtf8 (undoubled quote false (encode_utf8_all cs)) → IsUtf8 (undoubled quote s (encode_utf8 c ++ encode_utf8_all cs))
other_char quote c cs s low other ok more =
    let some : 0 < length (encode_utf8 c) = omega (arith, length-encode c, (len_utf8_bounds c).0) in
    let differs : (k : ℕ) → k < length (encode_utf8 c) → get_or (encode_utf8 c) k 0 ≢ quote = λ k h e. other (inside_one c [] (encode_utf8 c) k (sym (append-nil _)) h (omega arith) ∙ e) in
    let kept = keep quote s (encode_utf8 c) (encode_utf8_all cs) some differs in
    subst IsUtf8 (sym kept) (IsUtf8-append _ _ (one_char c cs ok) more)

-- dropping the second of two quotes leaves characters whole
undoubled_chars : (quote : ℕ) → quote < 128 → (cs : List ℕ) → scalars cs ≡ true → (s : Bool) → IsUtf8 (undoubled quote s (encode_utf8_all cs))
undoubled_chars quote low [] ok s = IsUtf8-nil
undoubled_chars quote low (c ∷ cs) ok s =
    let more : (s : Bool) → IsUtf8 (undoubled quote s (encode_utf8_all cs)) = undoubled_chars quote low cs (and_parts (scalar c) (scalars cs) ok).1 in
    elim (cases_eq c quote) [
      | inl same ↦ same_char quote c cs s low same (more true) (more false)
      | inr other ↦ other_char quote c cs s low other ok (more false)
    ]

pub undoubled_utf8 : (quote : ℕ) (raw : Text) → quote < 128 → IsUtf8 raw → IsUtf8 (undoubled quote false raw)
undoubled_utf8 quote raw low (cs, (ok, e)) = subst (λ t. IsUtf8 (undoubled quote false t)) e (undoubled_chars quote low cs ok false)
