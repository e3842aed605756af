-- What is quoted: the function finds what the definition says, and nothing else.
use Rattle.std.proofs.Common.{◌≡◌, ℕ, suc, ◌+◌, ◌-◌, ◌<◌, ◌≤◌, Bool, true, false, ◌==◌, cond, [], ◌∷◌, length, take, drop, Option, Some, None, Ok, Err, ◌⊎◌, inl, inr, refl, ap, subst, ◌∙◌, arith, length-take}
use Rattle.std.specs.Prelude.{nat_lt}
use Rattle.std.proofs.lemmas.Bool.{cases_lt}
use Rattle.std.proofs.lemmas.Bool.Decides.{nat_tests}
use Rattle.std.proofs.lemmas.Str.{utf8_valid_len_le}
use Rattle.xp_lexer.specs.declared.scan_error.ScanError.TheVariants as error
use Rattle.xp_lexer.specs.Bytes.{Text}
use Rattle.xp_lexer.specs.inner.Cutting.{undoubled, raw_len, part_of, part}
use Rattle.xp_lexer.specs.Meaning.{nonzero_len, clean_len}
use Rattle.xp_lexer.specs.Grammar.{Quoted, IsClean, IsOpen}

same : (q : ℕ) → (q == q) ≡ true
same q = grind (arith, nat_tests)

-- what the function makes of bytes that are quoted so
pub record Found (q m : ℕ) (z raw text rest : Text) : Type 0 where
  pub len : raw_len q false m z ≡ Some (m + length raw)
  pub front : take (length raw) z ≡ raw
  pub behind : drop (length raw + 1) z ≡ rest
  pub once : undoubled q false raw ≡ text

pub quoted_is : (q : ℕ) (z raw text rest : Text) → Quoted q z raw text rest → (m : ℕ) → Found q m z raw text rest
quoted_is q z raw text rest (Quoted.ends r e) m = record { len = rw (same q, e) (ap Some (omega arith)); front = refl; behind = refl; once = refl }
quoted_is q z raw text rest (Quoted.doubled y w t r more) m =
    let f = quoted_is q y w t r more (m + 1 + 1) in
    let n : suc (suc (length w)) + 1 ≡ suc (suc (length w + 1)) = omega arith in
    record {
      len = rw (same q) (f.len ∙ ap Some (omega arith));
      front = ap (λ x. q ∷ q ∷ x) f.front;
      behind = rw n f.behind;
      once = rw (same q) (ap (λ x. q ∷ x) f.once);
    }
quoted_is q z raw text rest (Quoted.byte b y w t r e more) m =
    let f = quoted_is q y w t r more (m + 1) in
    let n : suc (length w) + 1 ≡ suc (length w + 1) = omega arith in
    record {
      len = rw e (f.len ∙ ap Some (omega arith));
      front = ap (λ x. b ∷ x) f.front;
      behind = rw n f.behind;
      once = rw e (ap (λ x. b ∷ x) f.once);
    }

-- something is quoted so
abbrev pub IsQuoted : ℕ → Text → Type 0
IsQuoted q z = (raw : Text) × (text : Text) × (rest : Text) × Quoted q z raw text rest

doubled_so : (q : ℕ) (z : Text) → IsQuoted q z → IsQuoted q (q ∷ q ∷ z)
doubled_so q z (raw, text, rest, h) = (q ∷ q ∷ raw, q ∷ text, rest, Quoted.doubled z raw text rest h)

byte_so : (q b : ℕ) (z : Text) → (b == q) ≡ false → IsQuoted q z → IsQuoted q (b ∷ z)
byte_so q b z e (raw, text, rest, h) = (b ∷ raw, b ∷ text, rest, Quoted.byte b z raw text rest e h)

pub quoted_found : (q : ℕ) (z : Text) (m n : ℕ) → raw_len q false m z ≡ Some n → IsQuoted q z
quoted_found q [] m n e = absurd cc
quoted_found q (b ∷ []) m n e = by (b == q) refl (0 == q) refl e
  where
    by : (v : Bool) → (b == q) ≡ v → (w : Bool) → (0 == q) ≡ w → cond v (cond w None (Some m)) None ≡ Some n → IsQuoted q (b ∷ [])
    by true f true g e = absurd cc
    by true f false g e = let h : q ≡ b = grind (arith, nat_tests) in subst (λ x. IsQuoted q (x ∷ [])) h ([], [], [], Quoted.ends [] g)
    by false f w g e = absurd cc
quoted_found q (b ∷ c ∷ z) m n e = by (b == q) refl (c == q) refl (quoted_found q z (m + 1 + 1) n) (quoted_found q (c ∷ z) (m + 1) n) e
  where
    by : (v : Bool) → (b == q) ≡ v → (w : Bool) → (c == q) ≡ w → (raw_len q false (m + 1 + 1) z ≡ Some n → IsQuoted q z) → (raw_len q false (m + 1) (c ∷ z) ≡ Some n → IsQuoted q (c ∷ z))
        → cond v (cond w (raw_len q false (m + 1 + 1) z) (Some m)) (raw_len q false (m + 1) (c ∷ z)) ≡ Some n → IsQuoted q (b ∷ c ∷ z)
    by true f true g two one e =
        let h : q ≡ b = grind (arith, nat_tests) in
        let k : q ≡ c = grind (arith, nat_tests) in
        subst (λ x. IsQuoted q (x ∷ c ∷ z)) h (subst (λ x. IsQuoted q (q ∷ x ∷ z)) k (doubled_so q z (two e)))
    by true f false g two one e = let h : q ≡ b = grind (arith, nat_tests) in subst (λ x. IsQuoted q (x ∷ c ∷ z)) h ([], [], c ∷ z, Quoted.ends (c ∷ z) g)
    by false f w g two one e = byte_so q b (c ∷ z) f (one e)

-- what stands behind an opening quote is open, or is quoted
pub quoted_cases : (q : ℕ) (z : Text) → IsOpen q z ⊎ IsQuoted q z
quoted_cases q z = by (raw_len q false 0 z) refl
  where
    by : (o : Option ℕ) → raw_len q false 0 z ≡ o → IsOpen q z ⊎ IsQuoted q z
    by None e = inl (λ raw text rest h. let f = (quoted_is q z raw text rest h 0).len in absurd cc)
    by (Some n) e = inr (quoted_found q z 0 n e)

pub clean_le : (raw : Text) → clean_len raw ≤ length raw
clean_le raw = omega (arith, utf8_valid_len_le (take (nonzero_len raw) raw), length-take (nonzero_len raw) raw)

-- clean, or spoilt before its end
pub clean_cases : (raw : Text) → (clean_len raw < length raw) ⊎ IsClean raw
clean_cases raw = elim (cases_lt (clean_len raw) (length raw)) [
  | inl less ↦ inl less
  | inr most ↦ inr (omega (arith, clean_le raw))
]

pub part_is : (q : ℕ) (z raw text rest : Text) → Quoted q z raw text rest → IsClean raw → part q z ≡ Ok (text, rest)
unfolding part
part_is q z raw text rest h clean =
    let f = quoted_is q z raw text rest h 0 in
    let e : raw_len q false 0 z ≡ Some (length raw) = f.len ∙ ap Some (omega arith) in
    let whole : nat_lt (clean_len raw) (length raw) ≡ false = grind (arith, nat_tests) in
    rw (e, f.front, whole, f.once, f.behind) refl

pub part_spoilt : (q : ℕ) (z raw text rest : Text) → Quoted q z raw text rest → clean_len raw < length raw → part q z ≡ Err (error.BadByte (length z - clean_len raw))
unfolding part
part_spoilt q z raw text rest h less =
    let f = quoted_is q z raw text rest h 0 in
    let e : raw_len q false 0 z ≡ Some (length raw) = f.len ∙ ap Some (omega arith) in
    let short : nat_lt (clean_len raw) (length raw) ≡ true = grind (arith, nat_tests) in
    rw (e, f.front, short) refl

pub part_open : (q : ℕ) (z : Text) → IsOpen q z → part q z ≡ Err (error.Unclosed (length z + 1))
unfolding part
part_open q z open_ = by (raw_len q false 0 z) refl
  where
    by : (o : Option ℕ) → raw_len q false 0 z ≡ o → part_of q z o ≡ Err (error.Unclosed (length z + 1))
    by None e = refl
    by (Some n) e = let (raw, text, rest, h) = quoted_found q z 0 n e in absurd (open_ raw text rest h)
