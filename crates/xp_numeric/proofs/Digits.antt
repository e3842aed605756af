-- The digits of a size, written from the last on.
use Rattle.std.proofs.Common.{◌≡◌, ℕ, zero, suc, ◌+◌, ◌-◌, ◌*◌, ◌/◌, ◌%◌, ◌^◌, ◌<◌, ◌≤◌, Bool, true, false, cond, eqb, List, [], ◌∷◌, ◌++◌, length, drop, set, refl, sym, ap, ◌∙◌, subst, arith, add-one, inl, inr}
use Rattle.std.specs.Fmt.{digits, digits_onto, digit_glyph}
use Rattle.std.proofs.lemmas.Bool.{eq-eqb, ne_eqb, lt-ltb, cases_lt}
use Rattle.std.proofs.lemmas.List.{drop-set}
use Rattle.std.proofs.lemmas.Nat.{pow-add, div_below}
use Rattle.std.proofs.Math.Nat.{mod-lt, div-div-eq-div-mul, pow-le-pow_right}
use Rattle.xp_value.proofs.Powers.{pow_positive}
use Rattle.xp_numeric.specs.Texts.{last_digits}

-- at most k digits of n, before what stands there
unfoldable pub onto : ℕ → ℕ → List ℕ → List ℕ
onto k n acc = digits_onto k 10 false n acc

glyph : (n : ℕ) → digit_glyph false (n % 10) ≡ 48 + n % 10
glyph n = ap (λ b. cond b (48 + n % 10) (87 + n % 10)) (lt-ltb (n % 10) 10 (mod-lt n (omega arith)))

pub onto_last : (k n : ℕ) (acc : List ℕ) → n / 10 ≡ 0 → onto (suc k) n acc ≡ (48 + n % 10) ∷ acc
unfolding onto
onto_last k n acc e =
    ap (λ b. cond b (digit_glyph false (n % 10) ∷ acc) (digits_onto k 10 false (n / 10) (digit_glyph false (n % 10) ∷ acc))) (eq-eqb (n / 10) 0 e)
    ∙ ap (λ g. g ∷ acc) (glyph n)

pub onto_more : (k n : ℕ) (acc : List ℕ) → (n / 10 ≡ 0 → ⊥) → onto (suc k) n acc ≡ onto k (n / 10) ((48 + n % 10) ∷ acc)
unfolding onto
onto_more k n acc e =
    ap (λ b. cond b (digit_glyph false (n % 10) ∷ acc) (digits_onto k 10 false (n / 10) (digit_glyph false (n % 10) ∷ acc))) (ne_eqb (n / 10) 0 e)
    ∙ ap (λ g. digits_onto k 10 false (n / 10) (g ∷ acc)) (glyph n)

onto_append : (k n : ℕ) (acc tail : List ℕ) → digits_onto k 10 false n acc ++ tail ≡ digits_onto k 10 false n (acc ++ tail)
onto_append zero n acc tail = refl
onto_append (suc k) n acc tail = by (eqb (n / 10) 0) (onto_append k (n / 10) (digit_glyph false (n % 10) ∷ acc) tail)
  where
    by : (b : Bool) → digits_onto k 10 false (n / 10) (digit_glyph false (n % 10) ∷ acc) ++ tail ≡ digits_onto k 10 false (n / 10) (digit_glyph false (n % 10) ∷ acc ++ tail)
        → cond b (digit_glyph false (n % 10) ∷ acc) (digits_onto k 10 false (n / 10) (digit_glyph false (n % 10) ∷ acc)) ++ tail
        ≡ cond b (digit_glyph false (n % 10) ∷ acc ++ tail) (digits_onto k 10 false (n / 10) (digit_glyph false (n % 10) ∷ acc ++ tail))
    by true e = refl
    by false e = e

pub onto_decimal : (n : ℕ) (tail : List ℕ) → onto 64 n tail ≡ digits 10 false n ++ tail
unfolding onto digits
onto_decimal n tail = sym (onto_append 64 n [] tail)

-- a byte before what stands there
pub put_before : (xs : List ℕ) (i v : ℕ) (rest : List ℕ) → 0 < i → i ≤ length xs → drop i xs ≡ rest → drop (i - 1) (set xs (i - 1) v) ≡ v ∷ rest
put_before xs i v rest h k e =
    let l : i - 1 < length xs = omega arith in
    let f : i - 1 + 1 ≡ i = omega arith in
    drop-set xs (i - 1) v l ∙ ap (λ j. v ∷ drop j xs) f ∙ ap (λ r. v ∷ r) e

pub one_more : (n i r : ℕ) → r ≡ n / 10 ^ i → r / 10 ≡ n / 10 ^ (i + 1)
one_more n i r e = ap (λ k. k / 10) e ∙ div-div-eq-div-mul n (10 ^ i) 10 ∙ ap (λ k. n / k) (sym (pow-add 10 i 1))

pub last_more : (n i r : ℕ) → r ≡ n / 10 ^ i → (48 + r % 10) ∷ last_digits i n ≡ last_digits (i + 1) n
last_more n i r e = rw add-one (ap (λ k. (48 + k % 10) ∷ last_digits i n) e)

pub whole_below : (c s e : ℕ) → c < 10 ^ 38 → s ≤ 38 → 39 ≤ e + s → c / 10 ^ s < 10 ^ (e - 1)
whole_below c s e h k l =
    let p : 38 - s + s ≡ 38 = omega arith in
    let q : 10 ^ (38 - s) * 10 ^ s ≡ 10 ^ 38 = sym (pow-add 10 (38 - s) s) ∙ ap (λ n. 10 ^ n) p in
    let m : 38 - s ≤ e - 1 = omega arith in
    let a : c / 10 ^ s < 10 ^ (38 - s) = div_below c (10 ^ s) (10 ^ (38 - s)) (pow_positive s) (subst (λ n. c < n) (sym q) h) in
    let b : 10 ^ (38 - s) ≤ 10 ^ (e - 1) = pow-le-pow_right (omega arith) m in
    omega arith

-- a digit more has room
pub more_room : (r s : ℕ) → 1 < s → r < 10 ^ (s - 1) → (r / 10 ≡ 0 → ⊥) → (1 < s - 1) × (r / 10 < 10 ^ (s - 1 - 1))
more_room r s h k ne = elim (cases_lt s 3) [
  | inl l ↦ let e : s - 1 ≡ 1 = omega arith in let m : r < 10 ^ 1 = subst (λ n. r < 10 ^ n) e k in absurd (ne (omega arith))
  | inr l ↦
      let e : s - 1 ≡ s - 1 - 1 + 1 = omega arith in
      let f : 10 ^ (s - 1) ≡ 10 ^ (s - 1 - 1) * 10 = ap (λ n. 10 ^ n) e ∙ pow-add 10 (s - 1 - 1) 1 in
      (omega arith, div_below r 10 (10 ^ (s - 1 - 1)) (omega arith) (subst (λ n. r < n) f k))
]
