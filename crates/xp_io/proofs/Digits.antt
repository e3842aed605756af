-- Digits are read one by one, and a number that grows past a limit stands still there.
use Rattle.std.proofs.Common.{◌≡◌, ℕ, ◌+◌, ◌-◌, ◌*◌, ◌^◌, ◌<◌, ◌≤◌, List, [], ◌∷◌, Bool, true, false, not, ◌==◌, cond, Option, Some, None, option_map, refl, ap, ◌∙◌, arith, subst, eqb-true, mul_comm, inl, inr}
use Rattle.std.specs.Char.{digit_value, is_digit}
use Rattle.std.specs.List.{filter}
use Rattle.std.specs.Str.Parse.{digits_value_after}
use Rattle.std.proofs.Math.Nat.{mul-le-mul_right}
use Rattle.std.proofs.lemmas.Bool.{cases_lt}
use Rattle.std.proofs.lemmas.Bool.Decides.{Decides-ltb}
use Rattle.xp_lexer.specs.Bytes.{first}
use Rattle.xp_io.specs.Integers.{are_digits, digits_number, value_of}
use Rattle.xp_io.specs.inner.Digits.{capped, extended, read}

abbrev pub plain : ℕ → Bool
plain b = not (b == 95)

-- an underscore is no digit
pub digit_plain : (b base : ℕ) → base ≤ 16 → is_digit b base ≡ true → plain b ≡ true
digit_plain b base few e = elim (b == 95) as (λ t. (b == 95) ≡ t → not t ≡ true) [
  | true ↦ λ f. let small : 36 < base = (Decides-ltb 36 base).0 (subst (λ x. is_digit x base ≡ true) (eqb-true b 95 f) e) in absurd (omega arith)
  | false ↦ λ f. refl
] refl

extends : (base value exact digit : ℕ) → 1 ≤ base → value ≡ capped exact → extended base value digit ≡ capped (exact * base + digit)
extends base value exact digit some e = elim (cases_lt exact (2 ^ 64 - 1)) [
  | inl h ↦ let same : value ≡ exact = omega arith in rw same (omega arith)
  | inr h ↦
      let at : value ≡ 2 ^ 64 - 1 = omega arith in
      let grown : 1 * exact ≤ base * exact = mul-le-mul_right exact some in
      let turned : base * exact ≡ exact * base = mul_comm base exact in
      let more : 1 * (2 ^ 64 - 1) ≤ base * (2 ^ 64 - 1) = mul-le-mul_right (2 ^ 64 - 1) some in
      rw at (omega arith)
]

abbrev answer : ℕ → ℕ → List ℕ → Option ℕ
answer base exact text = cond (are_digits base text) (Some (capped (digits_value_after base exact (filter plain text)))) None

-- one byte more, by what it is: a digit, an underscore before a digit, or neither
step : (base value exact b : ℕ) (text : List ℕ) → base ≤ 16
    → read base (extended base value (digit_value b)) text ≡ answer base (exact * base + digit_value b) text
    → read base value text ≡ answer base exact text
    → (t : Bool) → is_digit b base ≡ t → (u : Bool) → (b == 95) ≡ u → (v : Bool) → is_digit (first text) base ≡ v
    → read base value (b ∷ text) ≡ answer base exact (b ∷ text)
step base value exact b text few more same true g u h v k =
    let counts : plain b ≡ true = digit_plain b base few g in
    rw (g, counts) more
step base value exact b text few more same false g true h true k = rw (g, h, k) same
step base value exact b text few more same false g true h false k = rw (g, h, k) refl
step base value exact b text few more same false g false h v k = rw (g, h) refl

read_is : (base value exact : ℕ) (text : List ℕ) → 1 ≤ base → base ≤ 16 → value ≡ capped exact → read base value text ≡ answer base exact text
read_is base value exact [] some few e = ap (λ n. Some n) e
read_is base value exact (b ∷ text) some few e =
    step base value exact b text few (read_is base (extended base value (digit_value b)) (exact * base + digit_value b) text some few (extends base value exact (digit_value b) some e)) (read_is base value exact text some few e)
    (is_digit b base) refl (b == 95) refl (is_digit (first text) base) refl

mapped : (t : Bool) (n : ℕ) → cond t (Some (capped n)) None ≡ option_map capped (cond t (Some n) None)
mapped true n = refl
mapped false n = refl

pub read_number : (base : ℕ) (text : List ℕ) → 1 ≤ base → base ≤ 16 → read base 0 text ≡ option_map capped (digits_number base text)
read_number base text some few = read_is base 0 0 text some few (omega arith) ∙ mapped (are_digits base text) (value_of base text)
