-- Fronts of a text whose bytes are all ASCII.
use Rattle.std.proofs.Common.{◌≡◌, ℕ, zero, suc, ◌+◌, ◌<◌, ◌≤◌, max, Bool, true, false, not, ◌||◌, cond, [], ◌∷◌, take, refl, arith}
use Rattle.std.proofs.lemmas.Bool.{and_parts}
use Rattle.std.proofs.lemmas.Bool.Decides.{nat_tests}
use Rattle.std.specs.List.{prefix_len}
use Rattle.std.specs.Str.{IsAscii}
use Rattle.xp_base.specs.Operators.{is_operator_byte, is_sign, is_special_byte}
use Rattle.xp_lexer.specs.Bytes.{Text, first, is_name_byte, opens_comment}
use Rattle.xp_lexer.specs.inner.Cutting.{operator_len}
use Rattle.xp_lexer.specs.Meaning.{goes_on}

at_place : (b : ℕ) (z : Text) → b < 128 → IsAscii z → IsAscii (b ∷ z)
at_place b z low h zero = low
at_place b z low h (suc i) = h i

passes : (b n m : ℕ) (v : Bool) → suc n ≤ cond v m 0 → v ≡ true
passes b n m true h = refl
passes b n m false h = absurd (omega arith)

shorter : (n m : ℕ) (v : Bool) → suc n ≤ cond v (1 + m) 0 → n ≤ m
shorter n m true h = omega arith
shorter n m false h = absurd (omega arith)

-- the bytes of a front pass a test that only ASCII bytes pass
pub front_ascii : (p : ℕ → Bool) → ((b : ℕ) → p b ≡ true → b < 128) → (z : Text) (n : ℕ) → n ≤ prefix_len p z → IsAscii (take n z)
front_ascii p low [] zero h = λ i. omega arith
front_ascii p low [] (suc n) h = absurd (omega arith)
front_ascii p low (b ∷ z) zero h = λ i. omega arith
front_ascii p low (b ∷ z) (suc n) h = at_place b (take n z) (low b (passes b n (1 + prefix_len p z) (p b) h)) (front_ascii p low z n (shorter n (prefix_len p z) (p b) h))

pub name_byte_ascii : (b : ℕ) → is_name_byte b ≡ true → b < 128
name_byte_ascii b h = grind (arith, nat_tests)

pub operator_byte_ascii : (b : ℕ) → is_operator_byte b ≡ true → b < 128
operator_byte_ascii b h = grind (arith, nat_tests)

one_more : (m : ℕ) (v : Bool) → v ≡ true → 1 ≤ cond v (1 + m) 0
one_more m true e = omega arith
one_more m false e = absurd cc

-- an operator is as long as its run of operator bytes at most
operator_within : (z : Text) (len kept : ℕ) (free : Bool) → operator_len len kept free z ≤ max kept (len + prefix_len is_operator_byte z)
operator_within [] len kept true = omega arith
operator_within [] len kept false = omega arith
operator_within (b ∷ z) len kept free =
    by (goes_on b (first z)) refl (is_sign b) free (operator_within z (len + 1) kept (free || is_special_byte b)) (operator_within z (len + 1) (len + 1) (free || is_special_byte b))
  where
    by : (v : Bool) → goes_on b (first z) ≡ v → (s free : Bool)
        → operator_len (len + 1) kept (free || is_special_byte b) z ≤ max kept (len + 1 + prefix_len is_operator_byte z)
        → operator_len (len + 1) (len + 1) (free || is_special_byte b) z ≤ max (len + 1) (len + 1 + prefix_len is_operator_byte z)
        → cond v (operator_len (len + 1) (cond s kept (len + 1)) (free || is_special_byte b) z) (cond free len kept) ≤ max kept (len + prefix_len is_operator_byte (b ∷ z))
    by true e true free h k = rw ((and_parts (is_operator_byte b) (not (opens_comment b (first z))) e).0) (omega arith)
    by true e false free h k = rw ((and_parts (is_operator_byte b) (not (opens_comment b (first z))) e).0) (omega arith)
    by false e s true h k = omega arith
    by false e s false h k = omega arith

pub operator_ascii : (z : Text) → is_operator_byte (first z) ≡ true → IsAscii (take (operator_len 0 1 false z) z)
operator_ascii [] h = absurd cc
operator_ascii (b ∷ z) h =
    let some : 1 ≤ prefix_len is_operator_byte (b ∷ z) = one_more (prefix_len is_operator_byte z) (is_operator_byte b) h in
    front_ascii is_operator_byte operator_byte_ascii (b ∷ z) _ (omega (arith, operator_within (b ∷ z) 0 1 false, some))

pub operator_one_ascii : (z : Text) → is_operator_byte (first z) ≡ true → IsAscii (take 1 z)
operator_one_ascii [] h = absurd cc
operator_one_ascii (b ∷ z) h = front_ascii is_operator_byte operator_byte_ascii (b ∷ z) 1 (one_more (prefix_len is_operator_byte z) (is_operator_byte b) h)
