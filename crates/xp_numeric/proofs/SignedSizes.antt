-- Sums, products and quotients of sizes with signs.
use Rattle.std.proofs.Common.{◌≡◌, ℕ, zero, suc, ◌+◌, ◌-◌, ◌*◌, ◌/◌, ◌%◌, ◌^◌, ◌<◌, ◌≤◌, min, max, Bool, true, false, not, cond, ℤ, pos, refl, sym, ap, ◌∙◌, subst, arith, Result, ◌⊎◌, inl, inr}
use Rattle.std.specs.Prelude.{◌+ℤ◌, ◌*ℤ◌, neg_ℤ, unsigned_abs, int_div, int_rem}
use Rattle.std.specs.Bool.{beq}
use Rattle.xp_numeric.specs.Arithmetic.{differ}
use Rattle.std.specs.Int.{int_signum, int_div_euclid, div_ceil}
use Rattle.std.proofs.lemmas.Int.{ints}
use Rattle.std.proofs.lemmas.Bool.{cases_lt, false≢true}
use Rattle.std.proofs.lemmas.Nat.{div-mul-add, mod-mul-add, div-add-mod'}
use Rattle.std.proofs.Math.Nat.{mod-lt, zero-div, zero-mod, mul-zero, zero-mul}
use Rattle.xp_base.specs.declared.codes.EvalError.{EvalError}
use Rattle.xp_base.specs.declared.decimal.Dec.{Dec}
use Rattle.xp_numeric.specs.Numbers.{signed, made}
use Rattle.xp_numeric.proofs.Limited.{alike, made_capped, size_of}

pub signed_plus : (n : Bool) (a b : ℕ) → signed n a +ℤ signed n b ≡ signed n (a + b)
signed_plus false a b = refl
signed_plus true a b = omega (arith, ints)

pub signed_minus : (n : Bool) (a b : ℕ) → b ≤ a → signed n a +ℤ signed (not n) b ≡ signed n (a - b)
signed_minus false a b h = omega (arith, ints)
signed_minus true a b h = omega (arith, ints)

pub signed_turned : (y z : ℤ) → y +ℤ z ≡ z +ℤ y
signed_turned y z = omega (arith, ints)

pub neg_signed : (n : Bool) (a : ℕ) → neg_ℤ (signed n a) ≡ signed (not n) a
neg_signed false a = refl
neg_signed true zero = refl
neg_signed true (suc a) = refl

same_sign : (n m : Bool) → beq n m ≡ true → n ≡ m
same_sign false false e = refl
same_sign false true e = absurd (false≢true e)
same_sign true false e = absurd (false≢true e)
same_sign true true e = refl

-- two sizes of one sign, whose sum stands still
pub same_signs : (n m : Bool) (a b k s t : ℕ) (r : Result Dec EvalError) → beq n m ≡ true → t ≡ s → k ≡ min (a + b) (2 ^ 128 - 1) → r ≡ made (signed n k) t → r ≡ made (signed n a +ℤ signed m b) s
same_signs n m a b k s t r e f g h =
    h ∙ ap (λ u. made (signed n k) u) f ∙ ap (λ u. made (signed n u) s) g ∙ made_capped n (a + b) s
    ∙ ap (λ z. made z s) (sym (signed_plus n a b)) ∙ ap (λ u. made (signed n a +ℤ signed u b) s) (same_sign n m e)

-- a size that is far above the other decides how long their sum is
far : (n m : Bool) (x y : ℕ) → 10 ^ 38 + y ≤ x → 10 ^ 38 ≤ unsigned_abs (signed n x +ℤ signed m y)
far false false x y h = omega arith
far true true x y h = subst (λ k. 10 ^ 38 ≤ k) (sym (ap unsigned_abs (signed_plus true x y) ∙ size_of true (x + y))) (omega arith)
far false true x y h = subst (λ k. 10 ^ 38 ≤ k) (sym (ap unsigned_abs (signed_minus false x y (omega arith)) ∙ size_of false (x - y))) (omega arith)
far true false x y h = subst (λ k. 10 ^ 38 ≤ k) (sym (ap unsigned_abs (signed_minus true x y (omega arith)) ∙ size_of true (x - y))) (omega arith)

far_second : (n m : Bool) (x y : ℕ) → 10 ^ 38 + x ≤ y → 10 ^ 38 ≤ unsigned_abs (signed n x +ℤ signed m y)
far_second n m x y h = subst (λ z. 10 ^ 38 ≤ unsigned_abs z) (signed_turned (signed m y) (signed n x)) (far m n y x h)

-- sizes that stand still, of which one is a numeric's
sum_alike : (n m : Bool) (x y x' y' : ℕ) → x' ≡ min x (2 ^ 128 - 1) → y' ≡ min y (2 ^ 128 - 1) → (x < 10 ^ 38) ⊎ (y < 10 ^ 38)
    → (signed n x' +ℤ signed m y' ≡ signed n x +ℤ signed m y) ⊎ ((10 ^ 38 ≤ unsigned_abs (signed n x' +ℤ signed m y')) × (10 ^ 38 ≤ unsigned_abs (signed n x +ℤ signed m y)))
sum_alike n m x y x' y' e f small = elim (cases_lt x (2 ^ 128)) [
  | inl h ↦ elim (cases_lt y (2 ^ 128)) [
    | inl k ↦ let p : x' ≡ x = omega arith in let q : y' ≡ y = omega arith in inl (ap (λ u. signed n u +ℤ signed m y') p ∙ ap (λ u. signed n x +ℤ signed m u) q)
    | inr k ↦ let w : x < 10 ^ 38 = elim small [ inl l ↦ l | inr l ↦ absurd (omega arith) ] in inr (far_second n m x' y' (omega arith), far_second n m x y (omega arith))
  ]
  | inr h ↦ let w : y < 10 ^ 38 = elim small [ inl l ↦ absurd (omega arith) | inr l ↦ l ] in inr (far n m x' y' (omega arith), far n m x y (omega arith))
]

pub sum_is : (n m : Bool) (x y x' y' s : ℕ) (r : Result Dec EvalError) → x' ≡ min x (2 ^ 128 - 1) → y' ≡ min y (2 ^ 128 - 1) → (x < 10 ^ 38) ⊎ (y < 10 ^ 38)
    → r ≡ made (signed n x' +ℤ signed m y') s → r ≡ made (signed n x +ℤ signed m y) s
sum_is n m x y x' y' s r e f small h = h ∙ alike _ _ s (sum_alike n m x y x' y' e f small)

-- of two sizes at the greater scale one is as it was
pub one_stays : (a b sa sb s : ℕ) → s ≡ max sa sb → a < 10 ^ 38 → b < 10 ^ 38 → (a * 10 ^ (s - sa) < 10 ^ 38) ⊎ (b * 10 ^ (s - sb) < 10 ^ 38)
one_stays a b sa sb s e h k = elim (cases_lt sa sb) [
  | inl l ↦ let z : s - sb ≡ 0 = omega arith in inr (subst (λ d. b * 10 ^ d < 10 ^ 38) (sym z) (omega arith))
  | inr l ↦ let z : s - sa ≡ 0 = omega arith in inl (subst (λ d. a * 10 ^ d < 10 ^ 38) (sym z) (omega arith))
]

pub signed_times : (n m : Bool) (a b : ℕ) → signed n a *ℤ signed m b ≡ signed (differ n m) (a * b)
signed_times false false a b = refl
signed_times false true a zero = rw mul-zero refl
signed_times false true a (suc b) = refl
signed_times true false zero b = rw zero-mul refl
signed_times true false (suc a) b = refl
signed_times true true zero zero = refl
signed_times true true zero (suc b) = rw zero-mul refl
signed_times true true (suc a) zero = rw mul-zero refl
signed_times true true (suc a) (suc b) = refl

pub signed_rem : (n m : Bool) (a b : ℕ) → int_rem (signed n a) (signed m b) ≡ signed n (a % b)
signed_rem false m a b = ap (λ d. pos (a % d)) (size_of m b)
signed_rem true m zero b = ap (λ d. pos (0 % d)) (size_of m b) ∙ rw zero-mod refl
signed_rem true m (suc a) b = ap (λ d. neg_ℤ (pos (suc a % d))) (size_of m b)

pub signed_div : (n m : Bool) (a b : ℕ) → 0 < b → int_div (signed n a) (signed m b) ≡ signed (differ n m) (a / b)
signed_div n m a zero h = absurd (omega arith)
signed_div false false a (suc b) h = refl
signed_div false true a (suc b) h = refl
signed_div true false zero (suc b) h = rw zero-div refl
signed_div true false (suc a) (suc b) h = refl
signed_div true true zero (suc b) h = rw zero-div refl
signed_div true true (suc a) (suc b) h = refl

pub signum_signed : (n : Bool) (a : ℕ) → int_signum (signed n a) ≡ signed n (min a 1)
signum_signed false a = refl
signum_signed true zero = refl
signum_signed true (suc a) = let e : min (suc a) 1 ≡ 1 = omega arith in ap (signed true) (sym e)

-- the number of whole parts that hold a + 1
ceil_suc : (a d : ℕ) → 0 < d → div_ceil (suc a) d ≡ suc (a / d)
ceil_suc a d h =
    let r : a % d < d = mod-lt a h in
    let e : a / d * d + a % d ≡ a = div-add-mod' a d in
    elim (cases_lt (suc (a % d)) d) [
      | inl l ↦
          let f : suc a ≡ a / d * d + suc (a % d) = omega arith in
          let q : suc a / d ≡ a / d = ap (λ k. k / d) f ∙ div-mul-add (a / d) d (suc (a % d)) l in
          let t : suc a % d ≡ suc (a % d) = ap (λ k. k % d) f ∙ mod-mul-add (a / d) d (suc (a % d)) l in
          omega arith
      | inr l ↦
          let f : suc a ≡ suc (a / d) * d + 0 = omega arith in
          let q : suc a / d ≡ suc (a / d) = ap (λ k. k / d) f ∙ div-mul-add (suc (a / d)) d 0 h in
          let t : suc a % d ≡ 0 = ap (λ k. k % d) f ∙ mod-mul-add (suc (a / d)) d 0 h in
          omega arith
    ]

ceil_zero : (d : ℕ) → div_ceil 0 d ≡ 0
ceil_zero d = rw (zero-div, zero-mod) refl

-- rounded down, by sign
pub floor_signed : (n : Bool) (a d : ℕ) → 0 < d → int_div_euclid (signed n a) (pos d) ≡ signed n (cond n (div_ceil a d) (a / d))
floor_signed false a d h = refl
floor_signed true zero d h = rw (zero-div, zero-mod) refl
floor_signed true (suc a) d h = sym (ap (λ k. neg_ℤ (pos k)) (ceil_suc a d h))

pub ceiling_signed : (n : Bool) (a d : ℕ) → 0 < d → neg_ℤ (int_div_euclid (neg_ℤ (signed n a)) (pos d)) ≡ signed n (cond n (a / d) (div_ceil a d))
ceiling_signed false a d h = ap (λ z. neg_ℤ (int_div_euclid z (pos d))) (neg_signed false a) ∙ ap neg_ℤ (floor_signed true a d h) ∙ neg_signed true (div_ceil a d)
ceiling_signed true a d h = ap (λ z. neg_ℤ (int_div_euclid z (pos d))) (neg_signed true a)
