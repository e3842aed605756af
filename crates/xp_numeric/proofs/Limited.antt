-- When so many units of a decimal are a numeric.
use Rattle.std.proofs.Common.{◌≡◌, ℕ, zero, suc, ◌^◌, ◌<◌, ◌≤◌, Bool, true, false, ltb, ℤ, refl, sym, ap, ◌∙◌, subst, arith, Ok, Err, ◌⊎◌, inl, inr}
use Rattle.std.specs.Prelude.{◌-◌, unsigned_abs, nat_lt, nat_le, min}
use Rattle.std.proofs.lemmas.Bool.{ltb-true, leb-true, lt-ltb, le-leb, true≢false, false≢true, cases_lt}
use Rattle.std.proofs.Math.Path.{fun_ext}
use Rattle.std.proofs.Math.Bridge.{le_prop}
use Rattle.xp_base.specs.declared.codes.EvalError.TheVariants.{Limit}
use Rattle.xp_base.specs.declared.decimal.Dec.{Dec}
use Rattle.xp_numeric.specs.Numbers.{signed, is_negative, made_by, made}

dec : (n : Bool) (c s : ℕ) → c < 10 ^ 38 → s ≤ 38 → (n ≡ true → 0 < c) → Dec
dec n c s p q r = record { neg = n; coef = c; scale = s; digits = p; decimals = q; no_negative_zero = r }

-- whatever keeps it within its limits
same_limits : (n : Bool) (c s : ℕ) (p p' : c < 10 ^ 38) (q q' : s ≤ 38) (r r' : n ≡ true → 0 < c) → dec n c s p q r ≡ dec n c s p' q' r'
same_limits n c s p p' q q' r r' =
    ap (λ z. dec n c s z q r) (le_prop p p') ∙ ap (λ z. dec n c s p' z r) (le_prop q q') ∙ ap (λ z. dec n c s p' q' z) (fun_ext (λ h. le_prop (r h) (r' h)))

same_sign : (n n' : Bool) (c s : ℕ) → n ≡ n' → (p p' : c < 10 ^ 38) (q q' : s ≤ 38) (r : n ≡ true → 0 < c) (r' : n' ≡ true → 0 < c) → dec n c s p q r ≡ dec n' c s p' q' r'
same_sign n n' c s e p p' q q' r r' =
    subst (λ m. (r'' : m ≡ true → 0 < c) → dec n c s p q r ≡ dec m c s p' q' r'') e (λ r''. same_limits n c s p p' q q' r r'') r'

same_size : (n n' : Bool) (c c' s : ℕ) → n ≡ n' → c ≡ c' → (p : c < 10 ^ 38) (p' : c' < 10 ^ 38) (q q' : s ≤ 38) (r : n ≡ true → 0 < c) (r' : n' ≡ true → 0 < c') → dec n c s p q r ≡ dec n' c' s p' q' r'
same_size n n' c c' s e f p p' q q' r r' =
    subst (λ b. (p'' : b < 10 ^ 38) (r'' : n' ≡ true → 0 < b) → dec n c s p q r ≡ dec n' b s p'' q' r'') f (λ p'' r''. same_sign n n' c s e p p'' q q' r r'') p' r'

-- a number with this sign and size is what is made of them
pub made_is : (x : Dec) (z : ℤ) (s : ℕ) → x.neg ≡ is_negative z → x.coef ≡ unsigned_abs z → x.scale ≡ s → Ok x ≡ made z s
unfolding made dec
made_is x z s e f g =
    subst (λ t. Ok x ≡ made_by z t _ refl _ refl) g (by _ refl _ refl)
  where
    by : (a : Bool) (p : nat_lt (unsigned_abs z) (10 ^ 38) ≡ a) (b : Bool) (q : nat_le x.scale 38 ≡ b) → Ok x ≡ made_by z x.scale a p b q
    by true p true q = ap Ok (same_size x.neg (is_negative z) x.coef (unsigned_abs z) x.scale e f x.digits _ x.decimals _ x.no_negative_zero _)
    by false p b q = absurd (true≢false (sym (lt-ltb (unsigned_abs z) (10 ^ 38) (subst (λ n. n < 10 ^ 38) f x.digits)) ∙ p))
    by true p false q = absurd (true≢false (sym (le-leb x.scale 38 x.decimals) ∙ q))

-- too many digits
pub made_long : (z : ℤ) (s : ℕ) → 10 ^ 38 ≤ unsigned_abs z → Err Limit ≡ made z s
unfolding made
made_long z s h = by _ refl _ refl
  where
    by : (a : Bool) (p : nat_lt (unsigned_abs z) (10 ^ 38) ≡ a) (b : Bool) (q : nat_le s 38 ≡ b) → Err Limit ≡ made_by z s a p b q
    by true p true q = let k : unsigned_abs z < 10 ^ 38 = ltb-true (unsigned_abs z) (10 ^ 38) p in absurd (omega arith)
    by true p false q = refl
    by false p b q = refl

-- too many decimals
pub made_fine : (z : ℤ) (s : ℕ) → 38 < s → Err Limit ≡ made z s
unfolding made
made_fine z s h = by _ refl _ refl
  where
    by : (a : Bool) (p : nat_lt (unsigned_abs z) (10 ^ 38) ≡ a) (b : Bool) (q : nat_le s 38 ≡ b) → Err Limit ≡ made_by z s a p b q
    by true p true q = let k : s ≤ 38 = leb-true s 38 q in absurd (omega arith)
    by true p false q = refl
    by false p b q = refl

-- signs and sizes
pub size_of : (n : Bool) (c : ℕ) → unsigned_abs (signed n c) ≡ c
size_of false c = refl
size_of true zero = refl
size_of true (suc c) = refl

pub sign_of : (n : Bool) (c : ℕ) → (n ≡ true → 0 < c) → is_negative (signed n c) ≡ n
sign_of false c h = refl
sign_of true zero h = let k : 0 < 0 = h refl in absurd (omega arith)
sign_of true (suc c) h = refl

-- the sign of zero counts for nothing
pub zero_signed : (n m : Bool) → signed n 0 ≡ signed m 0
zero_signed false false = refl
zero_signed false true = refl
zero_signed true false = refl
zero_signed true true = refl

-- sizes too great for a numeric are alike
pub long_alike : (y z : ℤ) (s : ℕ) → 10 ^ 38 ≤ unsigned_abs y → 10 ^ 38 ≤ unsigned_abs z → made y s ≡ made z s
long_alike y z s h k = sym (made_long y s h) ∙ made_long z s k

-- where two units differ, both are too great
pub alike : (y z : ℤ) (s : ℕ) → (y ≡ z) ⊎ ((10 ^ 38 ≤ unsigned_abs y) × (10 ^ 38 ≤ unsigned_abs z)) → made y s ≡ made z s
alike y z s (inl e) = ap (λ k. made k s) e
alike y z s (inr h) = long_alike y z s h.0 h.1

-- a size that stands still at the greatest u128
pub capped : (c : ℕ) → (min c (2 ^ 128 - 1) ≡ c) ⊎ ((10 ^ 38 ≤ min c (2 ^ 128 - 1)) × (10 ^ 38 ≤ c))
capped c = elim (cases_lt c (2 ^ 128)) [ inl h ↦ inl (omega arith) | inr h ↦ inr (omega arith, omega arith) ]

pub made_capped : (n : Bool) (c s : ℕ) → made (signed n (min c (2 ^ 128 - 1))) s ≡ made (signed n c) s
made_capped n c s = elim (capped c) [
  | inl e ↦ ap (λ m. made (signed n m) s) e
  | inr h ↦ long_alike _ _ s (subst (λ k. 10 ^ 38 ≤ k) (sym (size_of n (min c (2 ^ 128 - 1)))) h.0) (subst (λ k. 10 ^ 38 ≤ k) (sym (size_of n c)) h.1)
]

-- what the code finds of a sign
pub sign_then : (n r : Bool) (c : ℕ) → n ≡ true → r ≡ ltb 0 c → r ≡ is_negative (signed n c)
sign_then false r c e f = absurd (false≢true e)
sign_then true r zero e f = f
sign_then true r (suc c) e f = f ∙ lt-ltb 0 (suc c) (omega arith)

pub sign_else : (n r : Bool) (c : ℕ) → n ≡ false → r ≡ n → r ≡ is_negative (signed n c)
sign_else false r c e f = f
sign_else true r c e f = absurd (true≢false e)
