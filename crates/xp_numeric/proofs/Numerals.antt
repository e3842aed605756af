-- What the parts of a numeric's text are.
use Rattle.std.proofs.Common.{◌≡◌, ◌≢◌, ℕ, suc, ◌+◌, ◌-◌, ◌*◌, ◌^◌, ◌<◌, ◌≤◌, min, Bool, true, false, not, cond, ◌&&◌, ◌||◌, List, [], ◌∷◌, ◌++◌, length, take, drop, Option, Some, None, Result, Err, pos, negsuc, refl, sym, ap, ◌∙◌, subst, arith, ◌⊎◌, inl, inr, length-drop}
use Rattle.std.specs.Prelude.{◌+ℤ◌, ◌-ℤ◌, nat_lt, is_some}
use Rattle.std.specs.Char.{digit_value}
use Rattle.std.specs.List.{after_first, before_first, list_all, position, position_or_len}
use Rattle.std.specs.Option.{option_map}
use Rattle.std.specs.Str.Parse.{digits_value, digits_value_after, signed_digits_value, starts_with_minus, without_leading_sign}
use Rattle.std.proofs.lemmas.Bool.{cases_lt, lt-ltb, ltb-true, ltb-false}
use Rattle.std.proofs.lemmas.Int.{ints}
use Rattle.std.proofs.Math.Nat.{mul-le-mul_right, pow-le-pow_right}
use Rattle.std.proofs.lemmas.List.{take_all}
use Rattle.xp_base.proofs.Lists.{drop_none}
use Rattle.xp_base.specs.declared.codes.EvalError.{EvalError}
use Rattle.xp_base.specs.declared.codes.EvalError.TheVariants.{BadText}
use Rattle.xp_base.specs.declared.decimal.Dec.{Dec}
use Rattle.xp_numeric.specs.Numbers.{made, signed}
use Rattle.xp_numeric.specs.Texts.{is_decimal, are_digits, is_e, is_unsigned, digits, decimals, exponent, has_e, unsigned, with_point}
use Rattle.xp_numeric.specs.declared.reading.Exponent.{Exponent}
use Rattle.xp_numeric.specs.inner.Reading.{digits_from, number_from, exponent_from, exponent_in}
use Rattle.xp_numeric.proofs.Limited.{long_alike, made_fine, size_of}
use Rattle.xp_numeric.proofs.SignedSizes.{neg_signed}

-- the place of the first element that passes
place_of : (p : ℕ → Bool) (xs : List ℕ) (i : ℕ) → Some i ≡ position p xs → (position_or_len p xs ≡ i) × (i < length xs)
place_of p xs i e = by (nat_lt (position_or_len p xs) (length xs)) refl e
  where
    by : (b : Bool) → nat_lt (position_or_len p xs) (length xs) ≡ b → Some i ≡ cond b (Some (position_or_len p xs)) None → (position_or_len p xs ≡ i) × (i < length xs)
    by true t g = let k : position_or_len p xs ≡ i = cc in (k, subst (λ n. n < length xs) k (ltb-true _ _ t))
    by false t g = cc

no_place : (p : ℕ → Bool) (xs : List ℕ) → None ≡ position p xs → length xs ≤ position_or_len p xs
no_place p xs e = by (nat_lt (position_or_len p xs) (length xs)) refl e
  where
    by : (b : Bool) → nat_lt (position_or_len p xs) (length xs) ≡ b → None ≡ cond b (Some (position_or_len p xs)) None → length xs ≤ position_or_len p xs
    by true t g = cc
    by false t g = ltb-false _ _ t

pub before_some : (p : ℕ → Bool) (xs : List ℕ) (i : ℕ) → Some i ≡ position p xs → take i xs ≡ before_first p xs
before_some p xs i e = ap (λ k. take k xs) (sym (place_of p xs i e).0)

pub after_some : (p : ℕ → Bool) (xs : List ℕ) (i : ℕ) → Some i ≡ position p xs → take (length xs - (i + 1)) (drop (i + 1) xs) ≡ after_first p xs
after_some p xs i e = take_all (length xs - (i + 1)) (drop (i + 1) xs) (omega (arith, length-drop (i + 1) xs)) ∙ ap (λ k. drop (k + 1) xs) (sym (place_of p xs i e).0)

pub before_none : (p : ℕ → Bool) (xs : List ℕ) → None ≡ position p xs → xs ≡ before_first p xs
before_none p xs e = sym (take_all (position_or_len p xs) xs (no_place p xs e))

pub after_none : (p : ℕ → Bool) (xs : List ℕ) → None ≡ position p xs → [] ≡ after_first p xs
after_none p xs e = let h = no_place p xs e in sym (drop_none xs (position_or_len p xs + 1) (omega arith))

-- digits behind digits
pub digits_more : (v w : ℕ) (xs ys : List ℕ) → Some w ≡ digits_from v xs → digits_from w ys ≡ digits_from v (xs ++ ys)
digits_more v w [] ys e = let k : w ≡ v = cc in ap (λ n. digits_from n ys) k
digits_more v w (b ∷ z) ys e = by (is_decimal b) (digits_more (min (v * 10 + digit_value b) (10 ^ 38)) w z ys) e
  where
    by : (c : Bool) → (Some w ≡ digits_from (min (v * 10 + digit_value b) (10 ^ 38)) z → digits_from w ys ≡ digits_from (min (v * 10 + digit_value b) (10 ^ 38)) (z ++ ys))
        → Some w ≡ cond c (digits_from (min (v * 10 + digit_value b) (10 ^ 38)) z) None → digits_from w ys ≡ cond c (digits_from (min (v * 10 + digit_value b) (10 ^ 38)) (z ++ ys)) None
    by true ih g = ih g
    by false ih g = cc

pub digits_stop : (v : ℕ) (xs ys : List ℕ) → None ≡ digits_from v xs → None ≡ digits_from v (xs ++ ys)
digits_stop v [] ys e = cc
digits_stop v (b ∷ z) ys e = by (is_decimal b) (digits_stop (min (v * 10 + digit_value b) (10 ^ 38)) z ys) e
  where
    by : (c : Bool) → (None ≡ digits_from (min (v * 10 + digit_value b) (10 ^ 38)) z → None ≡ digits_from (min (v * 10 + digit_value b) (10 ^ 38)) (z ++ ys))
        → None ≡ cond c (digits_from (min (v * 10 + digit_value b) (10 ^ 38)) z) None → None ≡ cond c (digits_from (min (v * 10 + digit_value b) (10 ^ 38)) (z ++ ys)) None
    by true ih g = ih g
    by false ih g = refl

-- where there is a digit
pub number_some : (ds : List ℕ) → 0 < length ds → digits_from 0 ds ≡ number_from ds
number_some ds h = sym (ap (λ b. cond b (digits_from 0 ds) None) (lt-ltb 0 (length ds) h))

-- a value that stands still at the least number of 39 digits
digits_are : (n v : ℕ) (z : List ℕ) → v ≡ min n (10 ^ 38) → digits_from v z ≡ cond (list_all is_decimal z) (Some (min (digits_value_after 10 n z) (10 ^ 38))) None
digits_are n v [] e = ap Some e
digits_are n v (b ∷ z) e =
    by (is_decimal b) (digits_are (n * 10 + digit_value b) (min (v * 10 + digit_value b) (10 ^ 38)) z (omega arith))
  where
    by : (c : Bool) → digits_from (min (v * 10 + digit_value b) (10 ^ 38)) z ≡ cond (list_all is_decimal z) (Some (min (digits_value_after 10 (n * 10 + digit_value b) z) (10 ^ 38))) None
        → cond c (digits_from (min (v * 10 + digit_value b) (10 ^ 38)) z) None ≡ cond (c && list_all is_decimal z) (Some (min (digits_value_after 10 (n * 10 + digit_value b) z) (10 ^ 38))) None
    by true ih = ih
    by false ih = refl

number_is : (ds : List ℕ) → number_from ds ≡ cond (are_digits ds) (Some (min (digits_value 10 ds) (10 ^ 38))) None
number_is ds = by (nat_lt 0 (length ds)) (digits_are 0 0 ds refl)
  where
    by : (c : Bool) → digits_from 0 ds ≡ cond (list_all is_decimal ds) (Some (min (digits_value 10 ds) (10 ^ 38))) None
        → cond c (digits_from 0 ds) None ≡ cond (c && list_all is_decimal ds) (Some (min (digits_value 10 ds) (10 ^ 38))) None
    by true e = e
    by false e = refl

number_none : (ds : List ℕ) → None ≡ number_from ds → are_digits ds ≡ false
number_none ds e = by (are_digits ds) (e ∙ number_is ds)
  where
    by : (b : Bool) → None ≡ cond b (Some (min (digits_value 10 ds) (10 ^ 38))) None → b ≡ false
    by true g = cc
    by false g = refl

number_found : (ds : List ℕ) (n : ℕ) → Some n ≡ number_from ds → (are_digits ds ≡ true) × (n ≡ min (digits_value 10 ds) (10 ^ 38))
number_found ds n e = by (are_digits ds) (e ∙ number_is ds)
  where
    by : (b : Bool) → Some n ≡ cond b (Some (min (digits_value 10 ds) (10 ^ 38))) None → (b ≡ true) × (n ≡ min (digits_value 10 ds) (10 ^ 38))
    by true g = (refl, cc)
    by false g = cc

-- exponents
abbrev exponent_test : List ℕ → Bool
exponent_test z = not (has_e z) || are_digits (without_leading_sign (exponent z))

pub exponent_none : (z : List ℕ) → exponent_in z ≡ None → is_unsigned z ≡ false
exponent_none z e = by (has_e z) e
  where
    at : (o : Option ℕ) → o ≡ number_from (without_leading_sign (exponent z)) → option_map {U = Exponent} (λ n. record { is_down = starts_with_minus (exponent z); by = n }) o ≡ None → are_digits (without_leading_sign (exponent z)) ≡ false
    at None g h = number_none (without_leading_sign (exponent z)) g
    at (Some n) g h = cc

    by : (b : Bool) → cond b (exponent_from (exponent z)) (Some (record { is_down = false; by = 0 })) ≡ None → (are_digits (digits z) && (not b || are_digits (without_leading_sign (exponent z)))) ≡ false
    by true g = ap (λ k. are_digits (digits z) && (false || k)) (at _ refl g) ∙ none (are_digits (digits z))
      where
        none : (k : Bool) → (k && false) ≡ false
        none true = refl
        none false = refl
    by false g = cc

pub digits_none : (z : List ℕ) → None ≡ number_from (digits z) → is_unsigned z ≡ false
digits_none z e = ap (λ k. k && exponent_test z) (number_none (digits z) e)

-- what an exponent says
record Says (z : List ℕ) (x : Exponent) : Type 0 where
  test : exponent_test z ≡ true
  by : x.by ≡ min (digits_value 10 (without_leading_sign (exponent z))) (10 ^ 38)
  value : signed_digits_value 10 (exponent z) ≡ signed x.is_down (digits_value 10 (without_leading_sign (exponent z)))

exponent_some : (z : List ℕ) (x : Exponent) → exponent_in z ≡ Some x → Says z x
exponent_some z x e = pick (position is_e z) refl e
  where
    at : (o : Option ℕ) → o ≡ number_from (without_leading_sign (exponent z)) → option_map {U = Exponent} (λ n. record { is_down = starts_with_minus (exponent z); by = n }) o ≡ Some x
        → (are_digits (without_leading_sign (exponent z)) ≡ true) × (x.by ≡ min (digits_value 10 (without_leading_sign (exponent z))) (10 ^ 38)) × (x.is_down ≡ starts_with_minus (exponent z))
    at None g h = cc
    at (Some n) g h =
        let f = number_found (without_leading_sign (exponent z)) n g in
        let b : x.by ≡ n = cc in
        let d : x.is_down ≡ starts_with_minus (exponent z) = cc in
        (f.0, b ∙ f.1, d)

    pick : (o : Option ℕ) → o ≡ position is_e z → cond (is_some o) (exponent_from (exponent z)) (Some (record { is_down = false; by = 0 })) ≡ Some x → Says z x
    pick (Some i) p g =
        let f = at _ refl g in
        record {
          test = ap (λ o. not (is_some o) || are_digits (without_leading_sign (exponent z))) (sym p) ∙ f.0;
          by = f.1;
          value = ap (λ b. signed b (digits_value 10 (without_leading_sign (exponent z)))) (sym f.2);
        }
    pick None p g =
        let n : [] ≡ exponent z = after_none is_e z p in
        let b : x.by ≡ 0 = cc in
        let d : x.is_down ≡ false = cc in
        record {
          test = ap (λ o. not (is_some o) || are_digits (without_leading_sign (exponent z))) (sym p);
          by = b ∙ ap (λ w. min (digits_value 10 (without_leading_sign w)) (10 ^ 38)) n;
          value = ap (signed_digits_value 10) (sym n) ∙ ap (λ k. signed k 0) (sym d) ∙ ap (λ w. signed x.is_down (digits_value 10 (without_leading_sign w))) n;
        }

-- the number of digits and an exponent
pub number_of : (z : List ℕ) (x : Exponent) (size : ℕ) (neg : Bool) (r : Result Dec EvalError) → exponent_in z ≡ Some x → Some size ≡ number_from (digits z)
    → ((n e : ℕ) → size ≡ min n (10 ^ 38) → x.by ≡ min e (10 ^ 38) → r ≡ with_point neg n (pos (length (decimals z)) -ℤ signed x.is_down e)) → r ≡ unsigned neg z
number_of z x size neg r e f h =
    let s = exponent_some z x e in
    let d = number_found (digits z) size f in
    let t : is_unsigned z ≡ true = ap (λ k. k && exponent_test z) d.0 ∙ s.test in
    h (digits_value 10 (digits z)) (digits_value 10 (without_leading_sign (exponent z))) d.1 s.by
    ∙ ap (λ v. with_point neg (digits_value 10 (digits z)) (pos (length (decimals z)) -ℤ v)) (sym s.value)
    ∙ sym (ap (λ b. cond b (with_point neg (digits_value 10 (digits z)) (pos (length (decimals z)) -ℤ signed_digits_value 10 (exponent z))) (Err BadText)) t)

pub no_number : (z : List ℕ) (neg : Bool) → is_unsigned z ≡ false → Err BadText ≡ unsigned neg z
no_number z neg e = sym (ap (λ b. cond b (with_point neg (digits_value 10 (digits z)) (pos (length (decimals z)) -ℤ signed_digits_value 10 (exponent z))) (Err BadText)) e)

-- sizes that are the same, or both have more than 38 digits
pub made_full : (neg : Bool) (a b s : ℕ) → min a (10 ^ 38) ≡ min b (10 ^ 38) → made (signed neg a) s ≡ made (signed neg b) s
made_full neg a b s e = elim (cases_lt a (10 ^ 38)) [
  | inl h ↦ let k : a ≡ b = omega arith in ap (λ m. made (signed neg m) s) k
  | inr h ↦ long_alike _ _ s (subst (λ k. 10 ^ 38 ≤ k) (sym (size_of neg a)) h) (subst (λ k. 10 ^ 38 ≤ k) (sym (size_of neg b)) (omega arith))
]

-- decimals that are the same, or both more than 38
made_scale : (neg : Bool) (a s t : ℕ) → (s ≡ t) ⊎ ((38 < s) × (38 < t)) → made (signed neg a) s ≡ made (signed neg a) t
made_scale neg a s t (inl e) = ap (made (signed neg a)) e
made_scale neg a s t (inr h) = sym (made_fine (signed neg a) s h.0) ∙ made_fine (signed neg a) t h.1

pub placed_down : (neg d : Bool) (n e k size by : ℕ) (r : Result Dec EvalError) → d ≡ true → size ≡ min n (10 ^ 38) → by ≡ min e (10 ^ 38) → r ≡ made (signed neg size) (k + by) → r ≡ with_point neg n (pos k -ℤ signed d e)
placed_down neg d n e k size by r t f g h =
    let z : pos k -ℤ signed true e ≡ pos (k + e) = ap (λ v. pos k +ℤ v) (neg_signed true e) in
    h ∙ made_full neg size n (k + by) (omega arith) ∙ made_scale neg n (k + by) (k + e) (scales (cases_lt e (10 ^ 38)))
    ∙ ap (with_point neg n) (sym z) ∙ ap (λ b. with_point neg n (pos k -ℤ signed b e)) (sym t)
  where
    scales : (e < 10 ^ 38) ⊎ (10 ^ 38 ≤ e) → (k + by ≡ k + e) ⊎ ((38 < k + by) × (38 < k + e))
    scales (inl l) = inl (omega arith)
    scales (inr l) = inr (omega arith, omega arith)

pub placed_up : (neg d : Bool) (n e k size by : ℕ) (r : Result Dec EvalError) → d ≡ false → size ≡ min n (10 ^ 38) → by ≡ min e (10 ^ 38) → k < 10 ^ 38 → by ≤ k → r ≡ made (signed neg size) (k - by) → r ≡ with_point neg n (pos k -ℤ signed d e)
placed_up neg d n e k size by r t f g l m h =
    let same : by ≡ e = omega arith in
    let le : e ≤ k = omega arith in
    let z : pos k -ℤ pos e ≡ pos (k - e) = omega (arith, ints) in
    h ∙ made_full neg size n (k - by) (omega arith) ∙ ap (λ v. made (signed neg n) (k - v)) same
    ∙ ap (with_point neg n) (sym z) ∙ ap (λ b. with_point neg n (pos k -ℤ signed b e)) (sym t)

pub placed_raised : (neg d : Bool) (n e k u : ℕ) (r : Result Dec EvalError) → d ≡ false → k < e → min u (10 ^ 38) ≡ min (n * 10 ^ (e - k)) (10 ^ 38) → r ≡ made (signed neg u) 0 → r ≡ with_point neg n (pos k -ℤ signed d e)
placed_raised neg d n e k u r t l f h =
    let z : pos k -ℤ pos e ≡ negsuc (e - k - 1) = omega (arith, ints) in
    let w : e - k ≡ suc (e - k - 1) = omega arith in
    h ∙ made_full neg u (n * 10 ^ (e - k)) 0 f ∙ ap (λ v. made (signed neg (n * 10 ^ v)) 0) w
    ∙ ap (with_point neg n) (sym z) ∙ ap (λ b. with_point neg n (pos k -ℤ signed b e)) (sym t)

-- more zeros than a numeric has digits
pub raised_long : (size n m z : ℕ) → size ≢ 0 → 38 < z → size ≡ min n (10 ^ 38) → (z ≡ m) ⊎ ((38 < z) × (38 < m)) → 10 ^ 38 ≡ min (n * 10 ^ m) (10 ^ 38)
raised_long size n m z ne h e o =
    let k : 39 ≤ m = elim o [ inl f ↦ omega arith | inr f ↦ omega (arith, f.1) ] in
    let p : 10 ^ 39 ≤ 10 ^ m = pow-le-pow_right (omega arith) k in
    let q : 1 ≤ n = omega arith in
    let w : 1 * 10 ^ m ≤ n * 10 ^ m = mul-le-mul_right (10 ^ m) q in
    omega arith
