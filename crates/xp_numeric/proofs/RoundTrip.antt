-- The text of a number is read as that number.
use Rattle.std.proofs.Common.{◌≡◌, ◌≢◌, ℕ, zero, suc, ◌+◌, ◌*◌, ◌/◌, ◌%◌, ◌^◌, ◌<◌, ◌≤◌, Bool, true, false, not, cond, eqb, ◌&&◌, ◌||◌, List, [], ◌∷◌, ◌++◌, length, take, drop, Ok, Err, pos, refl, sym, ap, ◌∙◌, subst, arith, length-append, add-zero, zero-add}
use Rattle.std.specs.Prelude.{◌-ℤ◌, is_some, Some, None}
use Rattle.std.specs.Char.{digit_value}
use Rattle.std.specs.Fmt.{decimal}
use Rattle.std.specs.List.{after_first, before_first, list_all, position_or_len}
use Rattle.std.specs.Str.Parse.{AllDigits, digits_value, digits_value_after, signed_digits_value, starts_with_minus, without_leading_sign}
use Rattle.std.proofs.lemmas.Bool.{ne_eqb, lt-ltb, le-ltb, eqb-true}
use Rattle.std.proofs.lemmas.Fmt.{decimal_is_IsNumeral_wide}
use Rattle.std.proofs.lemmas.List.{take_all}
use Rattle.std.proofs.lemmas.Nat.{div-add-mod', mod-mul-add}
use Rattle.std.proofs.lemmas.Str.Parse.{digit_from_value}
use Rattle.std.proofs.lemmas.Str.{digit_value_digit}
use Rattle.std.proofs.Math.Nat.{mod-lt, mul_comm, pow-suc, div-le_self, mul-le-mul_right}
use Rattle.std.proofs.Math.Seq.{take-append_seam, drop-append-add}
use Rattle.xp_base.proofs.Lists.{drop_none}
use Rattle.xp_base.specs.declared.codes.EvalError.TheVariants.{BadText}
use Rattle.xp_base.specs.declared.decimal.Dec.{Dec}
use Rattle.xp_value.proofs.Powers.{pow_positive}
use Rattle.xp_numeric.specs.Numbers.{made, signed}
use Rattle.xp_numeric.specs.Texts.{last_digits, text, is_e, is_point, has_e, mantissa, exponent, decimals, digits, is_decimal, are_digits, is_unsigned, with_point, unsigned, numeral}
use Rattle.xp_numeric.proofs.Limited.{made_is, size_of, sign_of}

-- a digit is none of the bytes that divide a number
no_e : (c : ℕ) → digit_value c < 10 → is_e c ≡ false
no_e c h =
    let r = digit_from_value c h in
    let a : c ≢ 101 = λ e. omega (arith, r) in
    let b : c ≢ 69 = λ e. omega (arith, r) in
    rw (ne_eqb c 101 a, ne_eqb c 69 b) refl

no_point : (c : ℕ) → digit_value c < 10 → is_point c ≡ false
no_point c h =
    let r = digit_from_value c h in
    let a : c ≢ 46 = λ e. omega (arith, r) in
    ne_eqb c 46 a

glyph_value : (n : ℕ) → digit_value (48 + n % 10) ≡ n % 10
glyph_value n =
    let h : n % 10 < 10 = mod-lt n (omega arith) in
    let r = digit_value_digit (48 + n % 10) (omega arith, omega arith) in
    omega (arith, r)

last_are : (k n : ℕ) → AllDigits 10 (last_digits k n)
last_are zero n = tt
last_are (suc k) n = (subst (λ v. v < 10) (sym (glyph_value (n / 10 ^ k))) (mod-lt (n / 10 ^ k) (omega arith)), last_are k n)

length_last : (k n : ℕ) → length (last_digits k n) ≡ k
length_last zero n = refl
length_last (suc k) n = let e = length_last k n in omega arith

both_are : (xs ys : List ℕ) → AllDigits 10 xs → AllDigits 10 ys → AllDigits 10 (xs ++ ys)
both_are [] ys h k = k
both_are (x ∷ xs) ys h k = (h.0, both_are xs ys h.1 k)

tested : (xs : List ℕ) → AllDigits 10 xs → list_all is_decimal xs ≡ true
tested [] h = refl
tested (x ∷ xs) h = rw (lt-ltb (digit_value x) 10 h.0) (tested xs h.1)

-- the number that digits before and behind the point write
value_after : (n : ℕ) (xs ys : List ℕ) → digits_value_after 10 n (xs ++ ys) ≡ digits_value_after 10 (digits_value_after 10 n xs) ys
value_after n [] ys = refl
value_after n (x ∷ xs) ys = value_after (n * 10 + digit_value x) xs ys

rest_more : (n k : ℕ) → n % 10 ^ suc k ≡ n / 10 ^ k % 10 * 10 ^ k + n % 10 ^ k
rest_more n k =
    let p : 0 < 10 ^ k = pow_positive k in
    let a : n / 10 ^ k * 10 ^ k + n % 10 ^ k ≡ n = div-add-mod' n (10 ^ k) in
    let b : n / 10 ^ k / 10 * 10 + n / 10 ^ k % 10 ≡ n / 10 ^ k = div-add-mod' (n / 10 ^ k) 10 in
    let r : n % 10 ^ k < 10 ^ k = mod-lt n p in
    let d : n / 10 ^ k % 10 < 10 = mod-lt (n / 10 ^ k) (omega arith) in
    let w : (n / 10 ^ k % 10 + 1) * 10 ^ k ≤ 10 * 10 ^ k = mul-le-mul_right (10 ^ k) (omega arith) in
    let m : n / 10 ^ k % 10 * 10 ^ k + n % 10 ^ k < 10 * 10 ^ k = omega arith in
    let e : n ≡ n / 10 ^ k / 10 * (10 * 10 ^ k) + (n / 10 ^ k % 10 * 10 ^ k + n % 10 ^ k) =
    sym a ∙ ap (λ q. q * 10 ^ k + n % 10 ^ k) (sym b) ∙ omega arith in
    let f : 10 ^ suc k ≡ 10 * 10 ^ k = pow-suc 10 k ∙ mul_comm (10 ^ k) 10 in
    ap (λ q. n % q) f ∙ ap (λ q. q % (10 * 10 ^ k)) e ∙ mod-mul-add (n / 10 ^ k / 10) (10 * 10 ^ k) (n / 10 ^ k % 10 * 10 ^ k + n % 10 ^ k) m

value_last : (k n m : ℕ) → digits_value_after 10 m (last_digits k n) ≡ m * 10 ^ k + n % 10 ^ k
value_last zero n m = let z : n % 1 ≡ 0 = omega arith in omega arith
value_last (suc k) n m =
    let e = glyph_value (n / 10 ^ k) in
    let f : 10 ^ suc k ≡ 10 ^ k * 10 = pow-suc 10 k in
    ap (λ v. digits_value_after 10 (m * 10 + v) (last_digits k n)) e
    ∙ value_last k n (m * 10 + n / 10 ^ k % 10)
    ∙ (let r = rest_more n k in
    let g : (m * 10 + n / 10 ^ k % 10) * 10 ^ k ≡ m * (10 ^ k * 10) + n / 10 ^ k % 10 * 10 ^ k = omega arith in
    let h : m * 10 ^ suc k ≡ m * (10 ^ k * 10) = ap (λ q. m * q) f in
    omega arith)

-- digits that a test passes over
passed_over : (p : ℕ → Bool) → ((c : ℕ) → digit_value c < 10 → p c ≡ false) → (xs ys : List ℕ) → AllDigits 10 xs → position_or_len p (xs ++ ys) ≡ length xs + position_or_len p ys
passed_over p f [] ys h = sym (zero-add _)
passed_over p f (x ∷ xs) ys h =
    let e = passed_over p f xs ys h.1 in
    rw (f x h.0, e) (omega arith)

-- the text behind the sign
abbrev behind : List ℕ → ℕ → ℕ → List ℕ
behind w s c = w ++ cond (eqb s 0) [] (46 ∷ last_digits s c)

passed_all : (p : ℕ → Bool) → ((c : ℕ) → digit_value c < 10 → p c ≡ false) → (xs : List ℕ) → AllDigits 10 xs → position_or_len p xs ≡ length xs
passed_all p f [] h = refl
passed_all p f (x ∷ xs) h =
    let e = passed_all p f xs h.1 in
    rw (f x h.0, e) (omega arith)

-- no `e` stands in it
place_of_e : (w : List ℕ) (s c : ℕ) → AllDigits 10 w → position_or_len is_e (behind w s c) ≡ length (behind w s c)
place_of_e w s c h = by (eqb s 0)
  where
    by : (b : Bool) → position_or_len is_e (w ++ cond b [] (46 ∷ last_digits s c)) ≡ length (w ++ cond b [] (46 ∷ last_digits s c))
    by true = passed_over is_e no_e w [] h ∙ sym (length-append w [])
    by false =
        let e = passed_all is_e no_e (last_digits s c) (last_are s c) in
        passed_over is_e no_e w (46 ∷ last_digits s c) h
        ∙ ap (λ n. length w + n) (let g : 1 + position_or_len is_e (last_digits s c) ≡ suc (length (last_digits s c)) = omega arith in g)
        ∙ sym (length-append w (46 ∷ last_digits s c))

place_of_point : (w : List ℕ) (s c : ℕ) → AllDigits 10 w → position_or_len is_point (behind w s c) ≡ length w
place_of_point w s c h = by (eqb s 0)
  where
    by : (b : Bool) → position_or_len is_point (w ++ cond b [] (46 ∷ last_digits s c)) ≡ length w
    by true = passed_over is_point no_point w [] h ∙ omega arith
    by false = passed_over is_point no_point w (46 ∷ last_digits s c) h ∙ omega arith

behind_point : (s c : ℕ) → drop 1 (cond (eqb s 0) [] (46 ∷ last_digits s c)) ≡ last_digits s c
behind_point s c = by (eqb s 0) refl
  where
    by : (b : Bool) → eqb s 0 ≡ b → drop 1 (cond b [] (46 ∷ last_digits s c)) ≡ last_digits s c
    by true e = let z : s ≡ 0 = eqb-true s 0 e in ap (λ k. last_digits k c) (sym z)
    by false e = refl

whole_mantissa : (w : List ℕ) (s c : ℕ) → AllDigits 10 w → mantissa (behind w s c) ≡ behind w s c
whole_mantissa w s c h = let e = place_of_e w s c h in take_all (position_or_len is_e (behind w s c)) (behind w s c) (omega arith)

no_exponent : (w : List ℕ) (s c : ℕ) → AllDigits 10 w → exponent (behind w s c) ≡ []
no_exponent w s c h = let e = place_of_e w s c h in drop_none (behind w s c) (position_or_len is_e (behind w s c) + 1) (omega arith)

without_e : (w : List ℕ) (s c : ℕ) → AllDigits 10 w → has_e (behind w s c) ≡ false
without_e w s c h =
    let e = place_of_e w s c h in
    ap (λ b. is_some (cond b (Some (position_or_len is_e (behind w s c))) None)) (le-ltb (position_or_len is_e (behind w s c)) (length (behind w s c)) (omega arith))

its_decimals : (w : List ℕ) (s c : ℕ) → AllDigits 10 w → decimals (behind w s c) ≡ last_digits s c
its_decimals w s c h =
    ap (after_first is_point) (whole_mantissa w s c h)
    ∙ ap (λ k. drop (k + 1) (behind w s c)) (place_of_point w s c h)
    ∙ drop-append-add w (cond (eqb s 0) [] (46 ∷ last_digits s c)) 1
    ∙ behind_point s c

its_digits : (w : List ℕ) (s c : ℕ) → AllDigits 10 w → digits (behind w s c) ≡ w ++ last_digits s c
its_digits w s c h =
    ap (λ d. before_first is_point (mantissa (behind w s c)) ++ d) (its_decimals w s c h)
    ∙ ap (λ m. before_first is_point m ++ last_digits s c) (whole_mantissa w s c h)
    ∙ ap (λ k. take k (behind w s c) ++ last_digits s c) (place_of_point w s c h)
    ∙ ap (λ d. d ++ last_digits s c) (take-append_seam w (cond (eqb s 0) [] (46 ∷ last_digits s c)))

is_read : (w : List ℕ) (s c : ℕ) → 0 < length w → AllDigits 10 w → is_unsigned (behind w s c) ≡ true
is_read w s c p h =
    let x = are_digits (without_leading_sign (exponent (behind w s c))) in
    let l : 0 < length (w ++ last_digits s c) = omega (arith, length-append w (last_digits s c)) in
    let t = tested (w ++ last_digits s c) (both_are w (last_digits s c) h (last_are s c)) in
    ap (λ d. are_digits d && (not (has_e (behind w s c)) || x)) (its_digits w s c h)
    ∙ ap (λ b. are_digits (w ++ last_digits s c) && (not b || x)) (without_e w s c h)
    ∙ ap (λ b. b && list_all is_decimal (w ++ last_digits s c) && true) (lt-ltb 0 (length (w ++ last_digits s c)) l)
    ∙ ap (λ b. b && true) t

its_value : (w : List ℕ) (s c : ℕ) → digits_value 10 w ≡ c / 10 ^ s → digits_value 10 (w ++ last_digits s c) ≡ c
its_value w s c e =
    let a = div-add-mod' c (10 ^ s) in
    value_after 0 w (last_digits s c) ∙ ap (λ v. digits_value_after 10 v (last_digits s c)) e ∙ value_last s c (c / 10 ^ s) ∙ a

unsigned_back : (neg : Bool) (w : List ℕ) (s c : ℕ) → 0 < length w → AllDigits 10 w → digits_value 10 w ≡ c / 10 ^ s → unsigned neg (behind w s c) ≡ made (signed neg c) s
unsigned_back neg w s c p h e =
    let z = behind w s c in
    let n : pos (length (decimals z)) -ℤ signed_digits_value 10 (exponent z) ≡ pos s =
    ap (λ d. pos (length d) -ℤ signed_digits_value 10 (exponent z)) (its_decimals w s c h)
    ∙ ap (λ d. pos (length (last_digits s c)) -ℤ signed_digits_value 10 d) (no_exponent w s c h)
    ∙ ap (λ k. pos k -ℤ pos 0) (length_last s c)
    ∙ ap pos (add-zero s) in
    ap (λ b. cond b (with_point neg (digits_value 10 (digits z)) (pos (length (decimals z)) -ℤ signed_digits_value 10 (exponent z))) (Err BadText)) (is_read w s c p h)
    ∙ ap (with_point neg (digits_value 10 (digits z))) n
    ∙ ap (λ d. made (signed neg (digits_value 10 d)) s) (its_digits w s c h)
    ∙ ap (λ v. made (signed neg v) s) (its_value w s c e)

-- the sign
minus_first : (neg : Bool) (w rest : List ℕ) → 0 < length w → AllDigits 10 w → starts_with_minus ((cond neg (45 ∷ []) []) ++ w ++ rest) ≡ neg
minus_first true w rest p h = refl
minus_first false [] rest p h = absurd (omega arith)
minus_first false (d ∷ w) rest p h =
    let r = digit_from_value d h.0 in
    let a : d ≢ 45 = λ e. omega (arith, r) in
    ne_eqb d 45 a

sign_first : (neg : Bool) (w rest : List ℕ) → 0 < length w → AllDigits 10 w → without_leading_sign ((cond neg (45 ∷ []) []) ++ w ++ rest) ≡ w ++ rest
sign_first true w rest p h = refl
sign_first false [] rest p h = absurd (omega arith)
sign_first false (d ∷ w) rest p h =
    let r = digit_from_value d h.0 in
    let a : d ≢ 45 = λ e. omega (arith, r) in
    let b : d ≢ 43 = λ e. omega (arith, r) in
    rw (ne_eqb d 45 a, ne_eqb d 43 b) refl

pub read_back : (x : Dec) → numeral (text x) ≡ Ok x
read_back x =
    let w = decimal (x.coef / 10 ^ x.scale) in
    let q : x.coef / 10 ^ x.scale ≤ x.coef = div-le_self x.coef (10 ^ x.scale) in
    let d = x.digits in
    let small : x.coef / 10 ^ x.scale < 10 ^ 64 = omega arith in
    let n = decimal_is_IsNumeral_wide (x.coef / 10 ^ x.scale) small in
    let rest = cond (eqb x.scale 0) [] (46 ∷ last_digits x.scale x.coef) in
    ap (λ b. unsigned b (without_leading_sign (text x))) (minus_first x.neg w rest n.0.0 n.0.1)
    ∙ ap (unsigned x.neg) (sign_first x.neg w rest n.0.0 n.0.1)
    ∙ unsigned_back x.neg w x.scale x.coef n.0.0 n.0.1 n.1
    ∙ sym (made_is x (signed x.neg x.coef) x.scale (sym (sign_of x.neg x.coef x.no_negative_zero)) (sym (size_of x.neg x.coef)) refl)
