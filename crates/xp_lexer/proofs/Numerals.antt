-- Numbers: the function finds what the definition says, and nothing else.
use Rattle.std.proofs.Common.{◌≡◌, ℕ, ◌+◌, ◌-◌, ◌*◌, ◌^◌, ◌<◌, ◌≤◌, min, Bool, true, false, not, ◌&&◌, ◌||◌, ◌==◌, cond, [], ◌∷◌, length, drop, inl, inr, refl, sym, ap, subst, ◌∙◌, arith, lit<}
use Rattle.std.specs.Prelude.{nat_lt, nat_le, slice_index}
use Rattle.std.specs.Char.{digit_value, is_digit}
use Rattle.std.proofs.lemmas.Bool.{cases_lt, and_parts}
use Rattle.std.proofs.lemmas.Bool.Decides.{nat_tests}
use Rattle.std.proofs.Math.Nat.{pow-le-pow_right, one-le-pow, le-mul_of_pos_right, mul-le-mul_right}
use Rattle.xp_lexer.specs.declared.numbers.Exponent.{Exponent}
use Rattle.xp_lexer.specs.declared.numbers.Exponent.TheVariants as shift
use Rattle.xp_lexer.specs.Bytes.{Text, first, is_decimal}
use Rattle.xp_token.specs.Lexemes.{Lexeme, NumberOf, TooWide}
use Rattle.xp_lexer.specs.inner.Cutting.{digits, decimals, fraction, sign, signed, exponent_digits, exponent_at, raised, shifted, decimal_of, decimal, names_base, number}
use Rattle.xp_lexer.specs.Meaning.{number_of, is_absent, base_of, begins_number}
use Rattle.xp_lexer.specs.Grammar.{Digits, Decimals, Fraction, Sign, Power, exponent, is_exponent_letter, scaled, Based, Reads}

-- a value that stands still at a bound, with one digit more
min_step : (base v d bound : ℕ) → 1 ≤ base → min (min v bound * base + d) bound ≡ min (v * base + d) bound
min_step base v d bound low = elim (cases_lt v bound) [
  | inl less ↦ let e : min v bound ≡ v = omega arith in rw e refl
  | inr most ↦
      let e : min v bound ≡ bound = omega arith in
      let a : bound ≤ bound * base = le-mul_of_pos_right bound low in
      let b : bound * base ≤ v * base = mul-le-mul_right base most in
      rw e (omega arith)
]

no_digit : (base : ℕ) → base ≤ 16 → is_digit 95 base ≡ false
no_digit base high = grind (arith, nat_tests)

nothing_digit : (base : ℕ) → base ≤ 16 → is_digit 0 base ≡ false
nothing_digit base high = grind (arith, nat_tests)

pub digits_are : (base v n : ℕ) (z : Text) (w m : ℕ) (rest : Text) → 1 ≤ base → base ≤ 16 → Digits base v n z w m rest → digits base (min v (10 ^ 38)) n z ≡ (min w (10 ^ 38), m, rest)
digits_are base v n z w m rest low high (Digits.stops a c [] e f) = refl
digits_are base v n z w m rest low high (Digits.stops a c (b ∷ r) e f) = rw (e, f) refl
digits_are base v n z w m rest low high (Digits.digit a c b a' c' y r e more) =
    rw e (ap (λ x. digits base x (c + 1) y) (min_step base a (digit_value b) (10 ^ 38) low) ∙ digits_are base (a * base + digit_value b) (c + 1) y a' c' r low high more)
digits_are base v n z w m rest low high (Digits.underscore a c a' c' y r e more) =
    rw (no_digit base high, e) (digits_are base a c y a' c' r low high more)

abbrev HasDigits : ℕ → ℕ → ℕ → Text → Type 0
HasDigits base v n z = (w : ℕ) × (m : ℕ) × (rest : Text) × Digits base v n z w m rest

pub digits_found : (base : ℕ) → base ≤ 16 → (v n : ℕ) (z : Text) → HasDigits base v n z
digits_found base high v n [] = (v, n, [], Digits.stops v n [] (nothing_digit base high) refl)
digits_found base high v n (b ∷ z) = by (is_digit b base) refl (b == 95 && is_digit (first z) base) refl (digits_found base high (v * base + digit_value b) (n + 1) z) (digits_found base high v n z)
  where
    by : (t : Bool) → is_digit b base ≡ t → (u : Bool) → (b == 95 && is_digit (first z) base) ≡ u → HasDigits base (v * base + digit_value b) (n + 1) z → HasDigits base v n z → HasDigits base v n (b ∷ z)
    by true e u f (w, m, rest, d) more = (w, m, rest, Digits.digit v n b w m z rest e d)
    by false e true f one (w, m, rest, d) =
        let p = and_parts (b == 95) (is_digit (first z) base) f in
        let q : (b == 95) ≡ true = p.0 in
        let h : 95 ≡ b = grind (arith, nat_tests) in
        (w, m, rest, subst (λ x. Digits base v n (x ∷ z) w m rest) h (Digits.underscore v n w m z rest p.1 d))
    by false e false f one more = (v, n, b ∷ z, Digits.stops v n (b ∷ z) e f)

pub digits_count : (base v n : ℕ) (z : Text) (w m : ℕ) (rest : Text) → Digits base v n z w m rest → m + length rest ≤ n + length z
digits_count base v n z w m rest (Digits.stops a c r e f) = omega arith
digits_count base v n z w m rest (Digits.digit a c b a' c' y r e more) = omega (arith, digits_count base (a * base + digit_value b) (c + 1) y a' c' r more)
digits_count base v n z w m rest (Digits.underscore a c a' c' y r e more) = omega (arith, digits_count base a c y a' c' r more)

decimals_are : (v : ℕ) (z : Text) (w m : ℕ) (rest : Text) → Decimals v z w m rest → decimals (min v (10 ^ 38)) z ≡ (min w (10 ^ 38), m, rest)
unfolding decimals
decimals_are v z w m rest (Decimals.some a a' c y r e d) = rw e (digits_are 10 a 0 y a' c r (omega arith) (omega arith) d)
decimals_are v z w m rest (Decimals.none a y e) = rw e refl

decimals_found : (v : ℕ) (z : Text) → (w : ℕ) × (m : ℕ) × (rest : Text) × Decimals v z w m rest
decimals_found v z = by (is_decimal (first z)) refl (digits_found 10 (omega arith) v 0 z)
  where
    by : (t : Bool) → is_decimal (first z) ≡ t → HasDigits 10 v 0 z → (w : ℕ) × (m : ℕ) × (rest : Text) × Decimals v z w m rest
    by true e (w, m, rest, d) = (w, m, rest, Decimals.some v w m z rest e d)
    by false e d = (v, 0, z, Decimals.none v z e)

decimals_count : (v : ℕ) (z : Text) (w m : ℕ) (rest : Text) → Decimals v z w m rest → m ≤ length z
decimals_count v z w m rest (Decimals.some a a' c y r e d) = omega (arith, digits_count 10 a 0 y a' c r d)
decimals_count v z w m rest (Decimals.none a y e) = omega arith

fraction_is : (v : ℕ) (z : Text) (w m : ℕ) (rest : Text) → Fraction v z w m rest → fraction (min v (10 ^ 38)) z ≡ (min w (10 ^ 38), m, rest)
unfolding fraction
fraction_is v z w m rest (Fraction.point a a' c y r d) = decimals_are a y a' c r d
fraction_is v z w m rest (Fraction.none a y e) = rw e refl

abbrev HasFraction : ℕ → Text → Type 0
HasFraction v z = (w : ℕ) × (m : ℕ) × (rest : Text) × Fraction v z w m rest

fraction_found : (v : ℕ) (z : Text) → HasFraction v z
fraction_found v [] = (v, 0, [], Fraction.none v [] refl)
fraction_found v (b ∷ z) = by (b == 46) refl (decimals_found v z)
  where
    by : (t : Bool) → (b == 46) ≡ t → ((w : ℕ) × (m : ℕ) × (rest : Text) × Decimals v z w m rest) → HasFraction v (b ∷ z)
    by true e (w, m, rest, d) = let h : 46 ≡ b = grind (arith, nat_tests) in (w, m, rest, subst (λ x. Fraction v (x ∷ z) w m rest) h (Fraction.point v w m z rest d))
    by false e d = (v, 0, b ∷ z, Fraction.none v (b ∷ z) e)

fraction_count : (v : ℕ) (z : Text) (w m : ℕ) (rest : Text) → Fraction v z w m rest → m ≤ length z
fraction_count v z w m rest (Fraction.point a a' c y r d) = omega (arith, decimals_count a y a' c r d)
fraction_count v z w m rest (Fraction.none a y e) = omega arith

sign_is : (z : Text) (down : Bool) (rest : Text) → Sign z down rest → sign z ≡ (down, rest)
unfolding sign
sign_is z down rest (Sign.plus y) = refl
sign_is z down rest (Sign.minus y) = refl
sign_is z down rest (Sign.none y e) = rw e refl

abbrev HasSign : Text → Type 0
HasSign z = (down : Bool) × (rest : Text) × Sign z down rest

sign_found : (z : Text) → HasSign z
sign_found [] = (false, [], Sign.none [] refl)
sign_found (b ∷ z) = by (b == 43) refl (b == 45) refl
  where
    by : (t : Bool) → (b == 43) ≡ t → (u : Bool) → (b == 45) ≡ u → HasSign (b ∷ z)
    by true e u f = let h : 43 ≡ b = grind (arith, nat_tests) in (false, z, subst (λ x. Sign (x ∷ z) false z) h (Sign.plus z))
    by false e true f = let h : 45 ≡ b = grind (arith, nat_tests) in (true, z, subst (λ x. Sign (x ∷ z) true z) h (Sign.minus z))
    by false e false f = (false, b ∷ z, Sign.none (b ∷ z) (rw (e, f) refl))

-- an exponent that stands still at 10 ^ 38
abbrev capped : Exponent → Exponent
capped shift.Absent = shift.Absent
capped (shift.Up by) = shift.Up (min by (10 ^ 38))
capped (shift.Down by) = shift.Down (min by (10 ^ 38))

signed_is : (down : Bool) (by : ℕ) → signed down (min by (10 ^ 38)) ≡ capped (exponent down by)
signed_is true by = refl
signed_is false by = refl

power_is : (z : Text) (x : Exponent) (rest : Text) → Power z x rest → exponent_at z ≡ (capped x, rest)
unfolding exponent_at exponent_digits
power_is z x rest (Power.some letter y ds r down by count e s f d) =
    let g : digits 10 0 0 ds ≡ (min by (10 ^ 38), count, r) = digits_are 10 0 0 ds by count r (omega arith) (omega arith) d in
    rw (e, sign_is y down ds s, f, g) (ap (λ t. (t, r)) (signed_is down by))
power_is z x rest (Power.no_letter y e) = rw e refl
power_is z x rest (Power.no_digit letter y ds down e s f) = rw (e, sign_is y down ds s, f) refl

abbrev HasPower : Text → Type 0
HasPower z = (x : Exponent) × (rest : Text) × Power z x rest

pub power_found : (z : Text) → HasPower z
power_found [] = (shift.Absent, [], Power.no_letter [] refl)
power_found (b ∷ z) = by (is_exponent_letter b) refl (sign_found z)
  where
    inside : is_exponent_letter b ≡ true → (down : Bool) (ds : Text) → Sign z down ds → (t : Bool) → is_decimal (first ds) ≡ t → HasDigits 10 0 0 ds → HasPower (b ∷ z)
    inside e down ds s true f (w, m, rest, d) = (exponent down w, rest, Power.some b z ds rest down w m e s f d)
    inside e down ds s false f d = (shift.Absent, b ∷ z, Power.no_digit b z ds down e s f)

    by : (t : Bool) → is_exponent_letter b ≡ t → HasSign z → HasPower (b ∷ z)
    by true e (down, ds, s) = inside e down ds s (is_decimal (first ds)) refl (digits_found 10 (omega arith) 0 0 ds)
    by false e s = (shift.Absent, b ∷ z, Power.no_letter (b ∷ z) e)

off : {A : Type 0} (v : Bool) (x y : A) → cond (v && false) x y ≡ y
off true x y = refl
off false x y = refl

-- a number is the same by a coefficient and a scale that stand still where it is too wide
number_cap : (c c' s s' : ℕ) (whole : Bool) → min c (10 ^ 38) ≡ min c' (10 ^ 38) → min s 39 ≡ min s' 39 → number_of c s whole ≡ number_of c' s' whole
unfolding number_of
number_cap c c' s s' whole e f = elim (cases_lt c (10 ^ 38)) [
  | inl less ↦
      let g : c ≡ c' = omega arith in
      elim (cases_lt s 39) [
        | inl few ↦ let h : s ≡ s' = omega arith in rw (g, h) refl
        | inr many ↦
            let a : nat_le s 38 ≡ false = grind (arith, nat_tests) in
            let b : nat_le s' 38 ≡ false = grind (arith, nat_tests) in
            rw (g, a, b) (off (nat_lt c' (10 ^ 38)) (NumberOf false c' s whole) TooWide ∙ sym (off (nat_lt c' (10 ^ 38)) (NumberOf false c' s' whole) TooWide))
      ]
  | inr most ↦
      let a : nat_lt c (10 ^ 38) ≡ false = grind (arith, nat_tests) in
      let b : nat_lt c' (10 ^ 38) ≡ false = grind (arith, nat_tests) in
      rw (a, b) refl
]

-- a product with a power of ten that is too wide by itself
wide_power : (w k : ℕ) → 1 ≤ w → 38 ≤ k → 10 ^ 38 ≤ w * 10 ^ k
wide_power w k some many =
    let a : 10 ^ 38 ≤ 10 ^ k = pow-le-pow_right (lit< tt) many in
    let b : 1 * 10 ^ k ≤ w * 10 ^ k = mul-le-mul_right (10 ^ k) some in
    omega arith

raised_same : (w k : ℕ) → min (raised (min w (10 ^ 38)) k) (10 ^ 38) ≡ min (w * 10 ^ k) (10 ^ 38)
unfolding raised
raised_same w k =
    let one : 1 ≤ 10 ^ k = one-le-pow k 10 (lit< tt) in
    omega (arith, min_step (10 ^ k) w 0 (10 ^ 38) one)

raised_far : (w k l : ℕ) → 38 ≤ k → 38 ≤ l → min (raised (min w (10 ^ 38)) k) (10 ^ 38) ≡ min (w * 10 ^ l) (10 ^ 38)
unfolding raised
raised_far w k l a b = elim (cases_lt 0 w) [
  | inl some ↦ omega (arith, wide_power (min w (10 ^ 38)) k (omega arith) a, wide_power w l (omega arith) b)
  | inr none ↦ let e : w ≡ 0 = omega arith in rw e (omega arith)
]

scaled_cap : (w m : ℕ) (x : Exponent) → m + 39 ≤ 10 ^ 38
    → (min (shifted (min w (10 ^ 38)) m (capped x)).0 (10 ^ 38) ≡ min (scaled w m x).0 (10 ^ 38)) × (min (shifted (min w (10 ^ 38)) m (capped x)).1 39 ≡ min (scaled w m x).1 39)
scaled_cap w m shift.Absent h = (omega arith, refl)
scaled_cap w m (shift.Down by) h = (omega arith, omega arith)
scaled_cap w m (shift.Up by) h = (
  elim (cases_lt by (10 ^ 38)) [
    | inl less ↦ let e : min by (10 ^ 38) ≡ by = omega arith in rw e (raised_same w (by - m))
    | inr most ↦ raised_far w (min by (10 ^ 38) - m) (by - m) (omega arith) (omega arith)
  ],
  omega arith,
)

pub base_low : (b : ℕ) → (1 ≤ base_of b) × (base_of b ≤ 16)
base_low b = by (b == 120 || b == 88) (b == 111 || b == 79) (b == 98 || b == 66)
  where
    by : (t u v : Bool) → (1 ≤ cond t 16 (cond u 8 (cond v 2 10))) × (cond t 16 (cond u 8 (cond v 2 10)) ≤ 16)
    by true u v = (omega arith, omega arith)
    by false true v = (omega arith, omega arith)
    by false false true = (omega arith, omega arith)
    by false false false = (omega arith, omega arith)

-- the function's test for a number in another base
abbrev pub reads_base : Text → Bool
reads_base z = names_base z && nat_lt 0 (digits (base_of (slice_index z 1)) 0 0 (drop 2 z)).1

based_test : (z : Text) (w : ℕ) (rest : Text) → Based z w rest → reads_base z ≡ true
based_test z w rest (Based.based letter a c y r other d some) =
    let low = base_low letter in
    let g : digits (base_of letter) 0 0 y ≡ (min a (10 ^ 38), c, r) = digits_are (base_of letter) 0 0 y a c r low.0 low.1 d in
    let h : nat_lt 0 c ≡ true = grind (arith, nat_tests) in
    rw (other, g, h) refl

pub based_is : (z : Text) (w : ℕ) (rest : Text) → Based z w rest → number z ≡ (number_of w 0 true, rest)
unfolding number
based_is z w rest (Based.based letter a c y r other d some) =
    let low = base_low letter in
    let g : digits (base_of letter) 0 0 y ≡ (min a (10 ^ 38), c, r) = digits_are (base_of letter) 0 0 y a c r low.0 low.1 d in
    let h : nat_lt 0 c ≡ true = grind (arith, nat_tests) in
    rw (other, g, h) (ap (λ k. (k, r)) (number_cap (min a (10 ^ 38)) a 0 0 true (omega arith) refl))

abbrev IsBased : Text → Type 0
IsBased z = (w : ℕ) × (rest : Text) × Based z w rest

based_found : (z : Text) → reads_base z ≡ true → IsBased z
based_found [] e = absurd (grind (arith, nat_tests))
based_found (b ∷ []) e = absurd (grind (arith, nat_tests))
based_found (b ∷ letter ∷ y) e = by (digits_found (base_of letter) low.1 0 0 y)
  where
    low : (1 ≤ base_of letter) × (base_of letter ≤ 16)
    low = base_low letter

    zero_first : (b == 48) ≡ true
    zero_first = (and_parts (b == 48) (not (base_of letter == 10)) (and_parts (names_base (b ∷ letter ∷ y)) _ e).0).0

    other : not (base_of letter == 10) ≡ true
    other = (and_parts (b == 48) (not (base_of letter == 10)) (and_parts (names_base (b ∷ letter ∷ y)) _ e).0).1

    turned : (v : Bool) → not v ≡ true → v ≡ false
    turned true h = absurd cc
    turned false h = refl

    by : HasDigits (base_of letter) 0 0 y → IsBased (b ∷ letter ∷ y)
    by (w, m, rest, d) =
        let g : digits (base_of letter) 0 0 y ≡ (min w (10 ^ 38), m, rest) = digits_are (base_of letter) 0 0 y w m rest low.0 low.1 d in
        let counted : nat_lt 0 (digits (base_of letter) 0 0 y).1 ≡ true = (and_parts (names_base (b ∷ letter ∷ y)) _ e).1 in
        let some : nat_lt 0 m ≡ true = rw g at counted in
        let h : 48 ≡ b = grind (arith, nat_tests) in
        (w, rest, subst (λ x. Based (x ∷ letter ∷ y) w rest) h (Based.based letter w m y rest (turned (base_of letter == 10) other) d (grind (arith, nat_tests))))

no_base : (z : Text) → ((w : ℕ) (rest : Text) → Based z w rest → ⊥) → reads_base z ≡ false
no_base z none = by (reads_base z) refl
  where
    by : (v : Bool) → reads_base z ≡ v → v ≡ false
    by true e = let (w, rest, b) = based_found z e in absurd (none w rest b)
    by false e = refl

pub decimal_is : (z whole point rest : Text) (v w n m : ℕ) (x : Exponent) → length z < 2 ^ 32 → ((w : ℕ) (rest : Text) → Based z w rest → ⊥)
    → Digits 10 0 0 z v n whole → Fraction v whole w m point → Power point x rest
    → number z ≡ (number_of (scaled w m x).0 (scaled w m x).1 (not (first whole == 46) && is_absent x), rest)
unfolding number decimal decimal_of
decimal_is z whole point rest v w n m x fits none d f p =
    let a : digits 10 0 0 z ≡ (min v (10 ^ 38), n, whole) = digits_are 10 0 0 z v n whole (omega arith) (omega arith) d in
    let b : fraction (min v (10 ^ 38)) whole ≡ (min w (10 ^ 38), m, point) = fraction_is v whole w m point f in
    let c = power_is point x rest p in
    let few : m + 39 ≤ 10 ^ 38 = omega (arith, fraction_count v whole w m point f, digits_count 10 0 0 z v n whole d) in
    let s = scaled_cap w m x few in
    rw (no_base z none, a, b, c) (ap (λ k. (k, rest)) (number_cap _ _ _ _ _ s.0 s.1 ∙ ap (λ t. number_of (scaled w m x).0 (scaled w m x).1 (not (first whole == 46) && t)) (absent_same x)))
  where
    absent_same : (x : Exponent) → is_absent (capped x) ≡ is_absent x
    absent_same shift.Absent = refl
    absent_same (shift.Up by) = refl
    absent_same (shift.Down by) = refl

-- a number is read where one begins
pub number_found : (z : Text) → begins_number z ≡ true → (k : Lexeme) × (rest : Text) × Reads z k rest
number_found z begins = by (reads_base z) refl (digits_found 10 (omega arith) 0 0 z)
  where
    with_power : (v n : ℕ) (whole : Text) → ((w : ℕ) (rest : Text) → Based z w rest → ⊥) → Digits 10 0 0 z v n whole → (w m : ℕ) (point : Text) → Fraction v whole w m point → HasPower point → (k : Lexeme) × (rest : Text) × Reads z k rest
    with_power v n whole none d w m point f (x, rest, p) = (_, rest, Reads.decimal z whole point rest v w n m x begins none d f p)

    with_fraction : (v n : ℕ) (whole : Text) → ((w : ℕ) (rest : Text) → Based z w rest → ⊥) → Digits 10 0 0 z v n whole → HasFraction v whole → (k : Lexeme) × (rest : Text) × Reads z k rest
    with_fraction v n whole none d (w, m, point, f) = with_power v n whole none d w m point f (power_found point)

    by : (t : Bool) → reads_base z ≡ t → HasDigits 10 0 0 z → (k : Lexeme) × (rest : Text) × Reads z k rest
    by true e d = let (w, rest, b) = based_found z e in (number_of w 0 true, rest, Reads.based z w rest b)
    by false e (v, n, whole, d) = with_fraction v n whole (λ w rest b. let t = based_test z w rest b in absurd cc) d (fraction_found v whole)
