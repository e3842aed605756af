-- What is written in decimal digits is read as the number that it is of.
use Rattle.std.proofs.Common.{◌≡◌, ℕ, suc, ◌-◌, ◌^◌, ◌<◌, ◌≤◌, ℤ, pos, negsuc, List, [], ◌∷◌, Bool, true, false, not, ◌==◌, ◌&&◌, cond, Some, option_map, Ok, length, nat_lt, nat_le, refl, ap, ◌∙◌, arith}
use Rattle.std.specs.Char.{digit_value, is_digit}
use Rattle.std.specs.Fmt.{decimal, signed_decimal}
use Rattle.std.specs.List.{filter}
use Rattle.std.specs.Str.Parse.{AllDigits, digits_value}
use Rattle.std.proofs.lemmas.Bool.{false_from_ne_true, le-leb, leb-true, ltb-true, ne_eqb}
use Rattle.std.proofs.lemmas.Fmt.{decimal_is_IsNumeral}
use Rattle.std.proofs.lemmas.Str.Parse.{digit_from_value}
use Rattle.xp_lexer.specs.Bytes.{is_space}
use Rattle.xp_lexer.specs.Meaning.{base_of}
use Rattle.xp_value.specs.Representation.{has_bits}
use Rattle.xp_io.specs.Integers.{are_digits, input_integer, names_base, signed_number, whole_number, with_sign, within}
use Rattle.xp_io.proofs.Widths.{below_all}
use Rattle.xp_io.specs.Space.{before, trimmed, trimmed_end}

-- ---- a decimal digit

pub in_range : (c : ℕ) → digit_value c < 10 → (48 ≤ c) × (c ≤ 57)
in_range c h = let r = digit_from_value c h in (omega (arith, r), omega (arith, r))

digit_is : (c : ℕ) → digit_value c < 10 → is_digit c 10 ≡ true
digit_is c h = le-leb (suc (digit_value c)) 10 h

other : (c k : ℕ) → c ≤ 57 → 57 < k → (c == k) ≡ false
other c k h past = ne_eqb c k (λ e. omega arith)

pub no_letter : (c : ℕ) → c ≤ 57 → base_of c ≡ 10
no_letter c h =
    let x : (c == 120) ≡ false = other c 120 h (omega arith) in
    let X : (c == 88) ≡ false = other c 88 h (omega arith) in
    let o : (c == 111) ≡ false = other c 111 h (omega arith) in
    let O : (c == 79) ≡ false = other c 79 h (omega arith) in
    let b : (c == 98) ≡ false = other c 98 h (omega arith) in
    let B : (c == 66) ≡ false = other c 66 h (omega arith) in
    rw (x, X, o, O, b, B) refl

pub no_space : (c : ℕ) → 33 ≤ c → is_space c ≡ false
no_space c h =
    let other : (c == 32) ≡ false = ne_eqb c 32 (λ e. omega arith) in
    let low : nat_le 9 c ≡ true = le-leb 9 c (omega arith) in
    let past : nat_le c 13 ≡ false = false_from_ne_true (nat_le c 13) (λ e. omega (arith, leb-true c 13 e)) in
    rw (other, low, past) refl

-- ---- a text of decimal digits

pub ends : (c : ℕ) (ds : List ℕ) → 33 ≤ c → trimmed_end ds ≡ ds → trimmed_end (c ∷ ds) ≡ c ∷ ds
ends c [] h e = rw (no_space c h) refl
ends c (d ∷ ds) h e = ap (before c) e

ends_digits : (ds : List ℕ) → AllDigits 10 ds → trimmed_end ds ≡ ds
ends_digits [] all = refl
ends_digits (c ∷ ds) all = ends c ds (omega (arith, in_range c all.0)) (ends_digits ds all.1)

trims : (c : ℕ) (ds : List ℕ) → 33 ≤ c → AllDigits 10 ds → trimmed (c ∷ ds) ≡ c ∷ ds
trims c ds h all = rw (no_space c h) (ends c ds h (ends_digits ds all))

all_digits : (ds : List ℕ) → AllDigits 10 ds → are_digits 10 ds ≡ true
all_digits [] all = refl
all_digits (c ∷ ds) all = rw (digit_is c all.0) (all_digits ds all.1)

keeps : (ds : List ℕ) → AllDigits 10 ds → filter (λ b. not (b == 95)) ds ≡ ds
keeps [] all = refl
keeps (c ∷ ds) all = let plain : (c == 95) ≡ false = other c 95 (in_range c all.0).1 (omega arith) in rw plain (ap (λ r. c ∷ r) (keeps ds all.1))

-- ---- the number that it is

pub chosen : {A : Type 0} (t : Bool) (x y : A) → t ≡ true → cond t x y ≡ x
chosen t x y e = rw e refl

pub no_base : (t : Bool) (k : ℕ) → k ≡ 10 → (t && not (k == 10)) ≡ false
no_base true k e = rw e refl
no_base false k e = refl

-- the second byte, or 0 where there is none, is the letter of no base
second : (c : ℕ) (ds : List ℕ) → AllDigits 10 ds → names_base (c ∷ ds) ≡ false
second c [] all = no_base (c == 48) (base_of 0) refl
second c (d ∷ ds) all = no_base (c == 48) (base_of d) (no_letter d (in_range d all.0).1)

pub passed : {A : Type 0} (t : Bool) (x y : A) → t ≡ false → cond t x y ≡ y
passed t x y e = rw e refl

whole : (ds : List ℕ) (n : ℕ) → 0 < length ds → AllDigits 10 ds → digits_value 10 ds ≡ n → whole_number ds ≡ Some n
whole [] n some all e = absurd (omega arith)
whole (c ∷ ds) n some all e =
    passed _ _ _ (second c ds all.1)
    ∙ chosen _ _ _ (digit_is c all.0)
    ∙ chosen _ _ _ (all_digits (c ∷ ds) all)
    ∙ ap (λ k. Some k) (ap (digits_value 10) (keeps (c ∷ ds) all) ∙ e)

-- ---- with its sign

plain : (ds : List ℕ) (n : ℕ) → 0 < length ds → AllDigits 10 ds → digits_value 10 ds ≡ n → signed_number ds ≡ Some (pos n)
plain [] n some all e = absurd (omega arith)
plain (c ∷ ds) n some all e =
    let plus : (c == 43) ≡ false = ne_eqb c 43 (λ h. omega (arith, in_range c all.0)) in
    let minus : (c == 45) ≡ false = ne_eqb c 45 (λ h. omega (arith, in_range c all.0)) in
    rw (plus, minus) (ap (λ o. option_map (with_sign false) o) (whole (c ∷ ds) n some all e))

minus : (ds : List ℕ) (n : ℕ) → 0 < length ds → AllDigits 10 ds → digits_value 10 ds ≡ suc n → signed_number (45 ∷ ds) ≡ Some (negsuc n)
minus ds n some all e = ap (λ o. option_map (with_sign true) o) (whole ds (suc n) some all e)

trims_digits : (ds : List ℕ) → 0 < length ds → AllDigits 10 ds → trimmed ds ≡ ds
trims_digits [] some all = absurd (omega arith)
trims_digits (c ∷ ds) some all = trims c ds (omega (arith, in_range c all.0)) all.1

pub small : (width n : ℕ) → width ≤ 64 → nat_lt n (2 ^ (width - 1)) ≡ true → n < 2 ^ 63
small width n few e = let most : 2 ^ (width - 1) ≤ 2 ^ 63 = below_all width few in omega (arith, ltb-true n (2 ^ (width - 1)) e)

-- an integer of that width is read back from its digits
pub reads_back : (width : ℕ) (n : ℤ) → width ≤ 64 → has_bits width n ≡ true → input_integer width (signed_decimal n) ≡ Ok n
reads_back width (pos n) few e =
    let numeral = decimal_is_IsNumeral n (omega (arith, small width n few e)) in
    ap (λ t. within width (signed_number t)) (trims_digits (decimal n) numeral.0.0 numeral.0.1)
    ∙ ap (within width) (plain (decimal n) n numeral.0.0 numeral.0.1 numeral.1)
    ∙ chosen _ _ _ e
reads_back width (negsuc n) few e =
    let numeral = decimal_is_IsNumeral (suc n) (omega (arith, small width n few e)) in
    ap (λ t. within width (signed_number t)) (trims 45 (decimal (suc n)) (omega arith) numeral.0.1)
    ∙ ap (within width) (minus (decimal (suc n)) n numeral.0.0 numeral.0.1 numeral.1)
    ∙ chosen _ _ _ e
