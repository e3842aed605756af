-- A text that is a whole number is one token of a script, with the same number.
use Rattle.std.proofs.Common.{◌≡◌, ℕ, ◌+◌, ◌*◌, ◌<◌, ◌≤◌, List, [], ◌∷◌, Bool, true, false, not, ◌==◌, ◌&&◌, ◌||◌, cond, Option, Some, None, length, drop, refl, sym, ◌∙◌, subst, arith, eqb-true, inl, inr, slice_index}
use Rattle.std.specs.Char.{digit_value, is_digit}
use Rattle.std.specs.List.{filter}
use Rattle.std.specs.Str.Parse.{digits_value_after}
use Rattle.std.proofs.lemmas.Bool.{and_parts, cases_Bool, false≢true, le-ltb, not-true}
use Rattle.std.proofs.lemmas.Option.{cond_some, none-some}
use Rattle.xp_lexer.specs.declared.numbers.Exponent.TheVariants as shift
use Rattle.xp_lexer.specs.Bytes.{first}
use Rattle.xp_lexer.specs.Meaning.{base_of, number_of}
use Rattle.xp_lexer.specs.Grammar.{Based, Digits, Fraction, Power, Reads}
use Rattle.xp_io.proofs.Digits.{digit_plain, plain}
use Rattle.xp_io.specs.Integers.{are_digits, based_number, decimal_number, digits_number, names_base, value_of, whole_number}

-- digits that take a value and a count on to others
record Counted (base value n : ℕ) (text : List ℕ) : Type 0 where
  count : ℕ
  digits : Digits base value n text (digits_value_after base value (filter plain text)) count []
  least : n ≤ count
  some : 0 < length text → n < count

first_digit : (base value n b : ℕ) (text : List ℕ) → base ≤ 16 → is_digit b base ≡ true → Counted base (value * base + digit_value b) (n + 1) text → Counted base value n (b ∷ text)
first_digit base value n b text few g more =
    let kept : filter plain (b ∷ text) ≡ b ∷ filter plain text = rw (digit_plain b base few g) refl in
    let P : List ℕ → Type 0 = λ ds. Digits base value n (b ∷ text) (digits_value_after base value ds) more.count [] in
    record { count = more.count; digits = subst P (sym kept) (Digits.digit value n b _ _ text [] g more.digits); least = omega (arith, more.least); some = λ h. omega (arith, more.least) }

first_underscore : (base value n b : ℕ) (text : List ℕ) → (b == 95) ≡ true → is_digit (first text) base ≡ true → 0 < length text → Counted base value n text → Counted base value n (b ∷ text)
first_underscore base value n b text u g long more =
    let P : ℕ → Type 0 = λ x. Digits base value n (x ∷ text) (digits_value_after base value (filter plain (x ∷ text))) more.count [] in
    record { count = more.count; digits = subst P (sym (eqb-true b 95 u)) (Digits.underscore value n _ _ text [] g more.digits); least = more.least; some = λ h. more.some long }

nothing : (base : ℕ) → base ≤ 16 → is_digit 0 base ≡ false
nothing base few = le-ltb 36 base (omega arith)

long : (base : ℕ) (text : List ℕ) → base ≤ 16 → is_digit (first text) base ≡ true → 0 < length text
long base [] few g = absurd (false≢true (sym (nothing base few) ∙ g))
long base (b ∷ text) few g = omega arith

counted : (base : ℕ) → base ≤ 16 → (value n : ℕ) (text : List ℕ) → are_digits base text ≡ true → Counted base value n text
counted base few value n [] all = record { count = n; digits = Digits.stops value n [] (nothing base few) refl; least = omega arith; some = λ h. absurd (omega arith) }
counted base few value n (b ∷ text) all =
    let parts = and_parts (is_digit b base || (b == 95 && is_digit (first text) base)) (are_digits base text) all in
    elim (cases_Bool (is_digit b base)) [
      | inl g ↦ first_digit base value n b text few g (counted base few (value * base + digit_value b) (n + 1) text parts.1)
      | inr g ↦
          let under : (b == 95 && is_digit (first text) base) ≡ true = rw (sym parts.0, g) refl in
          let two = and_parts (b == 95) (is_digit (first text) base) under in
          first_underscore base value n b text two.0 two.1 (long base text few two.1) (counted base few value n text parts.1)
    ]

not_based : (z : List ℕ) (value : ℕ) (rest : List ℕ) → Based z value rest → names_base z ≡ true
not_based _ _ _ (Based.based letter value count z rest e d some) = rw e refl

three : (p q r : Bool) → cond p 16 (cond q 8 (cond r 2 10)) ≤ 16
three true q r = omega arith
three false true r = omega arith
three false false true = omega arith
three false false false = omega arith

pub few_bases : (b : ℕ) → base_of b ≤ 16
few_bases b = three (b == 120 || b == 88) (b == 111 || b == 79) (b == 98 || b == 66)

guard : (t : Bool) (o : Option ℕ) (n : ℕ) → cond t o None ≡ Some n → (t ≡ true) × (o ≡ Some n)
guard true o n e = (refl, e)
guard false o n e = absurd (none-some n e)

guard_not : (t : Bool) (o : Option ℕ) (n : ℕ) → cond t None o ≡ Some n → (t ≡ false) × (o ≡ Some n)
guard_not true o n e = absurd (none-some n e)
guard_not false o n e = (refl, e)

decimal : (text : List ℕ) (n : ℕ) → names_base text ≡ false → decimal_number text ≡ Some n → Reads text (number_of n 0 true) []
decimal text n plainly e =
    let outer = guard (is_digit (first text) 10) (digits_number 10 text) n e in
    let inner = cond_some (are_digits 10 text) (value_of 10 text) n outer.1 in
    let all = counted 10 (omega arith) 0 0 text inner.0 in
    let P : ℕ → Type 0 = λ m. Reads text (number_of m 0 true) [] in
    subst P inner.1 (Reads.decimal text [] [] [] (value_of 10 text) (value_of 10 text) all.count 0 shift.Absent (rw outer.0 refl) (λ v rest b. false≢true (sym plainly ∙ not_based text v rest b)) all.digits (Fraction.none (value_of 10 text) [] refl) (Power.no_letter [] refl))

some_there : (z : List ℕ) → (length z == 0) ≡ false → 0 < length z
some_there [] e = absurd (false≢true (sym e))
some_there (b ∷ z) e = omega arith

in_base : (text : List ℕ) (n : ℕ) → names_base text ≡ true → based_number (base_of (slice_index text 1)) (drop 2 text) ≡ Some n → Reads text (number_of n 0 true) []
in_base [] n named e = absurd (false≢true named)
in_base (b ∷ []) n named e = absurd (false≢true (and_parts (b == 48) false named).1)
in_base (b ∷ letter ∷ z) n named e =
    let two = and_parts (b == 48) (not (base_of letter == 10)) named in
    let other : (base_of letter == 10) ≡ false = not-true (base_of letter == 10) two.1 in
    let outer = guard_not (length z == 0) (digits_number (base_of letter) z) n e in
    let inner = cond_some (are_digits (base_of letter) z) (value_of (base_of letter) z) n outer.1 in
    let all = counted (base_of letter) (few_bases letter) 0 0 z inner.0 in
    let P : ℕ → Type 0 = λ m. Reads (48 ∷ letter ∷ z) (number_of m 0 true) [] in
    let Q : ℕ → Type 0 = λ x. Reads (x ∷ letter ∷ z) (number_of n 0 true) [] in
    subst Q (sym (eqb-true b 48 two.0))
    (subst P inner.1 (Reads.based (48 ∷ letter ∷ z) (value_of (base_of letter) z) [] (Based.based letter (value_of (base_of letter) z) all.count z [] other all.digits (all.some (some_there z outer.0)))))

chosen : {A : Type 0} (t : Bool) (x y z : A) → t ≡ true → cond t x y ≡ z → x ≡ z
chosen true x y z e is = is
chosen false x y z e is = absurd (false≢true e)

passed : {A : Type 0} (t : Bool) (x y z : A) → t ≡ false → cond t x y ≡ z → y ≡ z
passed false x y z e is = is
passed true x y z e is = absurd (false≢true (sym e))

pub is_read : (text : List ℕ) (n : ℕ) → whole_number text ≡ Some n → Reads text (number_of n 0 true) []
is_read text n e = elim (cases_Bool (names_base text)) [
  | inl named ↦ in_base text n named (chosen (names_base text) _ _ _ named e)
  | inr plainly ↦ decimal text n plainly (passed (names_base text) _ _ _ plainly e)
]
