-- A token of a script that is a whole number and all of a text: the text is that whole number.
use Rattle.std.proofs.Common.{◌≡◌, ℕ, ◌+◌, ◌*◌, ◌<◌, ◌≤◌, List, [], ◌∷◌, Bool, true, false, not, ◌==◌, ◌&&◌, ◌||◌, cond, Option, Some, None, length, refl, sym, ap, ◌∙◌, subst, arith, eqb-true, inl, inr}
use Rattle.std.specs.Char.{digit_value, is_digit}
use Rattle.std.specs.List.{filter}
use Rattle.std.specs.Str.Parse.{digits_value_after}
use Rattle.std.proofs.lemmas.Bool.{and_parts, cases_Bool, false≢true, le-ltb, ltb-true, ne_eqb, not-true}
use Rattle.xp_lexer.specs.declared.numbers.Exponent.{Exponent}
use Rattle.xp_lexer.specs.declared.numbers.Exponent.TheVariants as shift
use Rattle.xp_lexer.specs.Bytes.{first}
use Rattle.xp_lexer.specs.Meaning.{base_of, begins_number, is_absent, is_number, named, number_of}
use Rattle.xp_lexer.specs.Grammar.{Based, Digits, Fraction, Power, Reads, scaled}
use Rattle.std.specs.Str.{str_to_ascii_lowercase}
use Rattle.xp_token.specs.Lexemes.{Lexeme, NumberOf, TooWide}
use Rattle.xp_token.specs.Words.{word_named}
use Rattle.xp_token.specs.declared.words.Word.{Word}
use Rattle.xp_io.specs.Integers.{are_digits, names_base, whole_number}
use Rattle.xp_io.proofs.Decimals.{chosen, in_range, no_base, no_letter, passed}
use Rattle.xp_io.proofs.Digits.{digit_plain, plain}
use Rattle.xp_io.proofs.Lexer.{few_bases}

-- ---- what a number is

abbrev coefficient : Lexeme → ℕ
coefficient (NumberOf minus c s w) = c
coefficient _ = 0

abbrev is_whole : Lexeme → Bool
is_whole (NumberOf minus c s w) = w
is_whole _ = false

record Whole (value : ℕ) (whole : Bool) (n : ℕ) : Type 0 where
  value_is : value ≡ n
  whole_is : whole ≡ true

number_by : (t : Bool) (value scale : ℕ) (whole : Bool) (n : ℕ) → cond t (NumberOf false value scale whole) TooWide ≡ NumberOf false n 0 true → Whole value whole n
number_by true value scale whole n e = record { value_is = ap coefficient e; whole_is = ap is_whole e }
number_by false value scale whole n e = absurd (false≢true (ap is_whole e))

number_is : (value scale : ℕ) (whole : Bool) (n : ℕ) → number_of value scale whole ≡ NumberOf false n 0 true → Whole value whole n
unfolding number_of
number_is value scale whole n e = number_by _ value scale whole n e

-- ---- digits up to the end

record Digited (base value last : ℕ) (text : List ℕ) : Type 0 where
  all : are_digits base text ≡ true
  last_is : digits_value_after base value (filter plain text) ≡ last

digited : (base value count : ℕ) (text : List ℕ) (last many : ℕ) (rest : List ℕ) → base ≤ 16 → Digits base value count text last many rest → rest ≡ [] → Digited base value last text
digited base value count _ _ _ _ few (Digits.stops _ _ rest a b) e = record { all = rw e refl; last_is = rw e refl }
digited base value count _ last many rest few (Digits.digit _ _ b _ _ z _ g more) e =
    let behind = digited base (value * base + digit_value b) (count + 1) z last many rest few more e in
    record { all = rw g behind.all; last_is = rw (digit_plain b base few g) behind.last_is }
digited base value count _ last many rest few (Digits.underscore _ _ _ _ z _ g more) e =
    let behind = digited base value count z last many rest few more e in
    let other : is_digit 95 base ≡ false = le-ltb 36 base (omega arith) in
    record { all = rw (other, g) behind.all; last_is = behind.last_is }

-- ---- in a base

some_length : {A : Type 0} (z : List ℕ) (x y : A) → 0 < length z → cond (length z == 0) x y ≡ y
some_length [] x y h = absurd (omega arith)
some_length (b ∷ z) x y h = let other : (length (b ∷ z) == 0) ≡ false = ne_eqb (length (b ∷ z)) 0 (λ e. omega arith) in rw other refl

counts : (base value count : ℕ) (text : List ℕ) (last many : ℕ) (rest : List ℕ) → Digits base value count text last many rest → count < many → rest ≡ [] → 0 < length text
counts base value count _ _ _ _ (Digits.stops _ _ rest a b) h e = absurd (omega arith)
counts base value count _ last many rest (Digits.digit _ _ b _ _ z _ g more) h e = omega arith
counts base value count _ last many rest (Digits.underscore _ _ _ _ z _ g more) h e = omega arith

in_base : (z : List ℕ) (value : ℕ) (rest : List ℕ) → Based z value rest → rest ≡ [] → whole_number z ≡ Some value
in_base _ _ _ (Based.based letter value count z rest other d some) e =
    let found = digited (base_of letter) 0 0 z value count rest (few_bases letter) d e in
    let based : names_base (48 ∷ letter ∷ z) ≡ true = rw other refl in
    chosen _ _ _ based
    ∙ some_length z _ _ (counts (base_of letter) 0 0 z value count rest d some e)
    ∙ chosen _ _ _ found.all
    ∙ ap (λ k. Some k) found.last_is

-- ---- in decimal digits

record Bare (value value' count' : ℕ) (whole point rest : List ℕ) : Type 0 where
  same : value' ≡ value
  nothing : count' ≡ 0
  ended : whole ≡ []

after_fraction : (point rest : List ℕ) (x : Exponent) → Power point x rest → is_absent x ≡ true → rest ≡ [] → point ≡ []
after_fraction _ _ _ (Power.some letter z digits rest true by count l s d p) a e = absurd (false≢true a)
after_fraction _ _ _ (Power.some letter z digits rest false by count l s d p) a e = absurd (false≢true a)
after_fraction _ _ _ (Power.no_letter z l) a e = e
after_fraction _ _ _ (Power.no_digit letter z digits down l s d) a e = e

bare : (value : ℕ) (whole : List ℕ) (value' count' : ℕ) (point rest : List ℕ) → Fraction value whole value' count' point → (first whole == 46) ≡ false → point ≡ [] → Bare value value' count' whole point rest
bare _ _ _ _ _ rest (Fraction.point value value' count z behind d) plainly e = absurd (false≢true (sym plainly))
bare _ _ _ _ _ rest (Fraction.none value z plain') plainly e = record { same = refl; nothing = refl; ended = e }

-- a digit or an underscore is the letter of no base
no_base_of : (b : ℕ) (other : Bool) → (is_digit b 10 || (b == 95 && other)) ≡ true → base_of b ≡ 10
no_base_of b other e = elim (cases_Bool (is_digit b 10)) [
  | inl g ↦ no_letter b (in_range b (ltb-true (digit_value b) 10 g)).1
  | inr g ↦
      let under : (b == 95 && other) ≡ true = rw (sym e, g) refl in
      let is : b ≡ 95 = eqb-true b 95 (and_parts (b == 95) other under).0 in
      rw is refl
]

unbased : (z : List ℕ) → are_digits 10 z ≡ true → names_base z ≡ false
unbased [] all = refl
unbased (b ∷ []) all = no_base (b == 48) (base_of 0) refl
unbased (b ∷ letter ∷ z) all =
    let behind = and_parts (is_digit b 10 || (b == 95 && is_digit letter 10)) (are_digits 10 (letter ∷ z)) all in
    let at = and_parts (is_digit letter 10 || (letter == 95 && is_digit (first z) 10)) (are_digits 10 z) behind.1 in
    no_base (b == 48) (base_of letter) (no_base_of letter (is_digit (first z) 10) at.0)

-- digits do not begin with a point
begins_digit : (z : List ℕ) → begins_number z ≡ true → are_digits 10 z ≡ true → is_digit (first z) 10 ≡ true
begins_digit [] start all = absurd (false≢true start)
begins_digit (b ∷ z) start all = elim (cases_Bool (is_digit b 10)) [
  | inl g ↦ g
  | inr g ↦
      let pointed : (b == 46 && is_digit (first z) 10) ≡ true = rw (sym start, g) refl in
      let is : b ≡ 46 = eqb-true b 46 (and_parts (b == 46) (is_digit (first z) 10) pointed).0 in
      let P : ℕ → Type 0 = λ x. are_digits 10 (x ∷ z) ≡ true in
      absurd (false≢true (subst P is all))
]

in_decimals : (z : List ℕ) (value count : ℕ) (whole point rest : List ℕ) (value' count' : ℕ) (x : Exponent) → begins_number z ≡ true → Digits 10 0 0 z value count whole
    → Fraction value whole value' count' point → Power point x rest → (not (first whole == 46) && is_absent x) ≡ true → rest ≡ [] → whole_number z ≡ Some value'
in_decimals z value count whole point rest value' count' x start d f p w e =
    let parts = and_parts (not (first whole == 46)) (is_absent x) w in
    let found = bare value whole value' count' point rest f (not-true (first whole == 46) parts.0) (after_fraction point rest x p parts.1 e) in
    let all = digited 10 0 0 z value count whole (omega arith) d found.ended in
    passed _ _ _ (unbased z all.all)
    ∙ chosen _ _ _ (begins_digit z start all.all)
    ∙ chosen _ _ _ all.all
    ∙ ap (λ k. Some k) (all.last_is ∙ sym found.same)

scaled_absent : (value count : ℕ) (x : Exponent) → is_absent x ≡ true → (scaled value count x).0 ≡ value
scaled_absent value count shift.Absent a = refl
scaled_absent value count (shift.Up by) a = absurd (false≢true a)
scaled_absent value count (shift.Down by) a = absurd (false≢true a)

-- ---- the token

no_name : (w : Option Word) (name : List ℕ) → is_number (named w name) ≡ false
no_name None name = refl
no_name (Some w) name = refl

by_token : (text : List ℕ) (k : Lexeme) (rest : List ℕ) (n : ℕ) → Reads text k rest → rest ≡ [] → k ≡ NumberOf false n 0 true → whole_number text ≡ Some n
by_token _ _ _ n (Reads.based z value rest b) e is = in_base z value rest b e ∙ ap (λ m. Some m) (number_is value 0 true n is).value_is
by_token _ _ _ n (Reads.decimal z whole point rest value value' count count' x start unb d f p) e is =
    let found = number_is (scaled value' count' x).0 (scaled value' count' x).1 (not (first whole == 46) && is_absent x) n is in
    in_decimals z value count whole point rest value' count' x start d f p found.whole_is e
    ∙ ap (λ m. Some m) (sym (scaled_absent value' count' x (and_parts (not (first whole == 46)) (is_absent x) found.whole_is).1) ∙ found.value_is)
by_token _ _ _ n (Reads.string z text rest p) e is = absurd (false≢true (ap is_number is))
by_token _ _ _ n (Reads.quoted z raw text rest q c l) e is = absurd (false≢true (ap is_number is))
by_token _ _ _ n (Reads.name z name rest b p l) e is = absurd (false≢true (sym (no_name (word_named (str_to_ascii_lowercase name)) (str_to_ascii_lowercase name)) ∙ ap is_number is))
by_token _ _ _ n (Reads.operator z run operator signs rest g r t) e is = absurd (false≢true (ap is_number is))
by_token _ _ _ n (Reads.open_paren z) e is = absurd (false≢true (ap is_number is))
by_token _ _ _ n (Reads.close_paren z) e is = absurd (false≢true (ap is_number is))
by_token _ _ _ n (Reads.open_bracket z) e is = absurd (false≢true (ap is_number is))
by_token _ _ _ n (Reads.close_bracket z) e is = absurd (false≢true (ap is_number is))
by_token _ _ _ n (Reads.comma z) e is = absurd (false≢true (ap is_number is))
by_token _ _ _ n (Reads.point z d) e is = absurd (false≢true (ap is_number is))
by_token _ _ _ n (Reads.double_colon z) e is = absurd (false≢true (ap is_number is))

pub is_whole_number : (text : List ℕ) (n : ℕ) → Reads text (NumberOf false n 0 true) [] → whole_number text ≡ Some n
is_whole_number text n reads = by_token text (NumberOf false n 0 true) [] n reads refl refl
