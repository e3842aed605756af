-- The parts of a text that is made of parts, and the range that a range's text is.
use Rattle.std.proofs.Common.{◌≡◌, ℕ, ◌+◌, ◌-◌, ◌<◌, Bool, true, false, ◌==◌, refl, ap, sym, ◌∙◌, arith, ℤ, int_lt, cond, List, [], ◌∷◌, ◌++◌, length, length-append, take, drop, slice_index, Option, Some, None, option_map, Result, Ok, Err}
use Rattle.std.specs.Prelude.{codes, nat_lt}
use Rattle.std.specs.Option.{is_some, ok_or}
use Rattle.std.specs.Str.{str_eq_ignore_ascii_case}
use Rattle.std.specs.List.{list_all, position, position_or_len}
use Rattle.std.proofs.Math.Seq.{take-append_seam, drop-append-add, get_or-append_seam}
use Rattle.std.proofs.lemmas.Bool.{and_from, and_parts, eqb-true, false≢true, lt-ltb}
use Rattle.std.proofs.lemmas.Int.{ints}
use Rattle.std.proofs.lemmas.List.Recursion.{is_position_or_len}
use Rattle.xp_base.specs.FromLeft.{and_then}
use Rattle.xp_base.specs.declared.codes.EvalError.{EvalError}
use Rattle.xp_base.specs.declared.codes.EvalError.TheVariants.{BadText, RangeData}
use Rattle.xp_value.specs.Representation.{is_range}
use Rattle.xp_value.specs.declared.value.Range.{Range}
use Rattle.xp_value.specs.declared.value.Range.TheVariants.{Empty, Bounds}
use Rattle.xp_value.specs.declared.value.RangeKind.{RangeKind}
use Rattle.xp_range.specs.Bounds.{between, is_under, lower_of, upper_of}
use Rattle.xp_range.specs.Constructors.{flags_named, flags_of, made}
use Rattle.xp_range.specs.Texts.{ReadsBack, bound_in, bound_text, bounds_at, bounds_in, ends, inside, is_plain, opening, parts_of, plain_bounds, range_in, range_of, split, text, with_flags}
use Rattle.xp_range.proofs.OfKind.{bounds_of, empty_of, under_part}

not_comma : (c : ℕ) → is_plain c ≡ true → (c == 44) ≡ false
not_comma c e = by (c == 44) refl
  where
    by : (t : Bool) → (c == 44) ≡ t → (c == 44) ≡ false
    by true f = absurd (false≢true (ap is_plain (sym (eqb-true c 44 f)) ∙ e))
    by false f = f

abbrev comma : List ℕ → ℕ
comma [] = 0
comma (c ∷ text) = cond (c == 44) 0 (1 + comma text)

comma_counted : (lower upper : List ℕ) → list_all is_plain lower ≡ true → comma (lower ++ 44 ∷ upper) ≡ length lower
comma_counted [] upper e = refl
comma_counted (c ∷ lower) upper e =
    let both = and_parts (is_plain c) (list_all is_plain lower) e in
    ap (λ t. cond t 0 (1 + comma (lower ++ 44 ∷ upper))) (not_comma c both.0) ∙ counted (comma_counted lower upper both.1)
  where
    counted : comma (lower ++ 44 ∷ upper) ≡ length lower → 1 + comma (lower ++ 44 ∷ upper) ≡ length (c ∷ lower)
    counted f = omega arith

comma_place : (lower upper : List ℕ) → list_all is_plain lower ≡ true → position_or_len (λ b. b == 44) (lower ++ 44 ∷ upper) ≡ length lower
comma_place lower upper e = sym (is_position_or_len comma (λ b. b == 44) refl (λ x xs. refl) (lower ++ 44 ∷ upper)) ∙ comma_counted lower upper e

comma_at : (lower upper : List ℕ) → list_all is_plain lower ≡ true → position (λ b. b == 44) (lower ++ 44 ∷ upper) ≡ Some (length lower)
comma_at lower upper e =
    let within : length lower < length (lower ++ 44 ∷ upper) = omega (arith, length-append lower (44 ∷ upper)) in
    ap (λ n. cond (nat_lt n (length (lower ++ 44 ∷ upper))) (Some n) None) (comma_place lower upper e)
    ∙ ap (λ t. cond t (Some (length lower)) None) (lt-ltb (length lower) (length (lower ++ 44 ∷ upper)) within)

plain_are : (lower upper : List ℕ) → list_all is_plain lower ≡ true → list_all is_plain upper ≡ true → plain_bounds lower upper ≡ Some (lower, upper)
plain_are lower upper e f = ap (λ t. cond t (Some (lower, upper)) None) (and_from _ _ e f)

bounds_found : (lower upper : List ℕ) → list_all is_plain lower ≡ true → list_all is_plain upper ≡ true → bounds_in (lower ++ 44 ∷ upper) ≡ Some (lower, upper)
bounds_found lower upper e f =
    ap (bounds_at (lower ++ 44 ∷ upper)) (comma_at lower upper e)
    ∙ ap (λ front. plain_bounds front (drop (length lower + 1) (lower ++ 44 ∷ upper))) (take-append_seam lower (44 ∷ upper))
    ∙ ap (plain_bounds lower) (drop-append-add lower (44 ∷ upper) 1)
    ∙ plain_are lower upper e f

-- a text between two bytes
last_of : (o c : ℕ) (middle : List ℕ) → ends (o ∷ middle ++ c ∷ []) ≡ o ∷ c ∷ []
last_of o c middle =
    let at : length (o ∷ middle ++ c ∷ []) - 1 ≡ length (o ∷ middle) = omega (arith, length-append middle (c ∷ [])) in
    ap (λ n. o ∷ slice_index (o ∷ middle ++ c ∷ []) n ∷ []) at
    ∙ ap (λ b. o ∷ b ∷ []) (get_or-append_seam (o ∷ middle) c [] 0)

inside_of : (o c : ℕ) (middle : List ℕ) → inside (o ∷ middle ++ c ∷ []) ≡ middle
inside_of o c middle =
    let at : length (o ∷ middle ++ c ∷ []) - 2 ≡ length middle = omega (arith, length-append middle (c ∷ [])) in
    ap (λ n. take n (middle ++ c ∷ [])) at ∙ take-append_seam middle (c ∷ [])

-- ---- whole texts

opens : Bool → ℕ
opens inc = cond inc 91 40

closes : Bool → ℕ
closes inc = cond inc 93 41

flagged : (a b : Bool) → flags_named (opens a ∷ closes b ∷ []) ≡ Some (flags_of a b)
unfolding opens closes
flagged true true = refl
flagged true false = refl
flagged false true = refl
flagged false false = refl

no_word : (a : Bool) (rest : List ℕ) → str_eq_ignore_ascii_case (opens a ∷ rest) (codes "empty") ≡ false
unfolding opens
no_word true rest = refl
no_word false rest = refl

parts_found : (a b : Bool) (lower upper : List ℕ) → list_all is_plain lower ≡ true → list_all is_plain upper ≡ true → split (opens a ∷ (lower ++ 44 ∷ upper) ++ closes b ∷ []) ≡ Ok (Some (flags_of a b, lower, upper))
parts_found a b lower upper e f =
    let text = opens a ∷ (lower ++ 44 ∷ upper) ++ closes b ∷ [] in
    ap (λ t. cond t (Ok None) (ok_or (option_map Some (parts_of text)) BadText)) (no_word a ((lower ++ 44 ∷ upper) ++ closes b ∷ []))
    ∙ ap (λ x. ok_or (option_map Some (with_flags (flags_named x) (bounds_in (inside text)))) BadText) (last_of (opens a) (closes b) (lower ++ 44 ∷ upper))
    ∙ ap (λ x. ok_or (option_map Some (with_flags x (bounds_in (inside text)))) BadText) (flagged a b)
    ∙ ap (λ x. ok_or (option_map Some (with_flags (Some (flags_of a b)) (bounds_in x))) BadText) (inside_of (opens a) (closes b) (lower ++ 44 ∷ upper))
    ∙ ap (λ x. ok_or (option_map Some (with_flags (Some (flags_of a b)) x)) BadText) (bounds_found lower upper e f)

whole : (o c : ℕ) (lower upper : List ℕ) → (o ∷ lower ++ 44 ∷ upper ++ c ∷ []) ≡ (o ∷ (lower ++ 44 ∷ upper) ++ c ∷ [])
whole o c lower upper = refl

plain_text : (read : List ℕ → Result ℤ EvalError) (write : ℤ → List ℕ) (bound : Option ℤ) → ReadsBack read write bound → list_all is_plain (bound_text write bound) ≡ true
plain_text read write None fits = refl
plain_text read write (Some n) fits = fits.1

read_text : (read : List ℕ → Result ℤ EvalError) (text : List ℕ) (n : ℤ) → read text ≡ Ok n → (length text == 0) ≡ false → bound_in read text ≡ Ok (Some n)
read_text read [] n e f = absurd (false≢true (sym f))
read_text read (c ∷ text) n e f = ap (λ r. and_then r (λ bound. Ok (Some bound))) e

read_bound : (read : List ℕ → Result ℤ EvalError) (write : ℤ → List ℕ) (bound : Option ℤ) → ReadsBack read write bound → bound_in read (bound_text write bound) ≡ Ok bound
read_bound read write None fits = refl
read_bound read write (Some n) fits = read_text read (write n) n fits.0 fits.2

crossed_not : (l u : ℤ) → int_lt l u ≡ true → int_lt u l ≡ false
crossed_not l u e = grind (arith, ints)

made_again : (k : RangeKind) (l u : Option ℤ) → is_under l u ≡ true → made k (flags_of (is_some l) false) l u ≡ Ok (Bounds l u k)
made_again k None None e = refl
made_again k None (Some u) e = refl
made_again k (Some l) None e = refl
made_again k (Some l) (Some u) e =
    ap (λ t. cond t (Err RangeData) (Ok (between k (Some l) (Some u)))) (crossed_not l u e)
    ∙ ap (λ t. Ok (cond t (Bounds (Some l) (Some u) k) (Empty k))) e

opening_is : (l : Option ℤ) → opening l ≡ opens (is_some l)
unfolding opens
opening_is None = refl
opening_is (Some n) = refl

bounds_back : (read : List ℕ → Result ℤ EvalError) (write : ℤ → List ℕ) (k : RangeKind) (l u : Option ℤ) → is_under l u ≡ true → ReadsBack read write l → ReadsBack read write u → range_in read k (text write (Bounds l u k)) ≡ Ok (Bounds l u k)
unfolding closes
bounds_back read write k l u e a b =
    let lower = bound_text write l in
    let upper = bound_text write u in
    let flags = flags_of (is_some l) false in
    ap (λ o. range_in read k (o ∷ lower ++ 44 ∷ upper ++ 41 ∷ [])) (opening_is l)
    ∙ ap (range_in read k) (whole (opens (is_some l)) 41 lower upper)
    ∙ ap (λ parts. and_then parts (range_of read k)) (parts_found (is_some l) false lower upper (plain_text read write l a) (plain_text read write u b))
    ∙ ap (λ r. and_then r (λ first. and_then (bound_in read upper) (λ end. made k flags first end))) (read_bound read write l a)
    ∙ ap (λ r. and_then r (λ end. made k flags l end)) (read_bound read write u b)
    ∙ made_again k l u e

pub text_back : (read : List ℕ → Result ℤ EvalError) (write : ℤ → List ℕ) (k : RangeKind) (range : Range) → is_range k range ≡ true → ReadsBack read write (lower_of range) → ReadsBack read write (upper_of range) → range_in read k (text write range) ≡ Ok range
text_back read write k (Empty j) of a b = ap (λ i. Ok (Empty i)) (sym (empty_of k j of))
text_back read write k (Bounds l u j) of a b =
    let own = bounds_of k j l u of in
    bounds_back read write k l u (under_part k l u own.1) a b ∙ ap (λ i. Ok (Bounds l u i)) (sym own.0)
