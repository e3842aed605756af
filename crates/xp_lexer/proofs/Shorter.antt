-- Each piece that is no end takes bytes away.
use Rattle.std.proofs.Common.{◌≡◌, ℕ, zero, suc, ◌+◌, ◌-◌, ◌<◌, ◌≤◌, Bool, true, false, not, ◌&&◌, ◌||◌, ◌==◌, cond, [], ◌∷◌, ◌++◌, length, drop, Option, Some, None, Ok, Err, refl, sym, ap, subst, ◌∙◌, arith}
use Rattle.std.specs.Prelude.{nat_lt, slice_index}
use Rattle.std.specs.Char.{digit_value, is_digit}
use Rattle.std.proofs.lemmas.Bool.{and_parts}
use Rattle.std.proofs.lemmas.Bool.Decides.{nat_tests}
use Rattle.std.proofs.lemmas.List.{length-drop}
use Rattle.xp_lexer.specs.declared.scan_error.ScanError.TheVariants as error
use Rattle.xp_token.specs.declared.token.Mark.{Mark}
use Rattle.xp_token.specs.declared.token.Mark.TheVariants as mark
use Rattle.xp_lexer.specs.declared.numbers.Exponent.TheVariants as shift
use Rattle.xp_base.specs.Operators.{is_operator_byte, is_sign, is_special_byte}
use Rattle.xp_lexer.specs.Bytes.{Text, first, is_space, is_decimal, begins_name, is_name_byte, opens_comment}
use Rattle.xp_token.specs.Ended.{is_end}
use Rattle.xp_token.specs.Lexemes.{Lexeme, QuotedName, Constant, MarkOf, EndOf}
use Rattle.xp_lexer.specs.inner.Cutting.{◌>>=◌, line_rest, comment_rest, behind_comment, comment, digits, extended, decimals, fraction, sign, exponent_digits, exponent_at, decimal, number, names_base, name_len, name, cut, operator, operator_len, part, more_parts, then_more, continued, all_parts, string, quoted_name, word, one_byte, mark_at, token, scan_next}
use Rattle.xp_lexer.specs.Meaning.{base_of, number_of, goes_on, is_prefix, begins_number}
use Rattle.xp_lexer.proofs.Parts.{bind_ok, part_shorter, continued_within}

line_within : (z : Text) → length (line_rest z) ≤ length z
line_within [] = omega arith
line_within (b ∷ z) = by (b == 10) (line_within z)
  where
    by : (v : Bool) → length (line_rest z) ≤ length z → length (cond v (b ∷ z) (line_rest z)) ≤ length (b ∷ z)
    by true h = omega arith
    by false h = omega arith

comment_within : (n : ℕ) (s : Bool) (z rest : Text) → comment_rest n s z ≡ Some rest → length rest ≤ length z
comment_within n s [] rest e = absurd cc
comment_within n true (b ∷ z) rest e = by (n == 0) (comment_within n false z rest) e
  where
    by : (v : Bool) → (comment_rest n false z ≡ Some rest → length rest ≤ length z) → cond v (Some z) (comment_rest n false z) ≡ Some rest → length rest ≤ length (b ∷ z)
    by true more e = let q : z ≡ rest = cc in omega (arith, ap length q)
    by false more e = omega (arith, more e)
comment_within n false (b ∷ z) rest e = by (b == 47 && first z == 42) (b == 42 && first z == 47) (comment_within (n + 1) true z rest) (comment_within (n - 1) true z rest) (comment_within n false z rest) e
  where
    by : (v w : Bool) → (comment_rest (n + 1) true z ≡ Some rest → length rest ≤ length z) → (comment_rest (n - 1) true z ≡ Some rest → length rest ≤ length z) → (comment_rest n false z ≡ Some rest → length rest ≤ length z)
        → cond v (comment_rest (n + 1) true z) (cond w (comment_rest (n - 1) true z) (comment_rest n false z)) ≡ Some rest → length rest ≤ length (b ∷ z)
    by true w f g h e = omega (arith, f e)
    by false true f g h e = omega (arith, g e)
    by false false f g h e = omega (arith, h e)

behind_within : (z rest : Text) (o : Option Text) → (o ≡ Some rest → length rest ≤ length (drop 2 z)) → behind_comment z o ≡ Ok rest → length rest ≤ length (drop 2 z)
behind_within z rest None h e = absurd cc
behind_within z rest (Some q) h e = h (let s : q ≡ rest = cc in ap Some s)

comment_shorter : (b : ℕ) (z rest : Text) → comment (b ∷ z) ≡ Ok rest → length rest ≤ length z
unfolding comment
comment_shorter b z rest e = by (b == 45) refl e
  where
    by : (v : Bool) → (b == 45) ≡ v → cond v (Ok (line_rest (b ∷ z))) (behind_comment (b ∷ z) (comment_rest 1 false (drop 2 (b ∷ z)))) ≡ Ok rest → length rest ≤ length z
    by true f e =
        let other : (b == 10) ≡ false = grind (arith, nat_tests) in
        let q : line_rest (b ∷ z) ≡ rest = cc in
        let same : line_rest (b ∷ z) ≡ line_rest z = rw other refl in
        subst (λ (t : Text). length t ≤ length z) (sym same ∙ q) (line_within z)
    by false f e = omega (arith, behind_within (b ∷ z) rest (comment_rest 1 false (drop 2 (b ∷ z))) (comment_within 1 false (drop 2 (b ∷ z)) rest) e, length-drop 2 (b ∷ z))

pub digits_within : (base value count : ℕ) (z : Text) → length (digits base value count z).2 ≤ length z
digits_within base value count [] = omega arith
digits_within base value count (b ∷ z) = by (is_digit b base) (b == 95 && is_digit (first z) base) (digits_within base (extended base value (digit_value b)) (count + 1) z) (digits_within base value count z)
  where
    by : (v w : Bool) → length (digits base (extended base value (digit_value b)) (count + 1) z).2 ≤ length z → length (digits base value count z).2 ≤ length z
        → length (cond v (digits base (extended base value (digit_value b)) (count + 1) z) (cond w (digits base value count z) (value, count, b ∷ z))).2 ≤ length (b ∷ z)
    by true w h k = omega arith
    by false true h k = omega arith
    by false false h k = omega arith

digits_shorter : (value : ℕ) (z : Text) → is_decimal (first z) ≡ true → length (digits 10 value 0 z).2 < length z
digits_shorter value [] e = absurd cc
digits_shorter value (b ∷ z) e = rw e (omega (arith, digits_within 10 (extended 10 value (digit_value b)) 1 z))

decimals_within : (value : ℕ) (z : Text) → length (decimals value z).2 ≤ length z
unfolding decimals
decimals_within value z = by (is_decimal (first z)) (digits_within 10 value 0 z)
  where
    by : (v : Bool) → length (digits 10 value 0 z).2 ≤ length z → length (cond v (digits 10 value 0 z) (value, 0, z)).2 ≤ length z
    by true h = h
    by false h = omega arith

fraction_shorter : (value : ℕ) (z : Text) → 0 < length z → (first z == 46) ≡ true → length (fraction value z).2 < length z
unfolding fraction
fraction_shorter value z some e = rw e (omega (arith, decimals_within value (drop 1 z), length-drop 1 z))

fraction_within : (value : ℕ) (z : Text) → length (fraction value z).2 ≤ length z
unfolding fraction
fraction_within value z = by (first z == 46) (decimals_within value (drop 1 z))
  where
    by : (v : Bool) → length (decimals value (drop 1 z)).2 ≤ length (drop 1 z) → length (cond v (decimals value (drop 1 z)) (value, 0, z)).2 ≤ length z
    by true h = omega (arith, h, length-drop 1 z)
    by false h = omega arith

sign_within : (z : Text) → length (sign z).1 ≤ length z
unfolding sign
sign_within z = by (first z == 43 || first z == 45)
  where
    by : (v : Bool) → length (cond {A = Bool × Text} v (first z == 45, drop 1 z) (false, z)).1 ≤ length z
    by true = omega (arith, length-drop 1 z)
    by false = omega arith

exponent_within : (z : Text) → length (exponent_at z).1 ≤ length z
unfolding exponent_at exponent_digits
exponent_within z = by ((first z == 101 || first z == 69) && is_decimal (first (sign (drop 1 z)).1)) (digits_within 10 0 0 (sign (drop 1 z)).1) (sign_within (drop 1 z))
  where
    by : (v : Bool) → length (digits 10 0 0 (sign (drop 1 z)).1).2 ≤ length (sign (drop 1 z)).1 → length (sign (drop 1 z)).1 ≤ length (drop 1 z)
        → length (cond v (exponent_digits (sign (drop 1 z)).0 (sign (drop 1 z)).1) (shift.Absent, z)).1 ≤ length z
    by true h k = omega (arith, h, k, length-drop 1 z)
    by false h k = omega arith

nonempty : (z : Text) (n : ℕ) → (first z == suc n) ≡ true → 0 < length z
nonempty [] n e = absurd (grind (arith, nat_tests))
nonempty (b ∷ z) n e = omega arith

digits_none : (z : Text) → (first z == 46) ≡ true → digits 10 0 0 z ≡ (0, 0, z)
digits_none [] e = refl
digits_none (b ∷ z) e = let f : b ≡ 46 = grind (arith, nat_tests) in rw f refl

decimal_shorter : (z : Text) → begins_number z ≡ true → length (decimal z).1 < length z
unfolding decimal
decimal_shorter z h = by (is_decimal (first z)) refl h
  where
    by : (v : Bool) → is_decimal (first z) ≡ v → (v || (first z == 46 && is_decimal (slice_index z 1))) ≡ true → length (exponent_at (fraction (digits 10 0 0 z).0 (digits 10 0 0 z).2).2).1 < length z
    by true e h =
        omega (arith, exponent_within (fraction (digits 10 0 0 z).0 (digits 10 0 0 z).2).2, fraction_within (digits 10 0 0 z).0 (digits 10 0 0 z).2, digits_shorter 0 z e)
    by false e h =
        let point : (first z == 46) ≡ true = (and_parts (first z == 46) (is_decimal (slice_index z 1)) h).0 in
        rw (digits_none z point) (omega (arith, exponent_within (fraction 0 z).2, fraction_shorter 0 z (nonempty z 45 point) point))

number_shorter : (z : Text) → begins_number z ≡ true → length (number z).1 < length z
unfolding number
number_shorter z h = by (names_base z) refl (nat_lt 0 (digits (base_of (slice_index z 1)) 0 0 (drop 2 z)).1) (decimal_shorter z h)
  where
    by : (v : Bool) → names_base z ≡ v → (w : Bool) → length (decimal z).1 < length z
        → length (cond (v && w) (number_of (digits (base_of (slice_index z 1)) 0 0 (drop 2 z)).0 0 true, (digits (base_of (slice_index z 1)) 0 0 (drop 2 z)).2) (decimal z)).1 < length z
    by true e true k =
        let zero_first : (first z == 48) ≡ true = (and_parts (first z == 48) (not (base_of (slice_index z 1) == 10)) e).0 in
        omega (arith, digits_within (base_of (slice_index z 1)) 0 0 (drop 2 z), length-drop 2 z, nonempty z 47 zero_first)
    by true e false k = k
    by false e w k = k

name_byte : (b : ℕ) → begins_name b ≡ true → is_name_byte b ≡ true
name_byte b h = grind (arith, nat_tests)

name_some : (z : Text) → begins_name (first z) ≡ true → (1 ≤ name_len z) × (0 < length z)
name_some [] h = absurd cc
name_some (b ∷ z) h = rw (name_byte b h) (omega arith, omega arith)

word_shorter : (z : Text) (p : Lexeme × Text) → begins_name (first z) ≡ true → word z ≡ Ok p → length p.1 < length z
unfolding word name
word_shorter z p h e = by (is_prefix z) e
  where
    by : (v : Bool) → cond v (Err (error.BadByte (length z))) (name z) ≡ Ok p → length p.1 < length z
    by true e = absurd cc
    by false e =
        let q : drop (name_len z) z ≡ p.1 = cc in
        let s = name_some z h in
        subst (λ (t : Text). length t < length z) q (omega (arith, length-drop (name_len z) z, s.0, s.1))

operator_some : (z : Text) (len kept : ℕ) (free : Bool) → 1 ≤ kept → (free ≡ true → 1 ≤ len) → 1 ≤ operator_len len kept free z
operator_some [] len kept true h k = k refl
operator_some [] len kept false h k = h
operator_some (b ∷ z) len kept free h k = by (goes_on b (first z)) (is_sign b) free k (operator_some z (len + 1) kept (free || is_special_byte b) h (λ e. omega arith)) (operator_some z (len + 1) (len + 1) (free || is_special_byte b) (omega arith) (λ e. omega arith))
  where
    by : (v s f : Bool) → (f ≡ true → 1 ≤ len) → 1 ≤ operator_len (len + 1) kept (free || is_special_byte b) z → 1 ≤ operator_len (len + 1) (len + 1) (free || is_special_byte b) z
        → 1 ≤ cond v (operator_len (len + 1) (cond s kept (len + 1)) (free || is_special_byte b) z) (cond f len kept)
    by true true f k a c = a
    by true false f k a c = c
    by false s true k a c = k refl
    by false s false k a c = h

cut_shorter : (len : ℕ) (z : Text) (p : Lexeme × Text) → 1 ≤ len → 0 < length z → cut len z ≡ Ok p → length p.1 < length z
unfolding cut
cut_shorter len z p h some e = let q : drop len z ≡ p.1 = cc in subst (λ (t : Text). length t < length z) q (omega (arith, length-drop len z))

operator_shorter : (alone : Bool) (z : Text) (p : Lexeme × Text) → 0 < length z → operator alone z ≡ Ok p → length p.1 < length z
unfolding operator
operator_shorter true z p some e = cut_shorter 1 z p (omega arith) some e
operator_shorter false z p some e = cut_shorter (operator_len 0 1 false z) z p (operator_some z 0 1 false (omega arith) (λ f. absurd cc)) some e

one_shorter : (m : Mark) (z : Text) (p : Lexeme × Text) → 0 < length z → one_byte m z ≡ Ok p → length p.1 < length z
one_shorter m z p some e = let q : drop 1 z ≡ p.1 = cc in subst (λ (t : Text). length t < length z) q (omega (arith, length-drop 1 z))

mark_shorter : (z : Text) (p : Lexeme × Text) → 0 < length z → mark_at z ≡ Ok p → length p.1 < length z
unfolding mark_at
mark_shorter z p some e = by (first z == 40) (first z == 41) (first z == 91) (first z == 93) (first z == 44) (first z == 46) (first z == 58 && slice_index z 1 == 58) e
  where
    by : (t u v w x y s : Bool)
        → cond t (one_byte mark.OpenParen z) (cond u (one_byte mark.CloseParen z) (cond v (one_byte mark.OpenBracket z) (cond w (one_byte mark.CloseBracket z) (cond x (one_byte mark.Comma z) (cond y (one_byte mark.Point z) (cond s (Ok (MarkOf mark.DoubleColon, drop 2 z)) (Err (error.BadByte (length z)))))))))
        ≡ Ok p → length p.1 < length z
    by true u v w x y s e = one_shorter _ z p some e
    by false true v w x y s e = one_shorter _ z p some e
    by false false true w x y s e = one_shorter _ z p some e
    by false false false true x y s e = one_shorter _ z p some e
    by false false false false true y s e = one_shorter _ z p some e
    by false false false false false true s e = one_shorter _ z p some e
    by false false false false false false true e = let q : drop 2 z ≡ p.1 = cc in subst (λ (t : Text). length t < length z) q (omega (arith, length-drop 2 z))
    by false false false false false false false e = absurd cc

more_within : (n : ℕ) (text z : Text) (p : Text × Text) → more_parts n text z ≡ Ok p → length p.1 ≤ length z
more_within zero text z p e = let q : z ≡ p.1 = cc in omega (arith, ap length q)
more_within (suc n) text z p e = by (λ t u. more_within n t u p) (continued false z) refl e
  where
    by : ((t u : Text) → more_parts n t u ≡ Ok p → length p.1 ≤ length u) → (o : Option Text) → continued false z ≡ o → then_more (more_parts n) text z o ≡ Ok p → length p.1 ≤ length z
    by more None was e = let q : z ≡ p.1 = cc in omega (arith, ap length q)
    by more (Some q) was e =
        let (x, f, g) = bind_ok (part 39 (drop 1 q)) (λ y. more_parts n (text ++ y.0) y.1) p e in
        let w = continued_within false z q was in
        omega (arith, more (text ++ x.0) x.1 g, part_shorter 39 (drop 1 q) x f, length-drop 1 q, w.0)

all_parts_within : (text z : Text) (p : Text × Text) → all_parts text z ≡ Ok p → length p.1 ≤ length z
unfolding all_parts
all_parts_within text z p e = more_within (length z) text z p e

string_shorter : (z : Text) (p : Lexeme × Text) → string z ≡ Ok p → length p.1 < length z
unfolding string
string_shorter z p e =
    let (s, f, g) = bind_ok (part 39 z >>= (λ x. all_parts x.0 x.1)) (λ s. Ok (Constant s.0, s.1)) p e in
    let (x, h, k) = bind_ok (part 39 z) (λ x. all_parts x.0 x.1) s f in
    let q : s.1 ≡ p.1 = cc in
    omega (arith, ap length q, all_parts_within x.0 x.1 s k, part_shorter 39 z x h)

quoted_shorter : (z : Text) (p : Lexeme × Text) → quoted_name z ≡ Ok p → length p.1 < length z
unfolding quoted_name
quoted_shorter z p e =
    let (x, f, g) = bind_ok (part 34 z) (λ x. cond (length x.0 == 0) (Err (error.BadByte (length z + 1))) (Ok (QuotedName x.0, x.1))) p e in
    by x f (length x.0 == 0) g
  where
    by : (x : Text × Text) → part 34 z ≡ Ok x → (v : Bool) → cond v (Err (error.BadByte (length z + 1))) (Ok (QuotedName x.0, x.1)) ≡ Ok p → length p.1 < length z
    by x f true g = absurd cc
    by x f false g = let q : x.1 ≡ p.1 = cc in omega (arith, ap length q, part_shorter 34 z x f)

token_shorter : (alone : Bool) (z : Text) (p : Lexeme × Text) → 0 < length z → token alone z ≡ Ok p → length p.1 < length z
unfolding token
token_shorter alone z p some e = by (first z == 39) (first z == 34) (begins_number z) refl (begins_name (first z)) refl (is_operator_byte (first z)) e
  where
    by : (t u v : Bool) → begins_number z ≡ v → (w : Bool) → begins_name (first z) ≡ w → (x : Bool)
        → cond t (string (drop 1 z)) (cond u (quoted_name (drop 1 z)) (cond v (Ok (number z)) (cond w (word z) (cond x (operator alone z) (mark_at z))))) ≡ Ok p → length p.1 < length z
    by true u v f w g x e = omega (arith, string_shorter (drop 1 z) p e, length-drop 1 z)
    by false true v f w g x e = omega (arith, quoted_shorter (drop 1 z) p e, length-drop 1 z)
    by false false true f w g x e = let q : (number z).1 ≡ p.1 = cc in omega (arith, ap length q, number_shorter z f)
    by false false false f true g x e = word_shorter z p g e
    by false false false f false g true e = operator_shorter alone z p some e
    by false false false f false g false e = mark_shorter z p some e

-- a piece behind which the statement goes on
abbrev pub goes_on_behind : Option Lexeme → Bool
goes_on_behind None = true
goes_on_behind (Some k) = not (is_end k)

pub piece_shorter : (alone : Bool) (z : Text) (p : Option Lexeme × Text) → scan_next alone z ≡ Ok p → (length p.1 ≤ length z) × (goes_on_behind p.0 ≡ true → length p.1 < length z)
unfolding scan_next
piece_shorter alone [] p e = let q : [] ≡ p.1 = cc in (omega (arith, ap length q), λ g. absurd (by p.0 (cc) g))
  where
    by : (o : Option Lexeme) → Some EndOf ≡ o → goes_on_behind o ≡ true → ⊥
    by None f g = cc
    by (Some k) f g = let h : EndOf ≡ k = cc in subst (λ x. not (is_end x) ≡ true → ⊥) h (λ y. cc) g
piece_shorter alone (b ∷ z) p e =
    let some : (length (b ∷ z) == 0) ≡ false = grind (arith, nat_tests) in
    by (is_space b) (opens_comment b (slice_index (b ∷ z) 1)) (b == 59) (rw some at e)
  where
    one : (rest : Text) → length rest < length (b ∷ z) → rest ≡ p.1 → (length p.1 ≤ length (b ∷ z)) × (goes_on_behind p.0 ≡ true → length p.1 < length (b ∷ z))
    one rest h q = (omega (arith, ap length q), λ g. omega (arith, ap length q))

    by : (t u v : Bool)
        → cond t (Ok (None, z)) (cond u (comment (b ∷ z) >>= (λ rest. Ok (None, rest))) (cond v (Ok (Some EndOf, z)) (token alone (b ∷ z) >>= (λ p. Ok (Some p.0, p.1))))) ≡ Ok p
        → (length p.1 ≤ length (b ∷ z)) × (goes_on_behind p.0 ≡ true → length p.1 < length (b ∷ z))
    by true u v e = one z (omega arith) (cc)
    by false true v e =
        let (x, f, g) = bind_ok (comment (b ∷ z)) (λ rest. Ok (None, rest)) p e in
        one x (omega (arith, comment_shorter b z x f)) (cc)
    by false false true e = one z (omega arith) (cc)
    by false false false e =
        let (x, f, g) = bind_ok (token alone (b ∷ z)) (λ p. Ok (Some p.0, p.1)) p e in
        one x.1 (token_shorter alone (b ∷ z) x (omega arith) f) (cc)
