-- One piece: the function finds what the definition says, and nothing else.
use Rattle.std.proofs.Common.{◌≡◌, ℕ, ◌^◌, ◌<◌, ◌≤◌, Bool, true, false, not, ◌&&◌, ◌||◌, ◌==◌, [], ◌∷◌, ◌++◌, length, Option, Some, None, Ok, Err, ◌⊎◌, inl, inr, refl, sym, ap, subst, ◌∙◌, arith}
use Rattle.std.specs.Prelude.{slice_index}
use Rattle.std.proofs.lemmas.Bool.{and_parts}
use Rattle.std.proofs.lemmas.Bool.Decides.{nat_tests}
use Rattle.xp_lexer.specs.declared.scan_error.ScanError.{ScanError}
use Rattle.xp_lexer.specs.declared.scan_error.ScanError.TheVariants as error
use Rattle.xp_token.specs.declared.token.Mark.TheVariants as mark
use Rattle.xp_base.specs.Operators.{is_operator_byte}
use Rattle.xp_lexer.specs.Bytes.{Text, first, is_space, is_decimal, begins_name, is_name_byte, opens_comment}
use Rattle.xp_token.specs.Lexemes.{Lexeme, QuotedName, Constant, OperatorOf, MarkOf, EndOf}
use Rattle.xp_lexer.specs.inner.Cutting.{◌>>=◌, comment, comment_rest, line_rest, number, name, word, quoted_name, mark_at, token, scan_next}
use Rattle.xp_lexer.specs.Meaning.{number_of, is_prefix, goes_on, spelled, begins_number}
use Rattle.xp_lexer.specs.Grammar.{Comments, Gap, Longest, Quoted, IsClean, Parts, Based, Run, Trims, folded, Reads, Stops, Bad}
use Rattle.xp_lexer.proofs.Gaps.{line_is, line_found, comments_are, comments_found}
use Rattle.xp_lexer.proofs.Fronts.{longest_is, longest_found}
use Rattle.xp_lexer.proofs.Quoting.{quoted_cases, clean_cases, part_is, part_spoilt, part_open}
use Rattle.xp_lexer.proofs.Constants.{HasParts, parts_cases, string_is, string_bad}
use Rattle.xp_lexer.proofs.Numerals.{based_is, decimal_is, number_found}
use Rattle.xp_lexer.proofs.Runs.{HasRun, run_found, run_some, trims_found, operator_is}

nonempty : (b : ℕ) (z : Text) → (length (b ∷ z) == 0) ≡ false
nonempty b z = grind (arith, nat_tests)

pub gap_is : (z rest : Text) → Gap z rest → scan_next false z ≡ Ok (None, rest)
unfolding scan_next comment
gap_is z rest (Gap.space b y sp) = rw (nonempty b y, sp) refl
gap_is z rest (Gap.line y r l) = rw (nonempty 45 (45 ∷ y), line_is y r l) refl
gap_is z rest (Gap.comment y r c) =
    let e : comment_rest 1 false y ≡ Some r = comments_are 1 y r c in
    rw (nonempty 47 (42 ∷ y), e) refl

pub stop_is : (z rest : Text) → Stops z rest → scan_next false z ≡ Ok (Some EndOf, rest)
unfolding scan_next
stop_is z rest Stops.at_end = refl
stop_is z rest (Stops.semicolon y) = rw (nonempty 59 y) refl

-- a piece that is a token
piece_token : (b : ℕ) (z : Text) → is_space b ≡ false → opens_comment b (first z) ≡ false → (b == 59) ≡ false → scan_next false (b ∷ z) ≡ (token false (b ∷ z) >>= (λ p. Ok (Some p.0, p.1)))
unfolding scan_next
piece_token b z sp op sc = rw (nonempty b z, sp, op, sc) refl

decimal_range : (b : ℕ) → is_decimal b ≡ true → (48 ≤ b) × (b ≤ 57)
decimal_range b h = (low b h, high b h)
  where
    low : (b : ℕ) → is_decimal b ≡ true → 48 ≤ b
    low b h = grind (arith, nat_tests)

    high : (b : ℕ) → is_decimal b ≡ true → b ≤ 57
    high b h = grind (arith, nat_tests)

-- what a first byte is not
pub record Other (b : ℕ) : Type 0 where
  pub space : is_space b ≡ false
  pub comment : (n : ℕ) → opens_comment b n ≡ false
  pub semicolon : (b == 59) ≡ false
  pub apostrophe : (b == 39) ≡ false
  pub quote : (b == 34) ≡ false

number_byte : (b : ℕ) → (b ≡ 46) ⊎ ((48 ≤ b) × (b ≤ 57)) → Other b
number_byte b (inl e) = subst Other (sym e) (record { space = refl; comment = λ n. refl; semicolon = refl; apostrophe = refl; quote = refl })
number_byte b (inr (low, high)) = record {
  space = grind (arith, nat_tests);
  comment = λ n. comment_off b n low high;
  semicolon = grind (arith, nat_tests);
  apostrophe = grind (arith, nat_tests);
  quote = grind (arith, nat_tests);
}
  where
    comment_off : (b n : ℕ) → 48 ≤ b → b ≤ 57 → opens_comment b n ≡ false
    comment_off b n low high =
        let e : (b == 45) ≡ false = grind (arith, nat_tests) in
        let f : (b == 47) ≡ false = grind (arith, nat_tests) in
        rw (e, f) refl

number_first : (b : ℕ) (z : Text) → begins_number (b ∷ z) ≡ true → Other b
number_first b z h = by (is_decimal b) refl h
  where
    by : (v : Bool) → is_decimal b ≡ v → (v || (b == 46 && is_decimal (first z))) ≡ true → Other b
    by true e h = number_byte b (inr (decimal_range b e))
    by false e h = let p : (b == 46) ≡ true = (and_parts (b == 46) (is_decimal (first z)) h).0 in number_byte b (inl (grind (arith, nat_tests)))

name_byte : (b : ℕ) → begins_name b ≡ true → Other b
name_byte b h = record {
  space = grind (arith, nat_tests);
  comment = λ n. comment_off b n h;
  semicolon = grind (arith, nat_tests);
  apostrophe = grind (arith, nat_tests);
  quote = grind (arith, nat_tests);
}
  where
    comment_off : (b n : ℕ) → begins_name b ≡ true → opens_comment b n ≡ false
    comment_off b n h =
        let e : (b == 45) ≡ false = grind (arith, nat_tests) in
        let f : (b == 47) ≡ false = grind (arith, nat_tests) in
        rw (e, f) refl

name_no_number : (b : ℕ) (z : Text) → begins_name b ≡ true → begins_number (b ∷ z) ≡ false
name_no_number b z h =
    let e : is_decimal b ≡ false = by (is_decimal b) refl in
    let f : (b == 46) ≡ false = grind (arith, nat_tests) in
    rw (e, f) refl
  where
    by : (v : Bool) → is_decimal b ≡ v → v ≡ false
    by true e = let r = decimal_range b e in absurd (grind (arith, nat_tests))
    by false e = refl

operator_other : (b : ℕ) → is_operator_byte b ≡ true → (is_space b ≡ false) × ((b == 59) ≡ false) × ((b == 39) ≡ false) × ((b == 34) ≡ false)
operator_other b h = (space b h, semicolon b h, apostrophe b h, quote b h)
  where
    space : (b : ℕ) → is_operator_byte b ≡ true → is_space b ≡ false
    space b h = grind (arith, nat_tests)

    semicolon : (b : ℕ) → is_operator_byte b ≡ true → (b == 59) ≡ false
    semicolon b h = grind (arith, nat_tests)

    apostrophe : (b : ℕ) → is_operator_byte b ≡ true → (b == 39) ≡ false
    apostrophe b h = grind (arith, nat_tests)

    quote : (b : ℕ) → is_operator_byte b ≡ true → (b == 34) ≡ false
    quote b h = grind (arith, nat_tests)

operator_no_number : (b : ℕ) (z : Text) → is_operator_byte b ≡ true → begins_number (b ∷ z) ≡ false
operator_no_number b z h =
    let e : is_decimal b ≡ false = by (is_decimal b) refl in
    let f : (b == 46) ≡ false = grind (arith, nat_tests) in
    rw (e, f) refl
  where
    by : (v : Bool) → is_decimal b ≡ v → v ≡ false
    by true e = let r = decimal_range b e in absurd (grind (arith, nat_tests))
    by false e = refl

operator_no_name : (b : ℕ) → is_operator_byte b ≡ true → begins_name b ≡ false
operator_no_name b h = grind (arith, nat_tests)

turned : (v : Bool) → not v ≡ true → v ≡ false
turned true h = absurd cc
turned false h = refl

string_piece : (z text rest : Text) → Parts z text rest → scan_next false (39 ∷ z) ≡ Ok (Some (Constant text), rest)
unfolding token
string_piece z text rest h = piece_token 39 z refl refl refl ∙ rw (string_is z text rest h) refl

quoted_piece : (z raw text rest : Text) → Quoted 34 z raw text rest → IsClean raw → (length text == 0) ≡ false → scan_next false (34 ∷ z) ≡ Ok (Some (QuotedName text), rest)
unfolding token quoted_name
quoted_piece z raw text rest q clean some = piece_token 34 z refl refl refl ∙ rw (part_is 34 z raw text rest q clean, some) refl

based_piece : (z : Text) (w : ℕ) (rest : Text) → Based z w rest → scan_next false z ≡ Ok (Some (number_of w 0 true), rest)
unfolding token
based_piece z w rest (Based.based letter a c y r other d some) =
    piece_token 48 (letter ∷ y) refl refl refl ∙ rw (based_is (48 ∷ letter ∷ y) a r (Based.based letter a c y r other d some)) refl

-- a number
number_piece : (z : Text) (k : Lexeme) (rest : Text) → begins_number z ≡ true → number z ≡ (k, rest) → scan_next false z ≡ Ok (Some k, rest)
unfolding token
number_piece [] k rest h e = absurd cc
number_piece (b ∷ z) k rest h e =
    let o = number_first b z h in
    piece_token b z o.space (o.comment (first z)) o.semicolon ∙ rw (o.apostrophe, o.quote, h, e) refl

name_piece : (z front rest : Text) → begins_name (first z) ≡ true → is_prefix z ≡ false → Longest is_name_byte z front rest → scan_next false z ≡ Ok (Some (folded front), rest)
unfolding token word name
name_piece [] front rest h p l = absurd cc
name_piece (b ∷ z) front rest h p l =
    let o = name_byte b h in
    let e = longest_is is_name_byte (b ∷ z) front rest l in
    piece_token b z o.space (o.comment (first z)) o.semicolon ∙ rw (o.apostrophe, o.quote, name_no_number b z h, h, p) (rw (e.0, e.1) refl)

operator_piece : (z run op signs rest : Text) → goes_on (first z) (slice_index z 1) ≡ true → Run z run rest → Trims run op signs → scan_next false z ≡ Ok (Some (OperatorOf (spelled op)), signs ++ rest)
unfolding token
operator_piece [] run op signs rest h r t = absurd cc
operator_piece (b ∷ z) run op signs rest h r t =
    let p = and_parts (is_operator_byte b) (not (opens_comment b (first z))) h in
    let o = operator_other b p.0 in
    let e : is_operator_byte b ≡ true = p.0 in
    piece_token b z o.0 (turned (opens_comment b (first z)) p.1) o.1 ∙ rw (o.2, o.3, operator_no_number b z e, operator_no_name b e, e, operator_is (b ∷ z) run op signs rest r t) refl

pub reads_are : (z : Text) (k : Lexeme) (rest : Text) → length z < 2 ^ 32 → Reads z k rest → scan_next false z ≡ Ok (Some k, rest)
unfolding token mark_at
reads_are z k rest fits (Reads.string y text r h) = string_piece y text r h
reads_are z k rest fits (Reads.quoted y raw text r q clean some) = quoted_piece y raw text r q clean some
reads_are z k rest fits (Reads.based y w r b) = based_piece y w r b
reads_are z k rest fits (Reads.decimal y whole point r v w n m x begins none d f p) = number_piece y _ r begins (decimal_is y whole point r v w n m x fits none d f p)
reads_are z k rest fits (Reads.name y front r h p l) = name_piece y front r h p l
reads_are z k rest fits (Reads.operator y run op signs r h rn t) = operator_piece y run op signs r h rn t
reads_are z k rest fits (Reads.open_paren y) = piece_token 40 y refl refl refl
reads_are z k rest fits (Reads.close_paren y) = piece_token 41 y refl refl refl
reads_are z k rest fits (Reads.open_bracket y) = piece_token 91 y refl refl refl
reads_are z k rest fits (Reads.close_bracket y) = piece_token 93 y refl refl refl
reads_are z k rest fits (Reads.comma y) = piece_token 44 y refl refl refl
reads_are z k rest fits (Reads.point y e) = piece_token 46 y refl refl refl ∙ rw e refl
reads_are z k rest fits (Reads.double_colon y) = piece_token 58 (58 ∷ y) refl refl refl

abbrev pub HasToken : Text → Type 0
HasToken z = (k : Lexeme) × (rest : Text) × Reads z k rest

-- no mark, or a mark
mark_cases : (b : ℕ) (z : Text) → begins_number (b ∷ z) ≡ false → HasToken (b ∷ z) ⊎ (mark_at (b ∷ z) ≡ Err (error.BadByte (length (b ∷ z))))
unfolding mark_at
mark_cases b z num = by (b == 40) refl (b == 41) refl (b == 91) refl (b == 93) refl (b == 44) refl (b == 46) refl
  where
    at : (p : ℕ) → (b == p) ≡ true → HasToken (p ∷ z) → HasToken (b ∷ z)
    at p e h = let q : p ≡ b = grind (arith, nat_tests) in subst (λ x. HasToken (x ∷ z)) q h

    point : (b == 46) ≡ true → is_decimal (first z) ≡ false
    point e = rest_false (is_decimal b) (is_decimal (first z)) (rw e at num)
      where
        rest_false : (v w : Bool) → (v || w) ≡ false → w ≡ false
        rest_false true w h = absurd cc
        rest_false false w h = h

    by : (t : Bool) → (b == 40) ≡ t → (u : Bool) → (b == 41) ≡ u → (v : Bool) → (b == 91) ≡ v → (w : Bool) → (b == 93) ≡ w → (x : Bool) → (b == 44) ≡ x → (y : Bool) → (b == 46) ≡ y → HasToken (b ∷ z) ⊎ (mark_at (b ∷ z) ≡ Err (error.BadByte (length (b ∷ z))))
    by true e u f v g w h x i y j = inl (at 40 e (_, z, Reads.open_paren z))
    by false e true f v g w h x i y j = inl (at 41 f (_, z, Reads.close_paren z))
    by false e false f true g w h x i y j = inl (at 91 g (_, z, Reads.open_bracket z))
    by false e false f false g true h x i y j = inl (at 93 h (_, z, Reads.close_bracket z))
    by false e false f false g false h true i y j = inl (at 44 i (_, z, Reads.comma z))
    by false e false f false g false h false i true j = inl (at 46 j (_, z, Reads.point z (point j)))
    by false e false f false g false h false i false j = last (b == 58 && first z == 58) refl
      where
        colon : (z : Text) → (b == 58) ≡ true → (first z == 58) ≡ true → HasToken (b ∷ z)
        colon [] k l = absurd cc
        colon (c ∷ y) k l =
            let p : 58 ≡ b = grind (arith, nat_tests) in
            let q : 58 ≡ c = grind (arith, nat_tests) in
            subst (λ x. HasToken (x ∷ c ∷ y)) p (subst (λ x. HasToken (58 ∷ x ∷ y)) q (MarkOf mark.DoubleColon, y, Reads.double_colon y))

        last : (v : Bool) → (b == 58 && first z == 58) ≡ v → HasToken (b ∷ z) ⊎ (mark_at (b ∷ z) ≡ Err (error.BadByte (length (b ∷ z))))
        last true k = let p = and_parts (b == 58) (first z == 58) k in inl (colon z p.0 p.1)
        last false k = inr (rw (e, f, g, h, i, j, k) refl)

-- no token, or a token
pub token_cases : (b : ℕ) (z : Text) → is_space b ≡ false → opens_comment b (first z) ≡ false → (b == 59) ≡ false → (b == 39) ≡ false → (b == 34) ≡ false
    → HasToken (b ∷ z) ⊎ (scan_next false (b ∷ z) ≡ Err (error.BadByte (length (b ∷ z))))
unfolding token word
token_cases b z sp op sc ap qu = by (begins_number (b ∷ z)) refl (begins_name b) refl (is_operator_byte b) refl (mark_cases b z)
  where
    named_so : begins_number (b ∷ z) ≡ false → begins_name b ≡ true → (v : Bool) → is_prefix (b ∷ z) ≡ v → HasToken (b ∷ z) ⊎ (scan_next false (b ∷ z) ≡ Err (error.BadByte (length (b ∷ z))))
    named_so e f true g = inr (piece_token b z sp op sc ∙ rw (ap, qu, e, f, g) refl)
    named_so e f false g = inl (_, _, Reads.name (b ∷ z) _ _ f g (longest_found is_name_byte (b ∷ z)))

    run_so : goes_on b (first z) ≡ true → HasRun (b ∷ z) → HasToken (b ∷ z)
    run_so g (run, rest, r) =
        let (c, w, e) = run_some (b ∷ z) run rest r g in
        let (o, signs, t) = trims_found c w in
        (OperatorOf (spelled o), signs ++ rest, Reads.operator (b ∷ z) (c ∷ w) o signs rest g (subst (λ x. Run (b ∷ z) x rest) e r) t)

    marked : begins_number (b ∷ z) ≡ false → begins_name b ≡ false → is_operator_byte b ≡ false → HasToken (b ∷ z) ⊎ (mark_at (b ∷ z) ≡ Err (error.BadByte (length (b ∷ z)))) → HasToken (b ∷ z) ⊎ (scan_next false (b ∷ z) ≡ Err (error.BadByte (length (b ∷ z))))
    marked e f g (inl h) = inl h
    marked e f g (inr h) = inr (piece_token b z sp op sc ∙ rw (ap, qu, e, f, g, h) refl)

    by : (t : Bool) → begins_number (b ∷ z) ≡ t → (u : Bool) → begins_name b ≡ u → (v : Bool) → is_operator_byte b ≡ v
        → (begins_number (b ∷ z) ≡ false → HasToken (b ∷ z) ⊎ (mark_at (b ∷ z) ≡ Err (error.BadByte (length (b ∷ z)))))
        → HasToken (b ∷ z) ⊎ (scan_next false (b ∷ z) ≡ Err (error.BadByte (length (b ∷ z))))
    by true e u f v g m = inl (number_found (b ∷ z) e)
    by false e true f v g m = named_so e f (is_prefix (b ∷ z)) refl
    by false e false f true g m = inl (run_so (rw (g, op) refl) (run_found (b ∷ z)))
    by false e false f false g m = marked e f g (m e)

quotes_apart : (b : ℕ) → (b == 39 || b == 34) ≡ false → ((b == 39) ≡ false) × ((b == 34) ≡ false)
quotes_apart b h = by (b == 39) refl h
  where
    by : (v : Bool) → (b == 39) ≡ v → (v || b == 34) ≡ false → ((b == 39) ≡ false) × ((b == 34) ≡ false)
    by true e h = absurd cc
    by false e h = (e, h)

nothing_is : (b : ℕ) (z : Text) → (b == 39 || b == 34) ≡ false → opens_comment b (first z) ≡ false
    → ((rest : Text) → Gap (b ∷ z) rest → ⊥) → ((k : Lexeme) (rest : Text) → Reads (b ∷ z) k rest → ⊥) → ((rest : Text) → Stops (b ∷ z) rest → ⊥)
    → scan_next false (b ∷ z) ≡ Err (error.BadByte (length (b ∷ z)))
nothing_is b z quotes op gap reads stops = by (is_space b) refl (b == 59) refl
  where
    apart : ((b == 39) ≡ false) × ((b == 34) ≡ false)
    apart = quotes_apart b quotes

    out : HasToken (b ∷ z) ⊎ (scan_next false (b ∷ z) ≡ Err (error.BadByte (length (b ∷ z)))) → scan_next false (b ∷ z) ≡ Err (error.BadByte (length (b ∷ z)))
    out (inl (k, rest, r)) = absurd (reads k rest r)
    out (inr e) = e

    by : (v : Bool) → is_space b ≡ v → (w : Bool) → (b == 59) ≡ w → scan_next false (b ∷ z) ≡ Err (error.BadByte (length (b ∷ z)))
    by true e w f = absurd (gap z (Gap.space b z e))
    by false e true f = let p : 59 ≡ b = grind (arith, nat_tests) in absurd (stops z (subst (λ x. Stops (x ∷ z) z) p (Stops.semicolon z)))
    by false e false f = out (token_cases b z e op f apart.0 apart.1)

open_comment : (z : Text) → ((rest : Text) → Comments 1 z rest → ⊥) → comment_rest 1 false z ≡ None
open_comment z none = by (comment_rest 1 false z) refl
  where
    by : (o : Option Text) → comment_rest 1 false z ≡ o → o ≡ None
    by None e = refl
    by (Some rest) e = absurd (none rest (comments_found 1 z rest e))

pub bad_is : (z : Text) (t : ScanError) → Bad z t → scan_next false z ≡ Err t
unfolding scan_next token quoted_name comment
bad_is z t (Bad.string y u h) = piece_token 39 y refl refl refl ∙ rw (string_bad y u h) refl
bad_is z t (Bad.unclosed_name y o) = piece_token 34 y refl refl refl ∙ rw (part_open 34 y o) refl
bad_is z t (Bad.spoilt_name y raw text rest q less) = piece_token 34 y refl refl refl ∙ rw (part_spoilt 34 y raw text rest q less) refl
bad_is z t (Bad.empty_name y raw text rest q clean none) = piece_token 34 y refl refl refl ∙ rw (part_is 34 y raw text rest q clean, none) refl
bad_is z t (Bad.unclosed_comment y none) = rw (nonempty 47 (42 ∷ y), open_comment y none) refl
bad_is z t (Bad.nothing b y quotes op gap reads stops) = nothing_is b y quotes op gap reads stops

-- what stands at the front of a text
pub data PieceIs (z : Text) : Type 0 where
  white : (rest : Text) → Gap z rest → PieceIs z
  lexeme : (k : Lexeme) (rest : Text) → Reads z k rest → PieceIs z
  end : (rest : Text) → Stops z rest → PieceIs z
  fault : (t : ScanError) → Bad z t → PieceIs z

quoted_name_cases : (z : Text) → PieceIs (34 ∷ z)
quoted_name_cases z = elim (quoted_cases 34 z) [
  | inl o ↦ PieceIs.fault _ (Bad.unclosed_name z o)
  | inr q ↦ named_quoted q.0 q.1 q.2 q.3
]
  where
    clean_so : (raw text rest : Text) → Quoted 34 z raw text rest → IsClean raw → (v : Bool) → (length text == 0) ≡ v → PieceIs (34 ∷ z)
    clean_so raw text rest q clean true e = PieceIs.fault _ (Bad.empty_name z raw text rest q clean e)
    clean_so raw text rest q clean false e = PieceIs.lexeme _ rest (Reads.quoted z raw text rest q clean e)

    named_quoted : (raw text rest : Text) → Quoted 34 z raw text rest → PieceIs (34 ∷ z)
    named_quoted raw text rest q = elim (clean_cases raw) [
      | inl less ↦ PieceIs.fault _ (Bad.spoilt_name z raw text rest q less)
      | inr clean ↦ clean_so raw text rest q clean (length text == 0) refl
    ]

string_cases : (z : Text) → HasParts z → PieceIs (39 ∷ z)
string_cases z (inl (text, rest, p)) = PieceIs.lexeme (Constant text) rest (Reads.string z text rest p)
string_cases z (inr (t, b)) = PieceIs.fault t (Bad.string z t b)

block_cases : (z : Text) → PieceIs (47 ∷ 42 ∷ z)
block_cases z = by (comment_rest 1 false z) refl
  where
    by : (o : Option Text) → comment_rest 1 false z ≡ o → PieceIs (47 ∷ 42 ∷ z)
    by None e = PieceIs.fault _ (Bad.unclosed_comment z (λ rest c. let f : comment_rest 1 false z ≡ Some rest = comments_are 1 z rest c in absurd cc))
    by (Some rest) e = PieceIs.white rest (Gap.comment z rest (comments_found 1 z rest e))

comment_cases : (b : ℕ) (z : Text) → opens_comment b (first z) ≡ true → PieceIs (b ∷ z)
comment_cases b [] h = absurd (grind (arith, nat_tests))
comment_cases b (c ∷ z) h = by (b == 45 && c == 45) refl h
  where
    line_at : 45 ≡ b → 45 ≡ c → PieceIs (b ∷ c ∷ z)
    line_at p q = subst (λ x. PieceIs (x ∷ c ∷ z)) p (subst (λ x. PieceIs (45 ∷ x ∷ z)) q (PieceIs.white (line_rest z) (Gap.line z (line_rest z) (line_found z))))

    block_at : 47 ≡ b → 42 ≡ c → PieceIs (b ∷ c ∷ z)
    block_at p q = subst (λ x. PieceIs (x ∷ c ∷ z)) p (subst (λ x. PieceIs (47 ∷ x ∷ z)) q (block_cases z))

    by : (v : Bool) → (b == 45 && c == 45) ≡ v → (v || (b == 47 && c == 42)) ≡ true → PieceIs (b ∷ c ∷ z)
    by true e h = let p = and_parts (b == 45) (c == 45) e in let f : (b == 45) ≡ true = p.0 in let g : (c == 45) ≡ true = p.1 in line_at (grind (arith, nat_tests)) (grind (arith, nat_tests))
    by false e h = let p = and_parts (b == 47) (c == 42) h in let f : (b == 47) ≡ true = p.0 in let g : (c == 42) ≡ true = p.1 in block_at (grind (arith, nat_tests)) (grind (arith, nat_tests))

pub piece_cases : (z : Text) → length z < 2 ^ 32 → PieceIs z
piece_cases [] fits = PieceIs.end [] Stops.at_end
piece_cases (b ∷ z) fits = by (is_space b) refl (opens_comment b (first z)) refl (b == 59) refl (b == 39) refl (b == 34) refl
  where
    left : (sp : is_space b ≡ false) → opens_comment b (first z) ≡ false → (b == 39) ≡ false → (b == 34) ≡ false → HasToken (b ∷ z) ⊎ (scan_next false (b ∷ z) ≡ Err (error.BadByte (length (b ∷ z)))) → PieceIs (b ∷ z)
    left sp op ap qu (inl (k, rest, r)) = PieceIs.lexeme k rest r
    left sp op ap qu (inr e) = PieceIs.fault _ (Bad.nothing b z (rw (ap, qu) refl) op
        (λ rest g. let f = gap_is (b ∷ z) rest g in absurd cc) (λ k rest r. let f = reads_are (b ∷ z) k rest fits r in absurd cc) (λ rest s. let f = stop_is (b ∷ z) rest s in absurd cc))

    by : (t : Bool) → is_space b ≡ t → (u : Bool) → opens_comment b (first z) ≡ u → (v : Bool) → (b == 59) ≡ v → (w : Bool) → (b == 39) ≡ w → (x : Bool) → (b == 34) ≡ x → PieceIs (b ∷ z)
    by true e u f v g w h x i = PieceIs.white z (Gap.space b z e)
    by false e true f v g w h x i = comment_cases b z f
    by false e false f true g w h x i = let p : 59 ≡ b = grind (arith, nat_tests) in subst (λ y. PieceIs (y ∷ z)) p (PieceIs.end z (Stops.semicolon z))
    by false e false f false g true h x i = let p : 39 ≡ b = grind (arith, nat_tests) in subst (λ y. PieceIs (y ∷ z)) p (string_cases z (parts_cases z))
    by false e false f false g false h true i = let p : 34 ≡ b = grind (arith, nat_tests) in subst (λ y. PieceIs (y ∷ z)) p (quoted_name_cases z)
    by false e false f false g false h false i = left e f h i (token_cases b z e f g h i)
