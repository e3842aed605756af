-- What holds of the tokens of every statement.
use Rattle.std.proofs.Common.{◌≡◌, ℕ, ◌-◌, ◌^◌, ◌<◌, ◌≤◌, Bool, true, false, not, ◌&&◌, ◌||◌, ◌==◌, cond, List, [], ◌∷◌, ◌++◌, length, drop, Option, Some, None, Result, Ok, Err, IfOk, refl, ◌∙◌, arith, length-drop}
use Rattle.std.specs.Prelude.{nat_lt, nat_le}
use Rattle.std.proofs.lemmas.Bool.{and_from, false≢true}
use Rattle.xp_base.specs.declared.limits.TheConstants.{TOKEN_LIMIT}
use Rattle.xp_lexer.specs.declared.numbers.Exponent.{Exponent}
use Rattle.xp_lexer.specs.declared.numbers.Exponent.TheVariants as shift
use Rattle.xp_lexer.specs.declared.lexed.Lexed.{Lexed}
use Rattle.xp_lexer.specs.declared.lexed.LexFault.{LexFault}
use Rattle.xp_token.specs.declared.words.Word.{Word}
use Rattle.xp_lexer.specs.Bytes.{Text, first}
use Rattle.xp_token.specs.Lexemes.{Lexeme, Placed, NumberOf, TooWide, EndOf, all_placed}
use Rattle.xp_lexer.specs.Meaning.{Answer, number_of, named, is_absent, token_at}
use Rattle.xp_lexer.specs.Lexed.{lexed, Answers}
use Rattle.xp_token.specs.Ended.{is_end, is_ended, is_plain, are_plain}
use Rattle.xp_lexer.specs.Grammar.{Reads, Passes, Stops, Fraction, scaled, IsAnswer}
use Rattle.xp_lexer.proofs.Answering.{reads_no_end, passes_are, right_of}

number_plain : (c s : ℕ) (w : Bool) → (not w || s == 0) ≡ true → is_plain (number_of c s w) ≡ true
unfolding number_of
number_plain c s w h = by (nat_lt c (10 ^ 38) && nat_le s 38)
  where
    by : (v : Bool) → is_plain (cond v (NumberOf false c s w) TooWide) ≡ true
    by true = h
    by false = refl

named_plain : (o : Option Word) (t : Text) → is_plain (named o t) ≡ true
named_plain None t = refl
named_plain (Some w) t = refl

not_absent : (x : Exponent) (v n : ℕ) → is_absent x ≡ true → (scaled v n x).1 ≡ n
not_absent shift.Absent v n h = refl
not_absent (shift.Up by) v n h = absurd cc
not_absent (shift.Down by) v n h = absurd cc

-- behind a whole number comes no fraction
no_fraction : (v : ℕ) (whole : Text) (v' n : ℕ) (point : Text) → Fraction v whole v' n point → (first whole == 46) ≡ false → n ≡ 0
no_fraction v whole v' n point (Fraction.point a b c z r d) h = absurd cc
no_fraction v whole v' n point (Fraction.none a z e) h = refl

decimal_plain : (a b : Bool) (s : ℕ) → (a ≡ false → b ≡ true → s ≡ 0) → (not (not a && b) || s == 0) ≡ true
decimal_plain true b s h = refl
decimal_plain false true s h = rw (h refl refl) refl
decimal_plain false false s h = refl

reads_plain : (z : Text) (k : Lexeme) (rest : Text) → Reads z k rest → is_plain k ≡ true
reads_plain z k rest (Reads.string y text r h) = refl
reads_plain z k rest (Reads.quoted y raw text r q clean some) = refl
reads_plain z k rest (Reads.based y w r b) = number_plain w 0 true refl
reads_plain z k rest (Reads.decimal y whole point r v w n m x begins none d f p) =
    number_plain _ _ _ (decimal_plain (first whole == 46) (is_absent x) (scaled w m x).1 (λ e h. not_absent x w m h ∙ no_fraction v whole w m point f e))
reads_plain z k rest (Reads.name y front r h p l) = named_plain _ _
reads_plain z k rest (Reads.operator y run op signs r h rn t) = refl
reads_plain z k rest (Reads.open_paren y) = refl
reads_plain z k rest (Reads.close_paren y) = refl
reads_plain z k rest (Reads.open_bracket y) = refl
reads_plain z k rest (Reads.close_bracket y) = refl
reads_plain z k rest (Reads.comma y) = refl
reads_plain z k rest (Reads.point y e) = refl
reads_plain z k rest (Reads.double_colon y) = refl

ended_more : (p : Placed) (ts : List Placed) (e : Placed) → is_end p.lexeme ≡ false → is_ended (ts ++ e ∷ []) ≡ true → is_ended (p ∷ (ts ++ e ∷ [])) ≡ true
ended_more p [] e h q = rw (h, q) refl
ended_more p (t ∷ ts) e h q = rw (h, q) refl

passes_ended : (total : ℕ) (z : Text) (ts : List Placed) (y : Text) (e : Placed) → is_end e.lexeme ≡ true → Passes total z ts y → is_ended (ts ++ e ∷ []) ≡ true
passes_ended total z ts y e h (Passes.here w) = h
passes_ended total z ts y e h (Passes.gap w mid r us g more) = passes_ended total mid us r e h more
passes_ended total z ts y e h (Passes.token w mid r k us rd apart more) =
    ended_more (token_at total w mid k) us e (reads_no_end w k mid rd) (passes_ended total mid us r e h more)

passes_plain : (total : ℕ) (z : Text) (ts : List Placed) (y : Text) (e : Placed) → is_plain e.lexeme ≡ true → Passes total z ts y → are_plain (ts ++ e ∷ []) ≡ true
passes_plain total z ts y e h (Passes.here w) = rw h refl
passes_plain total z ts y e h (Passes.gap w mid r us g more) = passes_plain total mid us r e h more
passes_plain total z ts y e h (Passes.token w mid r k us rd apart more) =
    and_from (is_plain k) (are_plain (us ++ e ∷ [])) (reads_plain w k mid rd) (passes_plain total mid us r e h more)

stops_shorter : (y rest : Text) (n : ℕ) → Stops y rest → length y ≤ n → (length rest ≤ n) × (0 < n → length rest < n)
stops_shorter y rest n Stops.at_end h = (omega arith, λ some. some)
stops_shorter y rest n (Stops.semicolon z) h = (omega arith, λ some. omega arith)

-- what is known of the tokens of a statement and of the place behind it
abbrev Ended : Text → ℕ → List Placed → ℕ → Type 0
Ended text from ps next = (is_ended ps ≡ true) × (are_plain ps ≡ true) × (next ≤ length text) × (from < length text → from < next)

answer_ended : (text : Text) (from : ℕ) (a : Answer) → length text < 2 ^ 32 → from ≤ length text → IsAnswer text from a → IfOk a (λ x. Ended text from x.0 x.1)
answer_ended text from a fits inside (IsAnswer.fails t f) = tt
answer_ended text from a fits inside (IsAnswer.tokens all z rest p few s) =
    let e = token_at (length text) z rest EndOf in
    let n : length (drop from text) ≡ length text - from = length-drop from text in
    let shorter = (passes_are (length text) TOKEN_LIMIT false (drop from text) all z (omega (arith, n)) few (λ h. absurd (false≢true h)) p).1 in
    let ends = stops_shorter z rest (length (drop from text)) s shorter in
    (passes_ended (length text) (drop from text) all z e refl p, passes_plain (length text) (drop from text) all z e refl p, omega arith, λ h. omega (arith, n, ends.1 (omega (arith, n, h)), h))

pub ended_of : (text : Text) (from : ℕ) (r : Result Lexed LexFault) → length text < 2 ^ 32 → from ≤ length text → Answers r (lexed text from) → IfOk r (λ l. Ended text from (all_placed l.tokens) l.next)
ended_of text from (Ok l) fits inside h = answer_ended text from (Ok (all_placed l.tokens, l.next)) fits inside (right_of text from (Ok l) fits h)
ended_of text from (Err x) fits inside h = tt

-- one of the facts of a result
pub of_ok : {P Q : Lexed → Type 0} (r : Result Lexed LexFault) → ((l : Lexed) → P l → Q l) → IfOk r P → IfOk r Q
of_ok (Ok l) f h = f l h
of_ok (Err x) f h = tt
