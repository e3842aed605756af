-- The statement: the function answers what the definition says, and nothing else.
use Rattle.std.proofs.Common.{◌≡◌, ℕ, zero, suc, ◌-◌, ◌^◌, ◌<◌, ◌≤◌, Bool, true, false, ◌&&◌, ◌==◌, cond, List, [], ◌∷◌, ◌++◌, length, drop, Option, Some, None, Result, Ok, Err, ◌⊎◌, ◌↔◌, ◌≢◌, inl, inr, refl, sym, ap, subst, ◌∙◌, arith, length-drop}
use Rattle.std.proofs.lemmas.Bool.Decides.{nat_tests}
use Rattle.xp_base.specs.declared.limits.TheConstants.{TOKEN_LIMIT}
use Rattle.xp_lexer.specs.declared.scan_error.ScanError.{ScanError}
use Rattle.xp_lexer.specs.declared.scan_error.ScanError.TheVariants as error
use Rattle.xp_lexer.specs.Bytes.{Text}
use Rattle.xp_token.specs.Ended.{is_end}
use Rattle.xp_token.specs.Lexemes.{Lexeme, Placed, NumberOf, TooWide, EndOf}
use Rattle.xp_lexer.specs.Lexed.{lexed, Answers}
use Rattle.xp_lexer.specs.inner.Cutting.{operator, operator_len, token, scan_next, is_operator, Statement, with_front, admitted, statement}
use Rattle.xp_lexer.specs.Meaning.{is_trailing_junk, number_of, named, token_at, fault_of, Answer}
use Rattle.std.specs.Prelude.{nat_lt, nat_le}
use Rattle.xp_token.specs.declared.words.Word.{Word}
use Rattle.xp_lexer.specs.declared.lexed.Lexed.{Lexed}
use Rattle.xp_lexer.specs.declared.lexed.LexFault.{LexFault}
use Rattle.xp_lexer.specs.declared.lexed.LexFault.TheVariants as fault
use Rattle.xp_lexer.specs.Grammar.{Gap, Reads, Stops, Passes, BadParts, Bad, Fails, IsAnswer, IsRight}
use Rattle.xp_lexer.proofs.Runs.{operator_alone}
use Rattle.xp_lexer.proofs.Tokens.{gap_is, stop_is, reads_are, bad_is, PieceIs, piece_cases}
use Rattle.xp_lexer.proofs.Whole.{statement_is, front_front, statement_gap, statement_end, statement_token, gap_shorter, token_shorter}

-- a sign that may stand alone here does
abbrev pub Alone : Bool → Text → Type 0
Alone alone z = alone ≡ true → operator_len 0 1 false z ≡ 1

piece_alone : (alone : Bool) (z : Text) → Alone alone z → scan_next alone z ≡ scan_next false z
unfolding scan_next token operator
piece_alone true z h = let e = h refl in rw e refl
piece_alone false z h = refl

-- no token is an end, and behind an operator a sign stands alone
number_no_end : (c s : ℕ) (w : Bool) → is_end (number_of c s w) ≡ false
unfolding number_of
number_no_end c s w = by (nat_lt c (10 ^ 38) && nat_le s 38)
  where
    by : (v : Bool) → is_end (cond v (NumberOf false c s w) TooWide) ≡ false
    by true = refl
    by false = refl

pub number_no_operator : (c s : ℕ) (w : Bool) → is_operator (number_of c s w) ≡ false
unfolding number_of
number_no_operator c s w = by (nat_lt c (10 ^ 38) && nat_le s 38)
  where
    by : (v : Bool) → is_operator (cond v (NumberOf false c s w) TooWide) ≡ false
    by true = refl
    by false = refl

name_no_end : (o : Option Word) (t : Text) → is_end (named o t) ≡ false
name_no_end None t = refl
name_no_end (Some w) t = refl

pub name_no_operator : (o : Option Word) (t : Text) → is_operator (named o t) ≡ false
name_no_operator None t = refl
name_no_operator (Some w) t = refl

pub reads_no_end : (z : Text) (k : Lexeme) (rest : Text) → Reads z k rest → is_end k ≡ false
reads_no_end z k rest (Reads.string y text r h) = refl
reads_no_end z k rest (Reads.quoted y raw text r q clean some) = refl
reads_no_end z k rest (Reads.based y w r b) = number_no_end w 0 true
reads_no_end z k rest (Reads.decimal y whole point r v w n m x begins none d f p) = number_no_end _ _ _
reads_no_end z k rest (Reads.name y front r h p l) = name_no_end _ _
reads_no_end z k rest (Reads.operator y run op signs r h rn t) = refl
reads_no_end z k rest (Reads.open_paren y) = refl
reads_no_end z k rest (Reads.close_paren y) = refl
reads_no_end z k rest (Reads.open_bracket y) = refl
reads_no_end z k rest (Reads.close_bracket y) = refl
reads_no_end z k rest (Reads.comma y) = refl
reads_no_end z k rest (Reads.point y e) = refl
reads_no_end z k rest (Reads.double_colon y) = refl

none_alone : (v : Bool) (z : Text) → v ≡ false → Alone v z
none_alone v z e h = absurd cc

never : (z : Text) → Alone false z
never z h = absurd cc

pub reads_alone : (z : Text) (k : Lexeme) (rest : Text) → Reads z k rest → Alone (is_operator k) rest
reads_alone z k rest (Reads.string y text r h) = never r
reads_alone z k rest (Reads.quoted y raw text r q clean some) = never r
reads_alone z k rest (Reads.based y w r b) = none_alone _ r (number_no_operator w 0 true)
reads_alone z k rest (Reads.decimal y whole point r v w n m x begins none d f p) = none_alone _ r (number_no_operator _ _ _)
reads_alone z k rest (Reads.name y front r h p l) = none_alone _ r (name_no_operator _ _)
reads_alone z k rest (Reads.operator y run op signs r h rn t) = λ e. operator_alone y run op signs r rn t
reads_alone z k rest (Reads.open_paren y) = never y
reads_alone z k rest (Reads.close_paren y) = never y
reads_alone z k rest (Reads.open_bracket y) = never y
reads_alone z k rest (Reads.close_bracket y) = never y
reads_alone z k rest (Reads.comma y) = never y
reads_alone z k rest (Reads.point y e) = never y
reads_alone z k rest (Reads.double_colon y) = never y

front_nil : (r : Statement) → with_front [] r ≡ r
front_nil (Ok q) = refl
front_nil (Err t) = refl

-- there is room for a token, and nothing is glued to it
admits : (room : ℕ) (z rest : Text) (k : Lexeme) → 0 < room → is_trailing_junk k rest ≡ false → admitted room z rest k ≡ Ok tt
unfolding admitted
admits room z rest k some e = let f : (room == 0) ≡ false = grind (arith, nat_tests) in rw (f, e) refl

refuses_junk : (room : ℕ) (z rest : Text) (k : Lexeme) → 0 < room → is_trailing_junk k rest ≡ true → admitted room z rest k ≡ Err (error.BadByte (length rest))
unfolding admitted
refuses_junk room z rest k some e = let f : (room == 0) ≡ false = grind (arith, nat_tests) in rw (f, e) refl

refuses_more : (room : ℕ) (z rest : Text) (k : Lexeme) → room ≡ 0 → admitted room z rest k ≡ Err (error.TooManyTokens (length z))
unfolding admitted
refuses_more room z rest k e = rw e refl

-- what is left of a statement behind white space, comments and tokens
abbrev pub Left : ℕ → ℕ → Bool → Text → List Placed → Text → Type 0
Left total room alone z tokens y = (after : Bool) × Alone after y × (statement total room alone z ≡ with_front tokens (statement total (room - length tokens) after y))

pub passes_are : (total room : ℕ) (alone : Bool) (z : Text) (tokens : List Placed) (y : Text) → length z < 2 ^ 32 → length tokens ≤ room → Alone alone z → Passes total z tokens y → Left total room alone z tokens y × (length y ≤ length z)
passes_are total room alone z tokens y fits few ok (Passes.here w) =
    let e : room - 0 ≡ room = omega arith in
    ((alone, ok, rw e (sym (front_nil (statement total room alone w)))), omega arith)
passes_are total room alone z tokens y fits few ok (Passes.gap w mid r ts g more) =
    let e = piece_alone alone w ok ∙ gap_is w mid g in
    let s = gap_shorter alone w mid e in
    let h = passes_are total room false mid ts r (omega arith) few (never mid) more in
    ((h.0.0, h.0.1, statement_gap total room alone w mid e ∙ h.0.2), omega (arith, h.1, s))
passes_are total room alone z tokens y fits few ok (Passes.token w mid r k ts rd apart more) =
    let e = piece_alone alone w ok ∙ reads_are w k mid fits rd in
    let s = token_shorter alone w mid k e (reads_no_end w k mid rd) in
    let h = passes_are total (room - 1) (is_operator k) mid ts r (omega arith) (omega arith) (reads_alone w k mid rd) more in
    let n : room - 1 - length ts ≡ room - suc (length ts) = omega arith in
    let t = statement_token total room alone w mid k e (reads_no_end w k mid rd) (admits room w mid k (omega arith) apart) in
    ((h.0.0, h.0.1, t ∙ ap (with_front (token_at total w mid k ∷ [])) h.0.2 ∙ front_front (token_at total w mid k ∷ []) ts _ ∙ ap (λ m. with_front (token_at total w mid k ∷ ts) (statement total m h.0.0 r)) n), omega (arith, h.1, s))

-- what goes wrong at a piece
stuck : (total room : ℕ) (alone : Bool) (z : Text) (t : ScanError) → Alone alone z → Bad z t → statement total room alone z ≡ Err t
stuck total room alone z t ok b = statement_is total room alone z ∙ rw (piece_alone alone z ok, bad_is z t b) refl

refused : (total room : ℕ) (alone : Bool) (z rest : Text) (k : Lexeme) (t : ScanError) → length z < 2 ^ 32 → Alone alone z → Reads z k rest → admitted room z rest k ≡ Err t → statement total room alone z ≡ Err t
refused total room alone z rest k t fits ok r e = statement_is total room alone z ∙ rw (piece_alone alone z ok, reads_are z k rest fits r, reads_no_end z k rest r, e) refl

fails_are : (total room : ℕ) (z : Text) (t : ScanError) → length z < 2 ^ 32 → Fails total room z t → statement total room false z ≡ Err t
fails_are total room z t fits (Fails.bad w y ts u p few b) =
    let h = passes_are total room false w ts y fits few (never w) p in
    h.0.2 ∙ ap (with_front ts) (stuck total (room - length ts) h.0.0 y u h.0.1 b)
fails_are total room z t fits (Fails.trailing_junk w y rest ts k p few r e) =
    let h = passes_are total room false w ts y fits (omega arith) (never w) p in
    h.0.2 ∙ ap (with_front ts) (refused total (room - length ts) h.0.0 y rest k _ (omega (arith, h.1)) h.0.1 r (refuses_junk _ y rest k (omega arith) e))
fails_are total room z t fits (Fails.too_many w y rest ts k p full r) =
    let h = passes_are total room false w ts y fits (omega arith) (never w) p in
    h.0.2 ∙ ap (with_front ts) (refused total (room - length ts) h.0.0 y rest k _ (omega (arith, h.1)) h.0.1 r (refuses_more _ y rest k (omega arith)))

ends_are : (total room : ℕ) (z : Text) (ts : List Placed) (y rest : Text) → length z < 2 ^ 32 → length ts ≤ room → Passes total z ts y → Stops y rest → statement total room false z ≡ Ok (ts ++ token_at total y rest EndOf ∷ [], rest)
ends_are total room z ts y rest fits few p s =
    let h = passes_are total room false z ts y fits few (never z) p in
    h.0.2 ∙ ap (with_front ts) (statement_end total (room - length ts) h.0.0 y rest EndOf (piece_alone h.0.0 y h.0.1 ∙ stop_is y rest s) refl)

-- what the definition says is what the function answers, so there is one such answer
pub answer_is : (text : Text) (from : ℕ) (a : Answer) → length text < 2 ^ 32 → IsAnswer text from a → lexed text from ≡ a
unfolding lexed
answer_is text from a fits (IsAnswer.tokens all z rest p few s) =
    rw (ends_are (length text) TOKEN_LIMIT (drop from text) all z rest (omega (arith, length-drop from text)) few p s) refl
answer_is text from a fits (IsAnswer.fails t f) =
    rw (fails_are (length text) TOKEN_LIMIT (drop from text) t (omega (arith, length-drop from text)) f) refl

-- the answer that there is
abbrev HasAnswer : ℕ → ℕ → Text → Type 0
HasAnswer total room z = ((ts : List Placed) × (y : Text) × (rest : Text) × Passes total z ts y × (length ts ≤ room) × Stops y rest) ⊎ ((t : ScanError) × Fails total room z t)

fails_gap : (total room : ℕ) (z mid : Text) (t : ScanError) → Gap z mid → Fails total room mid t → Fails total room z t
fails_gap total room z mid t g (Fails.bad w y ts u p few b) = Fails.bad z y ts u (Passes.gap z w y ts g p) few b
fails_gap total room z mid t g (Fails.trailing_junk w y rest ts k p few r e) = Fails.trailing_junk z y rest ts k (Passes.gap z w y ts g p) few r e
fails_gap total room z mid t g (Fails.too_many w y rest ts k p full r) = Fails.too_many z y rest ts k (Passes.gap z w y ts g p) full r

fails_token : (total room : ℕ) (z mid : Text) (l : Lexeme) (t : ScanError) → Reads z l mid → is_trailing_junk l mid ≡ false → Fails total room mid t → Fails total (suc room) z t
fails_token total room z mid l t rd apart (Fails.bad w y ts u p few b) = Fails.bad z y (token_at total z w l ∷ ts) u (Passes.token z w y l ts rd apart p) (omega arith) b
fails_token total room z mid l t rd apart (Fails.trailing_junk w y rest ts k p few r e) = Fails.trailing_junk z y rest (token_at total z w l ∷ ts) k (Passes.token z w y l ts rd apart p) (omega arith) r e
fails_token total room z mid l t rd apart (Fails.too_many w y rest ts k p full r) = Fails.too_many z y rest (token_at total z w l ∷ ts) k (Passes.token z w y l ts rd apart p) (omega arith) r

behind_gap : (total room : ℕ) (z mid : Text) → Gap z mid → HasAnswer total room mid → HasAnswer total room z
behind_gap total room z mid g (inl (ts, y, rest, p, few, s)) = inl (ts, y, rest, Passes.gap z mid y ts g p, few, s)
behind_gap total room z mid g (inr (t, f)) = inr (t, fails_gap total room z mid t g f)

behind_token : (total room : ℕ) (z mid : Text) (k : Lexeme) → Reads z k mid → is_trailing_junk k mid ≡ false → HasAnswer total room mid → HasAnswer total (suc room) z
behind_token total room z mid k r apart (inl (ts, y, rest, p, few, s)) = inl (token_at total z mid k ∷ ts, y, rest, Passes.token z mid y k ts r apart p, omega arith, s)
behind_token total room z mid k r apart (inr (t, f)) = inr (t, fails_token total room z mid k t r apart f)

at_token : (total room : ℕ) (z mid : Text) (k : Lexeme) → Reads z k mid → ((m : ℕ) → HasAnswer total m mid) → (v : Bool) → is_trailing_junk k mid ≡ v → HasAnswer total room z
at_token total zero z mid k r go v e = inr (_, Fails.too_many z z mid [] k (Passes.here z) refl r)
at_token total (suc room) z mid k r go true e = inr (_, Fails.trailing_junk z z mid [] k (Passes.here z) (omega arith) r e)
at_token total (suc room) z mid k r go false e = behind_token total room z mid k r e (go room)

at_piece : (total room : ℕ) (z : Text) → length z < 2 ^ 32 → PieceIs z → ((m : ℕ) (y : Text) → length y < length z → HasAnswer total m y) → HasAnswer total room z
at_piece total room z fits (PieceIs.white mid g) go = behind_gap total room z mid g (go room mid (gap_shorter false z mid (gap_is z mid g)))
at_piece total room z fits (PieceIs.lexeme k mid r) go = at_token total room z mid k r (λ m. go m mid (token_shorter false z mid k (reads_are z k mid fits r) (reads_no_end z k mid r))) (is_trailing_junk k mid) refl
at_piece total room z fits (PieceIs.end rest s) go = inl ([], z, rest, Passes.here z, omega arith, s)
at_piece total room z fits (PieceIs.fault t b) go = inr (t, Fails.bad z z [] t (Passes.here z) (omega arith) b)

answers_within : (n total room : ℕ) (z : Text) → length z < n → length z < 2 ^ 32 → HasAnswer total room z
answers_within zero total room z h fits = absurd (omega arith)
answers_within (suc n) total room z h fits = at_piece total room z fits (piece_cases z fits) (λ m y s. answers_within n total m y (omega arith) (omega arith))

answer_found : (text : Text) (from : ℕ) → length text < 2 ^ 32 → (a : Answer) × IsAnswer text from a
answer_found text from fits = by (answers_within (suc (length (drop from text))) (length text) TOKEN_LIMIT (drop from text) (omega arith) (omega (arith, length-drop from text)))
  where
    by : HasAnswer (length text) TOKEN_LIMIT (drop from text) → (a : Answer) × IsAnswer text from a
    by (inl (ts, y, rest, p, few, s)) = (_, IsAnswer.tokens ts y rest p few s)
    by (inr (t, f)) = (_, IsAnswer.fails t f)

-- what the function answers is what the definition says
pub answer_right : (text : Text) (from : ℕ) → length text < 2 ^ 32 → IsAnswer text from (lexed text from)
answer_right text from fits = let (a, h) = answer_found text from fits in subst (IsAnswer text from) (sym (answer_is text from a fits h)) h

pub right_of : (text : Text) (from : ℕ) (r : Result Lexed LexFault) → length text < 2 ^ 32 → Answers r (lexed text from) → IsRight text from r
right_of text from (Ok l) fits e = subst (IsAnswer text from) e (answer_right text from fits)
right_of text from (Err fault.Memory) fits e = tt
right_of text from (Err (fault.BadByte at)) fits e = subst (IsAnswer text from) e (answer_right text from fits)
right_of text from (Err (fault.Unclosed start)) fits e = subst (IsAnswer text from) e (answer_right text from fits)
right_of text from (Err (fault.TooManyTokens at)) fits e = subst (IsAnswer text from) e (answer_right text from fits)

pub only_of : (text : Text) (from : ℕ) (r : Result Lexed LexFault) → length text < 2 ^ 32 → Answers r (lexed text from) → (a : Answer) → IsAnswer text from a → Answers r a
only_of text from r fits e a h = subst (Answers r) (answer_is text from a fits h) e

pub lexed_exact : (text : Text) (from : ℕ) (a : Answer) → length text < 2 ^ 32 → (lexed text from ≡ a) ↔ IsAnswer text from a
lexed_exact text from a fits = ((λ e. subst (IsAnswer text from) e (answer_right text from fits)), answer_is text from a fits)

-- no text's answer is want of memory
parts_remember : (z : Text) (t : ScanError) → BadParts z t → t ≡ error.Memory → ⊥
parts_remember z t (BadParts.unclosed y o) e = absurd cc
parts_remember z t (BadParts.spoilt y raw text rest q less) e = absurd cc
parts_remember z t (BadParts.later y raw text behind next u q clean c more) e = parts_remember next u more e

bad_remembers : (z : Text) (t : ScanError) → Bad z t → t ≡ error.Memory → ⊥
bad_remembers z t (Bad.string y u h) e = parts_remember y u h e
bad_remembers z t (Bad.unclosed_name y o) e = absurd cc
bad_remembers z t (Bad.spoilt_name y raw text rest q less) e = absurd cc
bad_remembers z t (Bad.empty_name y raw text rest q clean none) e = absurd cc
bad_remembers z t (Bad.unclosed_comment y none) e = absurd cc
bad_remembers z t (Bad.nothing b y quotes op gap reads stops) e = absurd cc

fails_remember : (total room : ℕ) (z : Text) (t : ScanError) → Fails total room z t → t ≡ error.Memory → ⊥
fails_remember total room z t (Fails.bad w y ts u p few b) e = bad_remembers y u b e
fails_remember total room z t (Fails.trailing_junk w y rest ts k p few r f) e = absurd cc
fails_remember total room z t (Fails.too_many w y rest ts k p full r) e = absurd cc

from_memory : (total : ℕ) (t : ScanError) → fault_of total t ≡ fault.Memory → t ≡ error.Memory
from_memory total error.Memory e = refl
from_memory total (error.BadByte left) e = absurd cc
from_memory total (error.Unclosed left) e = absurd cc
from_memory total (error.TooManyTokens left) e = absurd cc

answer_remembers : (text : Text) (from : ℕ) (a : Answer) → IsAnswer text from a → a ≡ Err fault.Memory → ⊥
answer_remembers text from a (IsAnswer.tokens all z rest p few s) e = absurd cc
answer_remembers text from a (IsAnswer.fails t f) e = let g : fault_of (length text) t ≡ fault.Memory = cc in fails_remember (length text) TOKEN_LIMIT (drop from text) t f (from_memory (length text) t g)

pub lexed_remembers : (text : Text) (from : ℕ) → length text < 2 ^ 32 → lexed text from ≢ Err fault.Memory
lexed_remembers text from fits = answer_remembers text from (lexed text from) (answer_right text from fits)
