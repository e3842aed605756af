-- A statement, piece by piece.
use Rattle.std.proofs.Common.{◌≡◌, ℕ, zero, suc, ◌-◌, ◌<◌, ◌≤◌, Bool, true, false, not, cond, List, [], ◌∷◌, ◌++◌, length, Option, Some, None, Result, Ok, Err, refl, sym, ap, subst, ◌∙◌, arith, append_assoc}
use Rattle.xp_lexer.specs.declared.scan_error.ScanError.{ScanError}
use Rattle.xp_lexer.specs.declared.scan_error.ScanError.TheVariants as error
use Rattle.xp_lexer.specs.Bytes.{Text}
use Rattle.std.proofs.lemmas.List.{map-append}
use Rattle.xp_token.specs.declared.token.Token.{Token}
use Rattle.xp_token.specs.Ended.{is_end}
use Rattle.xp_token.specs.Lexemes.{Lexeme, Placed, placed, all_placed}
use Rattle.xp_lexer.specs.inner.Cutting.{◌>>=◌, Fails, scan_next, is_operator, with_front, admitted, onward, pieces, Statement, statement}
use Rattle.xp_lexer.specs.Meaning.{token_at}
use Rattle.xp_lexer.proofs.Parts.{bind_same}
use Rattle.xp_lexer.proofs.Shorter.{goes_on_behind, piece_shorter}

-- more turns than bytes change nothing
pieces_fuel : (n m total room : ℕ) (alone : Bool) (z : Text) → length z < n → length z < m → pieces n total room alone z ≡ pieces m total room alone z
pieces_fuel zero m total room alone z h k = absurd (omega arith)
pieces_fuel (suc n) zero total room alone z h k = absurd (omega arith)
pieces_fuel (suc n) (suc m) total room alone z h k =
    bind_same (scan_next alone z) _ _ (λ p e. by (λ r a t. pieces_fuel n m total r a t) p.0 p.1 (piece_shorter alone z p e).1)
  where
    same : (g : (room : ℕ) (alone : Bool) (z : Text) → length z < n → length z < m → pieces n total room alone z ≡ pieces m total room alone z)
        → (k : Lexeme) (rest : Text) (v : Bool) → (not v ≡ true → length rest < length z)
        → cond v (Ok (token_at total z rest k ∷ [], rest)) (admitted room z rest k >>= (λ _. with_front (token_at total z rest k ∷ []) (pieces n total (room - 1) (is_operator k) rest)))
        ≡ cond v (Ok (token_at total z rest k ∷ [], rest)) (admitted room z rest k >>= (λ _. with_front (token_at total z rest k ∷ []) (pieces m total (room - 1) (is_operator k) rest)))
    same g x rest true s = refl
    same g x rest false s = ap (λ r. admitted room z rest x >>= (λ _. with_front (token_at total z rest x ∷ []) r)) (g (room - 1) (is_operator x) rest (omega (arith, s refl)) (omega (arith, s refl)))

    by : ((room : ℕ) (alone : Bool) (z : Text) → length z < n → length z < m → pieces n total room alone z ≡ pieces m total room alone z)
        → (o : Option Lexeme) (rest : Text) → (goes_on_behind o ≡ true → length rest < length z) → onward (pieces n total) total room z o rest ≡ onward (pieces m total) total room z o rest
    by g None rest s = g room false rest (omega (arith, s refl)) (omega (arith, s refl))
    by g (Some x) rest s = same g x rest (is_end x) s

onward_same : (total room : ℕ) (z : Text) (o : Option Lexeme) (rest : Text) → (goes_on_behind o ≡ true → length rest < length z)
    → onward (pieces (length z) total) total room z o rest ≡ onward (statement total) total room z o rest
unfolding statement
onward_same total room z None rest s = pieces_fuel (length z) (suc (length rest)) total room false rest (s refl) (omega arith)
onward_same total room z (Some k) rest s = by (is_end k) s
  where
    by : (v : Bool) → (not v ≡ true → length rest < length z)
        → cond v (Ok (token_at total z rest k ∷ [], rest)) (admitted room z rest k >>= (λ _. with_front (token_at total z rest k ∷ []) (pieces (length z) total (room - 1) (is_operator k) rest)))
        ≡ cond v (Ok (token_at total z rest k ∷ [], rest)) (admitted room z rest k >>= (λ _. with_front (token_at total z rest k ∷ []) (statement total (room - 1) (is_operator k) rest)))
    by true s = refl
    by false s = ap (λ r. admitted room z rest k >>= (λ _. with_front (token_at total z rest k ∷ []) r)) (pieces_fuel (length z) (suc (length rest)) total (room - 1) (is_operator k) rest (s refl) (omega arith))

-- a statement is its first piece and what follows it
pub statement_is : (total room : ℕ) (alone : Bool) (z : Text) → statement total room alone z ≡ (scan_next alone z >>= (λ p. onward (statement total) total room z p.0 p.1))
unfolding statement
statement_is total room alone z = bind_same (scan_next alone z) _ _ (λ p e. onward_same total room z p.0 p.1 (piece_shorter alone z p e).1)

pub front_fails : (front : List Placed) (r : Result (List Placed × Text) ScanError) (x : ScanError) → Fails x r → Fails x (with_front front r)
front_fails front r error.Memory h = tt
front_fails front r (error.BadByte left) h = rw h refl
front_fails front r (error.Unclosed left) h = rw h refl
front_fails front r (error.TooManyTokens left) h = rw h refl

pub front_front : (a b : List Placed) (r : Result (List Placed × Text) ScanError) → with_front a (with_front b r) ≡ with_front (a ++ b) r
front_front a b (Ok q) = ap (λ t. Ok (t, q.1)) (sym (append_assoc a b q.0))
front_front a b (Err x) = refl

-- no piece
pub statement_stops : (total room : ℕ) (alone : Bool) (z : Text) (x : ScanError) → Fails x (scan_next alone z) → Fails x (statement total room alone z)
statement_stops total room alone z error.Memory h = tt
statement_stops total room alone z (error.BadByte left) h = statement_is total room alone z ∙ rw h refl
statement_stops total room alone z (error.Unclosed left) h = statement_is total room alone z ∙ rw h refl
statement_stops total room alone z (error.TooManyTokens left) h = statement_is total room alone z ∙ rw h refl

-- white space or a comment
pub statement_gap : (total room : ℕ) (alone : Bool) (z rest : Text) → scan_next alone z ≡ Ok (None, rest) → statement total room alone z ≡ statement total room false rest
statement_gap total room alone z rest e = statement_is total room alone z ∙ rw e refl

pub gap_shorter : (alone : Bool) (z rest : Text) → scan_next alone z ≡ Ok (None, rest) → length rest < length z
gap_shorter alone z rest e = (piece_shorter alone z (None, rest) e).1 refl

-- the end
pub statement_end : (total room : ℕ) (alone : Bool) (z rest : Text) (k : Lexeme) → scan_next alone z ≡ Ok (Some k, rest) → is_end k ≡ true → statement total room alone z ≡ Ok (token_at total z rest k ∷ [], rest)
statement_end total room alone z rest k e f = statement_is total room alone z ∙ rw (e, f) refl

pub rest_within : (alone : Bool) (z rest : Text) (o : Option Lexeme) → scan_next alone z ≡ Ok (o, rest) → length rest ≤ length z
rest_within alone z rest o e = (piece_shorter alone z (o, rest) e).0

-- a token that may not stand there
pub statement_refuses : (total room : ℕ) (alone : Bool) (z rest : Text) (k : Lexeme) (x : ScanError) → scan_next alone z ≡ Ok (Some k, rest) → is_end k ≡ false → Fails x (admitted room z rest k) → Fails x (statement total room alone z)
statement_refuses total room alone z rest k error.Memory e f h = tt
statement_refuses total room alone z rest k (error.BadByte left) e f h = statement_is total room alone z ∙ rw (e, f, h) refl
statement_refuses total room alone z rest k (error.Unclosed left) e f h = statement_is total room alone z ∙ rw (e, f, h) refl
statement_refuses total room alone z rest k (error.TooManyTokens left) e f h = statement_is total room alone z ∙ rw (e, f, h) refl

-- a token
pub statement_token : (total room : ℕ) (alone : Bool) (z rest : Text) (k : Lexeme) → scan_next alone z ≡ Ok (Some k, rest) → is_end k ≡ false → admitted room z rest k ≡ Ok tt
    → statement total room alone z ≡ with_front (token_at total z rest k ∷ []) (statement total (room - 1) (is_operator k) rest)
statement_token total room alone z rest k e f h = statement_is total room alone z ∙ rw (e, f, h) refl

pub token_shorter : (alone : Bool) (z rest : Text) (k : Lexeme) → scan_next alone z ≡ Ok (Some k, rest) → is_end k ≡ false → length rest < length z
token_shorter alone z rest k e f = (piece_shorter alone z (Some k, rest) e).1 (rw f refl)

pub admitted_room : (room : ℕ) (z rest : Text) (k : Lexeme) → admitted room z rest k ≡ Ok tt → 0 < room
unfolding admitted
admitted_room zero z rest k e = absurd cc
admitted_room (suc n) z rest k e = omega arith

-- one token more at the end
pub all_placed_push : (tokens new : List Token) (t : Token) (p : Placed) → new ≡ tokens ++ t ∷ [] → placed t ≡ p → all_placed new ≡ all_placed tokens ++ p ∷ []
all_placed_push tokens new t p e f = rw (e, map-append placed tokens (t ∷ []), f) refl

-- the loop's turns
pub turn_fails : (total room : ℕ) (alone : Bool) (z : Text) (a : List Placed) (whole : Statement) (x : ScanError) → with_front a (statement total room alone z) ≡ whole → Fails x (scan_next alone z) → Fails x whole
turn_fails total room alone z a whole x same h = subst (Fails x) same (front_fails a _ x (statement_stops total room alone z x h))

pub turn_refuses : (total room : ℕ) (alone : Bool) (z rest : Text) (k : Lexeme) (a : List Placed) (whole : Statement) (x : ScanError) → with_front a (statement total room alone z) ≡ whole
    → scan_next alone z ≡ Ok (Some k, rest) → is_end k ≡ false → Fails x (admitted room z rest k) → Fails x whole
turn_refuses total room alone z rest k a whole x same e f h = subst (Fails x) same (front_fails a _ x (statement_refuses total room alone z rest k x e f h))

pub turn_ends : (total room : ℕ) (alone : Bool) (z rest : Text) (k : Lexeme) (a b : List Placed) (whole : Statement) → with_front a (statement total room alone z) ≡ whole
    → scan_next alone z ≡ Ok (Some k, rest) → is_end k ≡ true → b ≡ a ++ token_at total z rest k ∷ [] → whole ≡ Ok (b, rest)
turn_ends total room alone z rest k a b whole same e f g = sym same ∙ ap (with_front a) (statement_end total room alone z rest k e f) ∙ ap (λ t. Ok (t, rest)) (sym g)

pub turn_goes : (total room next : ℕ) (alone op : Bool) (z rest : Text) (k : Lexeme) (a b : List Placed) (whole : Statement) → with_front a (statement total room alone z) ≡ whole
    → scan_next alone z ≡ Ok (Some k, rest) → is_end k ≡ false → admitted room z rest k ≡ Ok tt → next ≡ room - 1 → op ≡ is_operator k → b ≡ a ++ token_at total z rest k ∷ []
    → with_front b (statement total next op rest) ≡ whole
turn_goes total room next alone op z rest k a b whole same e f h i j g =
    rw (g, i, j) (sym (front_front a (token_at total z rest k ∷ []) _) ∙ ap (with_front a) (sym (statement_token total room alone z rest k e f h)) ∙ same)

pub turn_skips : (total room : ℕ) (alone : Bool) (z rest : Text) (a : List Placed) (whole : Statement) → with_front a (statement total room alone z) ≡ whole → scan_next alone z ≡ Ok (None, rest)
    → with_front a (statement total room false rest) ≡ whole
turn_skips total room alone z rest a whole same e = ap (with_front a) (sym (statement_gap total room alone z rest e)) ∙ same
