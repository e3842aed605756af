-- What is read of a whole list of tokens, and the first token with which no statement continues (manual 4.1.6).
use Rattle.std.specs.Prelude.{◌≡◌, ℕ, List, [], ◌∷◌, ◌++◌, length, Result, Ok, Err}
use Rattle.xp_token.specs.declared.token.Token.{Token}
use Rattle.xp_grammar.specs.Table.{Level, Lev, Value}
use Rattle.xp_grammar.specs.Grammar.{Derives}
use Rattle.xp_grammar.specs.inner.Machine.{Outcome, parse}

abbrev pub IsStatement : List Token → Value → Type 0
IsStatement ts v = Derives (Lev Level.Statement ∷ []) ts (v ∷ [])

-- some statement begins with these tokens
abbrev pub IsFront : List Token → Type 0
IsFront ts = (r : List Token) × (v : Value) × IsStatement (ts ++ r) v

-- no statement goes on with the first of the second tokens, or ends where there is none
abbrev pub Stuck : List Token → List Token → Type 0
Stuck u [] = (v : Value) → ¬ IsStatement u v
Stuck u (t ∷ r) = ¬ IsFront (u ++ t ∷ [])

-- the first token with which no statement continues has this many from it on
pub record Fault (ts : List Token) (n : ℕ) : Type 0 where
  pub before : List Token
  pub after : List Token
  pub split : ts ≡ before ++ after
  pub count : length after ≡ n
  pub front : IsFront before
  pub stuck : Stuck before after

abbrev pub ended : Value → List Token → Result Value ℕ
ended v [] = Ok v
ended v (t ∷ r) = Err (length (t ∷ r))

abbrev pub to_end : Outcome Value → Result Value ℕ
to_end (Ok p) = ended p.0 p.1
to_end (Err e) = Err e

unfoldable pub read : List Token → Result Value ℕ
read ts = to_end (parse Level.Statement ts)
