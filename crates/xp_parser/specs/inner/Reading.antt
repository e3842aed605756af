-- What a function that reads ensures: what is read by the grammar, unless memory ran out (manual 4.1).
use Rattle.std.specs.Prelude.{◌≡◌, ℕ, List, Option, Some, None, Result, Ok, Err}
use denote.Ref.{Bor}
use Rattle.xp_token.specs.declared.token.Token.{Token}
use Rattle.xp_grammar.specs.declared.statement.Statement.{Statement}
use Rattle.xp_grammar.specs.Table.{Value, Stated}
use Rattle.xp_grammar.specs.inner.Machine.{Outcome}
use Rattle.xp_parser.specs.declared.parse_error.ParseError.{ParseError}
use Rattle.xp_parser.specs.declared.parse_error.ParseError.TheVariants.{Memory, Syntax}

abbrev pub Fails : {A : Type 0} → ParseError → Outcome A → Type 0
Fails Memory o = Unit {0}
Fails (Syntax n) o = o ≡ Err n

-- the outcome is the result, seen as a value of the grammar, with these tokens left
abbrev pub Reads : {A B : Type 0} → (A → B) → Outcome B → Result A ParseError → List Token → Type 0
Reads view o (Ok a) new = o ≡ Ok (view a, new)
Reads view o (Err e) new = Fails e o

-- the same of a token that may be there or not
abbrev pub Eats : Outcome (Option Token) → Option (Bor Token) → List Token → Type 0
Eats o (Some t) new = o ≡ Ok (Some t.now, new)
Eats o None new = o ≡ Ok (None, new)

abbrev pub seen : Bor Token → Token
seen t = t.now

-- what is answered of a whole list of tokens, unless memory ran out
abbrev pub Answers : Result Statement ParseError → Result Value ℕ → Type 0
Answers (Ok s) r = r ≡ Ok (Stated s)
Answers (Err Memory) r = Unit {0}
Answers (Err (Syntax n)) r = r ≡ Err n
