-- A function that reads an expression within another, of fewer tokens than a number.
use Rattle.std.specs.Prelude.{ℕ, ◌<◌, length, Result, List}
use Rattle.std.specs.declared.alloc.Global.{Global}
use denote.Ref.{MutBor}
use Rattle.xp_token.specs.declared.token.Token.{Token}
use Rattle.xp_grammar.specs.declared.ast.Ast.{Ast}
use Rattle.xp_grammar.specs.Table.{Tree}
use Rattle.xp_parser.specs.declared.grammar.Nested.{Nested}
use Rattle.xp_parser.specs.declared.parse_error.ParseError.{ParseError}
use Rattle.xp_parser.specs.inner.Parts.{nested}
use Rattle.xp_parser.specs.inner.Reading.{Reads}

pub record Nests (room : ℕ) (pre : Global → Nested → MutBor (List Token) → Type 0)
    (post : Global → Nested → MutBor (List Token) → Result Ast ParseError → MutBor (List Token) → Type 0) : Type 0 where
  pub callable : (alloc : Global) (which : Nested) (old : MutBor (List Token)) → length old.now < room → pre alloc which old
  pub reads : (alloc : Global) (which : Nested) (old new : MutBor (List Token)) (r : Result Ast ParseError) → post alloc which old r new
      → Reads Tree (nested which old.now) r new.now
