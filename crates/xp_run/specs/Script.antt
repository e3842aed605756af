-- What the statements of a script answer, one after the other (manual 4.1).
use Rattle.std.specs.Prelude.{ℕ, zero, suc, ◌==◌, nat_lt, List, [], ◌∷◌, length, Option, Some, None, Result, Ok, Err, if◌then◌else◌}
use Rattle.xp_base.specs.declared.codes.Code.TheVariants as code
use Rattle.xp_grammar.specs.declared.statement.Statement.{Statement}
use Rattle.xp_lexer.specs.declared.lexed.LexFault.{LexFault}
use Rattle.xp_lexer.specs.declared.lexed.LexFault.TheVariants as lexical
use Rattle.xp_lexer.specs.Lexed.{lexed}
use Rattle.xp_token.specs.Held.{tokens_of}
use Rattle.xp_token.specs.Lexemes.{Placed}
use Rattle.xp_parser.specs.declared.fault.ParseFault.{ParseFault}
use Rattle.xp_parser.specs.declared.fault.ParseFault.TheVariants as fault
use Rattle.xp_parser.specs.Parses.{parsed}
use Rattle.xp_analyse.specs.Statements.{analysed, is_evaluated}
use Rattle.xp_run.specs.Answer.{Answer, Refused, said}
use Rattle.xp_run.specs.declared.inputs.Inputs.{Inputs}

-- over the checks of the domains and the columns of the rows
abbrev pub statement_answer : Inputs → Statement → Option Answer
statement_answer inputs s = said inputs.rows (is_evaluated s) (analysed inputs.catalog inputs.checks inputs.header s)

-- by what the tokens are, which are never out of memory here
abbrev pub parsed_answer : Inputs → Result Statement ParseFault → Option Answer
parsed_answer inputs (Ok statement) = statement_answer inputs statement
parsed_answer inputs (Err (fault.Syntax at)) = Some (Refused code.Syntax at)
parsed_answer inputs (Err (fault.TooDeep at)) = Some (Refused code.TooDeep at)
parsed_answer inputs (Err fault.Memory) = None

-- what the tokens of a statement answer; without a token before its End there is no statement
abbrev pub tokens_answer : Inputs → List Placed → Option Answer
tokens_answer inputs tokens = if length tokens == 1 then None else parsed_answer inputs (parsed (tokens_of tokens))

-- an answer, where there is one, and the others
abbrev pub with_first : Option Answer → List Answer → List Answer
with_first None others = others
with_first (Some first) others = first ∷ others

-- by the tokens of a statement and the place behind it; a lexical fault is its statement's refusal and ends the script
abbrev pub lexed_answers : Inputs → Result (List Placed × ℕ) LexFault → (ℕ → List Answer) → List Answer
lexed_answers inputs (Ok read) others = with_first (tokens_answer inputs read.0) (others read.1)
lexed_answers inputs (Err (lexical.BadByte at)) others = Refused code.BadByte at ∷ []
lexed_answers inputs (Err (lexical.Unclosed start)) others = Refused code.Unclosed start ∷ []
lexed_answers inputs (Err (lexical.TooManyTokens at)) others = Refused code.TooManyTokens at ∷ []
lexed_answers inputs (Err lexical.Memory) others = []

-- what the first n statements from a place on answer
abbrev pub answers_from : ℕ → Inputs → ℕ → List Answer
answers_from zero inputs at = []
answers_from (suc n) inputs at = if nat_lt at (length inputs.script) then lexed_answers inputs (lexed inputs.script at) (answers_from n inputs) else []

-- each statement takes a byte of the script
unfoldable pub answers : Inputs → List Answer
answers inputs = answers_from (length inputs.script) inputs 0
