-- What a statement is, as a function of the text: what Grammar says, by the law `lexed_is_the_grammar`.
use Rattle.std.specs.Prelude.{ℕ, Bool, true, false, length, drop, Result, Ok, Err}
use Rattle.xp_base.specs.OrMemory.{OrMemory}
use Rattle.xp_base.specs.declared.limits.TheConstants.{TOKEN_LIMIT}
use Rattle.xp_token.specs.Lexemes.{all_placed}
use Rattle.xp_lexer.specs.declared.lexed.Lexed.{Lexed}
use Rattle.xp_lexer.specs.declared.lexed.LexFault.{LexFault}
use Rattle.xp_lexer.specs.declared.lexed.LexFault.TheVariants as fault
use Rattle.xp_lexer.specs.Bytes.{Text}
use Rattle.xp_lexer.specs.Meaning.{Answer}
use Rattle.xp_lexer.specs.inner.Cutting.{statement, finished}

-- the statement of the text that begins at this place, of no more tokens than their limit
unfoldable pub lexed : Text → ℕ → Answer
lexed text from = finished (length text) (statement (length text) TOKEN_LIMIT false (drop from text))

abbrev pub is_memory : LexFault → Bool
is_memory fault.Memory = true
is_memory _ = false

-- what `lex` returned, as plain data
abbrev pub told : Result Lexed LexFault → Answer
told (Ok l) = Ok (all_placed l.tokens, l.next)
told (Err e) = Err e

-- what `lex` returned is that answer, unless memory ran out
abbrev pub Answers : Result Lexed LexFault → Answer → Type 0
Answers returned answer = OrMemory is_memory answer (told returned)
