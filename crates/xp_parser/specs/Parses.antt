-- What a list of tokens that ends in End is: a statement, or the first fault in it (manual 4.1.6, 4.2; the depth is this project's own).
use Rattle.std.specs.Prelude.{◌≡◌, ℕ, zero, suc, ◌+◌, ◌-◌, ◌≤◌, ◌<◌, Bool, true, false, List, [], ◌∷◌, ◌++◌, length, take, slice_get, Option, Some, None, Result, Ok, Err}
use Rattle.std.specs.Option.{option_map_or}
use Rattle.xp_base.specs.OrMemory.{OrMemory}
use Rattle.xp_base.specs.declared.limits.TheConstants.{DEPTH_LIMIT}
use Rattle.xp_token.specs.declared.token.Token.{Token}
use Rattle.xp_token.specs.Ended.{is_end}
use Rattle.xp_token.specs.Lexemes.{seen}
use Rattle.xp_grammar.specs.declared.statement.Statement.{Statement}
use Rattle.xp_grammar.specs.Table.{Value, Stated}
use Rattle.xp_grammar.specs.Reads.{IsStatement, IsFront, Stuck, read}
use Rattle.xp_parser.specs.declared.fault.ParseFault.{ParseFault}
use Rattle.xp_parser.specs.declared.fault.ParseFault.TheVariants.{Syntax, TooDeep, Memory}
use Rattle.xp_depth.specs.Depth.{depth, first_deep}

abbrev pub ends_in_end : List Token → Bool
ends_in_end [] = false
ends_in_end (t ∷ []) = is_end (seen t.kind)
ends_in_end (t ∷ u ∷ ts) = ends_in_end (u ∷ ts)

-- the tokens before the End
abbrev pub words : List Token → List Token
words all = take (length all - 1) all

-- the byte at which the token at this place begins
abbrev pub start_at : List Token → ℕ → ℕ
start_at all i = option_map_or (λ t. t.span.start) (slice_get all i) 0

-- a statement, or its fault
abbrev pub Answer : Type 0
Answer = Result Statement ParseFault

-- what the tokens are
pub data IsAnswer (all : List Token) : Answer → Type 0 where
  statement : (s : Statement) → IsStatement (words all) (Stated s) → depth (words all) ≤ DEPTH_LIMIT → IsAnswer all (Ok s)
  -- a statement begins with the tokens before, and none goes on with the first of those after, or ends where there is none
  syntax : (before after : List Token) → words all ≡ before ++ after → IsFront before → Stuck before after → depth before ≤ DEPTH_LIMIT
      → IsAnswer all (Err (Syntax (start_at all (length before))))
  -- a statement begins with the tokens up to and with t, with which the depth passes its limit
  too_deep : (before after : List Token) (t : Token) → words all ≡ before ++ t ∷ after → IsFront (before ++ t ∷ []) → depth before ≤ DEPTH_LIMIT → DEPTH_LIMIT < depth (before ++ t ∷ [])
      → IsAnswer all (Err (TooDeep (start_at all (length before))))

-- what `parse` returned is what the tokens are, unless memory ran out
abbrev pub IsRight : List Token → Answer → Type 0
IsRight all (Ok s) = IsAnswer all (Ok s)
IsRight all (Err Memory) = Unit {0}
IsRight all (Err (Syntax at)) = IsAnswer all (Err (Syntax at))
IsRight all (Err (TooDeep at)) = IsAnswer all (Err (TooDeep at))

-- ---- the function that tells it

-- by what is read of all tokens; what is read is a statement
abbrev pub settled : List Token → Result Value ℕ → Answer
settled all (Ok (Stated s)) = Ok s
settled all (Ok _) = Err Memory
settled all (Err left) = Err (Syntax (start_at all (length (words all) - left)))

-- by what is read up to and with the first deep token, whose place is i
abbrev pub settled_deep : List Token → ℕ → Result Value ℕ → Answer
settled_deep all i (Ok v) = Err (TooDeep (start_at all i))
settled_deep all i (Err zero) = Err (TooDeep (start_at all i))
settled_deep all i (Err (suc left)) = Err (Syntax (start_at all (i - left)))

abbrev pub parsed_by : List Token → Option ℕ → Answer
parsed_by all None = settled all (read (words all))
parsed_by all (Some i) = settled_deep all i (read (take (i + 1) (words all)))

unfoldable pub parsed : List Token → Answer
parsed all = parsed_by all (first_deep (words all))

abbrev pub is_memory : ParseFault → Bool
is_memory (Syntax at) = false
is_memory (TooDeep at) = false
is_memory Memory = true

-- this answer, unless memory ran out
abbrev pub Answers : Answer → Answer → Type 0
Answers = OrMemory is_memory
