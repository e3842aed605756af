-- Tokens as plain data: what the tokens of a statement are, without the proofs that a number keeps (manual 4.1).
use Rattle.std.specs.Prelude.{ℕ, Bool, List, map}
use Rattle.xp_token.specs.declared.words.Word.{Word}
use Rattle.xp_token.specs.declared.token.Mark.{Mark}
use Rattle.xp_token.specs.declared.token.Token.{Token}
use Rattle.xp_token.specs.declared.token.TokenKind.{TokenKind}
use Rattle.xp_token.specs.declared.token.TokenKind.TheVariants as kind

pub data Lexeme : Type 0 where
  -- an unquoted name in lower case, and a quoted one
  NameOf : List ℕ → Lexeme
  QuotedName : List ℕ → Lexeme
  Reserved : Word → Lexeme
  -- the text of a string constant
  Constant : List ℕ → Lexeme
  -- negative or not, the coefficient, the scale, and whether the number is whole
  NumberOf : Bool → ℕ → ℕ → Bool → Lexeme
  -- a number of more than 38 digits or decimals
  TooWide : Lexeme
  OperatorOf : List ℕ → Lexeme
  MarkOf : Mark → Lexeme
  EndOf : Lexeme

-- what a token's kind says
abbrev pub seen : TokenKind → Lexeme
seen (kind.Name n) = NameOf n
seen (kind.Quoted n) = QuotedName n
seen (kind.Word w) = Reserved w
seen (kind.Str t) = Constant t
seen (kind.Number d whole) = NumberOf d.neg d.coef d.scale whole
seen kind.Wide = TooWide
seen (kind.Operator o) = OperatorOf o
seen (kind.Mark m) = MarkOf m
seen kind.End = EndOf

-- a token is its lexeme and the place of its first byte and of the byte behind it
pub record Placed : Type 0 where
  pub start : ℕ
  pub end : ℕ
  pub lexeme : Lexeme

abbrev pub placed : Token → Placed
placed t = record { start = t.span.start; end = t.span.end; lexeme = seen t.kind }

abbrev pub all_placed : List Token → List Placed
all_placed tokens = map placed tokens
