-- The tokens that plain data tell (manual 4.1).
use Rattle.std.specs.Prelude.{◌≡◌, ℕ, ◌^◌, ◌<◌, Bool, true, false, not, ◌||◌, nat_lt, nat_le, List, map, refl}
use Rattle.std.proofs.lemmas.Bool.{ltb-true, leb-true, false≢true}
use Rattle.xp_base.specs.declared.decimal.Dec.{Dec}
use Rattle.xp_token.specs.declared.token.Token.{Token}
use Rattle.xp_token.specs.declared.token.TokenKind.{TokenKind}
use Rattle.xp_token.specs.declared.token.TokenKind.TheVariants as kind
use Rattle.xp_token.specs.Lexemes.{Lexeme, Placed, NameOf, QuotedName, Reserved, Constant, NumberOf, TooWide, OperatorOf, MarkOf, EndOf}

-- only what isn't zero is negative
abbrev pub signed : (negative : Bool) (coefficient : ℕ) → (not negative || nat_lt 0 coefficient) ≡ true → negative ≡ true → 0 < coefficient
signed true coefficient r h = ltb-true 0 coefficient r
signed false coefficient r h = absurd (false≢true h)

-- a number within its limits; zero in place of every other, which no token has
abbrev pub dec_by : (negative : Bool) (coefficient scale : ℕ) (a : Bool) → nat_lt coefficient (10 ^ 38) ≡ a → (b : Bool) → nat_le scale 38 ≡ b → (c : Bool) → (not negative || nat_lt 0 coefficient) ≡ c → Dec
dec_by negative coefficient scale true p true q true r = record {
  neg = negative;
  coef = coefficient;
  scale = scale;
  digits = ltb-true coefficient (10 ^ 38) p;
  decimals = leb-true scale 38 q;
  no_negative_zero = signed negative coefficient r;
}
dec_by negative coefficient scale _ p _ q _ r = record {
  neg = false;
  coef = 0;
  scale = 0;
  digits = ltb-true 0 (10 ^ 38) refl;
  decimals = leb-true 0 38 refl;
  no_negative_zero = signed false 0 refl;
}

unfoldable pub dec_of : Bool → ℕ → ℕ → Dec
dec_of negative coefficient scale = dec_by negative coefficient scale _ refl _ refl _ refl

abbrev pub kind_of : Lexeme → TokenKind
kind_of (NameOf n) = kind.Name n
kind_of (QuotedName n) = kind.Quoted n
kind_of (Reserved w) = kind.Word w
kind_of (Constant t) = kind.Str t
kind_of (NumberOf negative coefficient scale whole) = kind.Number (dec_of negative coefficient scale) whole
kind_of TooWide = kind.Wide
kind_of (OperatorOf o) = kind.Operator o
kind_of (MarkOf m) = kind.Mark m
kind_of EndOf = kind.End

abbrev pub token_of : Placed → Token
token_of p = record { span = record { start = p.start; end = p.end }; kind = kind_of p.lexeme }

abbrev pub tokens_of : List Placed → List Token
tokens_of ps = map token_of ps
