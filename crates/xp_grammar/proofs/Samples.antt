-- A token of each kind.
use Rattle.std.proofs.Common.{◌≡◌, ◌<◌, [], codes, true, false, arith}
use Rattle.xp_base.specs.declared.decimal.Dec.{Dec}
use Rattle.xp_token.specs.declared.token.Token.{Token}
use Rattle.xp_token.specs.declared.token.TokenKind.{TokenKind}
use Rattle.xp_token.specs.declared.token.TokenKind.TheVariants as t
use Rattle.xp_grammar.specs.declared.kind.Kind.{Kind}
use Rattle.xp_grammar.specs.declared.kind.Kind.TheVariants as k

pub no_sign : false ≡ true → 0 < 0
no_sign h = absurd cc

abbrev zero_number : Dec
zero_number = record { neg = false; coef = 0; scale = 0; digits = omega arith; decimals = omega arith; no_negative_zero = no_sign }

abbrev pub sample_kind : Kind → TokenKind
sample_kind k.Whole = t.Number zero_number true
sample_kind k.Decimal = t.Number zero_number false
sample_kind k.Wide = t.Wide
sample_kind k.String = t.Str []
sample_kind k.Name = t.Name []
sample_kind k.Quoted = t.Quoted []
sample_kind k.Double = t.Name (codes "double")
sample_kind k.Precision = t.Name (codes "precision")
sample_kind k.Character = t.Name (codes "character")
sample_kind k.Varying = t.Name (codes "varying")
sample_kind k.Timestamp = t.Name (codes "timestamp")
sample_kind k.Time = t.Name (codes "time")
sample_kind k.With = t.Name (codes "with")
sample_kind k.Without = t.Name (codes "without")
sample_kind k.Zone = t.Name (codes "zone")
sample_kind (k.Word word) = t.Word word
sample_kind (k.Mark mark) = t.Mark mark
sample_kind k.Sign = t.Operator (codes "+")
sample_kind k.Times = t.Operator (codes "*")
sample_kind k.Power = t.Operator (codes "^")
sample_kind k.Compare = t.Operator (codes "<")
sample_kind k.Arrow = t.Operator (codes "=>")
sample_kind k.Other = t.Operator []
sample_kind k.EndOfStatement = t.End
sample_kind k.Nothing = t.End

abbrev pub sample : Kind → Token
sample a = record { span = record { start = 0; end = 0 }; kind = sample_kind a }
