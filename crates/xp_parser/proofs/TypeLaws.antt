-- What is read of a type, as the functions go.
use Rattle.std.proofs.Common.{◌≡◌, List}
use Rattle.xp_token.specs.declared.token.Token.{Token}
use Rattle.xp_grammar.specs.declared.types.TypeWords.{TypeWords}
use Rattle.xp_grammar.specs.Table.{Named}
use Rattle.xp_grammar.specs.Table.{Level as l}
use Rattle.xp_grammar.specs.inner.Machine.{◌>>=◌, onward, parse, more}
use Rattle.xp_grammar.proofs.Straight.{reach, again, parse_straight, more_straight}
use Rattle.xp_parser.specs.inner.Parts.{double_then, character_then, moment_then, typename_part, modifier_then, basic_part, pair_then, brackets_part}

pub typename_is : (ts : List Token) → parse l.Typename ts ≡ typename_part ts
unfolding reach onward double_then character_then moment_then typename_part
typename_is ts = parse_straight l.Typename ts

pub basic_is : (ts : List Token) → parse l.Basic ts ≡ basic_part ts
unfolding reach onward modifier_then basic_part
basic_is ts = parse_straight l.Basic ts

pub full_is : (ts : List Token) → parse l.Full ts ≡ (parse l.Basic >>= (λ v. more l.Full v)) ts
unfolding reach more
full_is ts = parse_straight l.Full ts

pub more_full : (n : TypeWords) (ts : List Token) → more l.Full (Named n) ts ≡ brackets_part n ts
unfolding reach again pair_then brackets_part
more_full n ts = more_straight l.Full (Named n) ts
