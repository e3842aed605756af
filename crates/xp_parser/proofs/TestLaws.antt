-- What is read of NOT, tests, comparisons and ranges.
use Rattle.std.proofs.Common.{◌≡◌, List}
use Rattle.xp_token.specs.declared.token.Token.{Token}
use Rattle.xp_grammar.specs.Table.{Level as l}
use Rattle.xp_grammar.specs.inner.Machine.{onward, parse}
use Rattle.xp_grammar.proofs.Straight.{reach, parse_straight}
use Rattle.xp_parser.specs.inner.Parts.{not_part, is_end, is_then, test_then, test_part, compared_part, between_then, in_then, like_then, not_range_then, range_then, range_part}

pub not_is : (ts : List Token) → parse l.E2 ts ≡ not_part ts
unfolding reach onward not_part
not_is ts = parse_straight l.E2 ts

pub test_is : (ts : List Token) → parse l.E3 ts ≡ test_part ts
unfolding reach onward test_part test_then is_then is_end
test_is ts = parse_straight l.E3 ts

pub compared_is : (ts : List Token) → parse l.E4 ts ≡ compared_part ts
unfolding reach onward compared_part
compared_is ts = parse_straight l.E4 ts

pub range_is : (ts : List Token) → parse l.E5 ts ≡ range_part ts
unfolding reach onward range_part range_then not_range_then between_then in_then like_then
range_is ts = parse_straight l.E5 ts
