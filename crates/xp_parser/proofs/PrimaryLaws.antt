-- What is read of an operand without operators around it.
use Rattle.std.proofs.Common.{◌≡◌, Bool, false, ◌||◌, List, [], arith}
use Rattle.xp_token.specs.declared.token.Token.{Token}
use Rattle.xp_token.specs.declared.words.Word.TheVariants as word
use Rattle.xp_grammar.specs.declared.kind.Kind.TheVariants as k
use Rattle.xp_grammar.specs.declared.kind.Class.TheVariants.{Only}
use Rattle.xp_grammar.specs.declared.ast.Arm.{Arm}
use Rattle.xp_grammar.specs.Kinds.{same, ahead}
use Rattle.xp_grammar.specs.Table.{Cases}
use Rattle.xp_grammar.specs.Table.{Level as l}
use Rattle.xp_grammar.specs.inner.Machine.{◌>>=◌, expect, first, onward, parse, more}
use Rattle.xp_grammar.proofs.Straight.{reach, again, parse_straight, more_straight}
use Rattle.xp_parser.specs.inner.Parts.{arm_then, more_arms_part, end_then, case_then, call_then, named_then, paren_then, cast_then, selection_then, nullif_then, array_then, position_then, extract_then, listed_then, begun_then, ended_then, substring_then, source_then, set_source_then, trimmed_then, sided_then, trim_then, forms_part, worded_part, primary_part}

or_none : (a : Bool) → a || false ≡ a
or_none a = grind arith

pub starts_arms : (ts : List Token) → first l.Arms (ahead ts) ≡ same (ahead ts) (k.Word word.When)
unfolding first
starts_arms ts = or_none _

pub arms_is : (ts : List Token) → parse l.Arms ts ≡ (expect (Only (k.Word word.When)) >>= arm_then []) ts
unfolding reach more arm_then
arms_is ts = parse_straight l.Arms ts

pub more_arms : (arms : List Arm) (ts : List Token) → more l.Arms (Cases arms) ts ≡ more_arms_part arms ts
unfolding reach again arm_then more_arms_part
more_arms arms ts = more_straight l.Arms (Cases arms) ts

pub primary_is : (ts : List Token) → parse l.E12 ts ≡ primary_part ts
unfolding reach onward end_then case_then call_then named_then paren_then cast_then selection_then nullif_then array_then position_then extract_then listed_then begun_then ended_then substring_then source_then set_source_then trimmed_then sided_then trim_then forms_part worded_part primary_part
primary_is ts = parse_straight l.E12 ts
