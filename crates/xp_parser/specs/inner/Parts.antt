-- What is read of each part of a statement, as the functions go (manual 4.1.6 and 4.2).
use Rattle.std.specs.Prelude.{suc, Bool, true, false, ◌&&◌, ◌==◌, if◌then◌else◌, List, [], ◌∷◌, length, Option, Some, None}
use Rattle.xp_base.specs.declared.numbers.Span.{Span}
use Rattle.xp_token.specs.declared.token.Token.{Token}
use Rattle.xp_token.specs.declared.words.Word.TheVariants as word
use Rattle.xp_token.specs.declared.token.Mark.TheVariants as mark
use Rattle.xp_grammar.specs.declared.kind.Kind.TheVariants as k
use Rattle.xp_grammar.specs.declared.kind.Kind.{Kind}
use Rattle.xp_grammar.specs.declared.kind.Class.TheVariants.{Only, Names, Plains, Moments, Zoned, TruthTests, Constants, Likes, Selections, Sides, Fields}
use Rattle.xp_grammar.specs.declared.ast.Ast.{Ast}
use Rattle.xp_grammar.specs.declared.ast.Ast.TheVariants as e
use Rattle.xp_grammar.specs.declared.ast.Arm.{Arm}
use Rattle.xp_grammar.specs.declared.ast.Side.{Side}
use Rattle.xp_grammar.specs.declared.types.TypeWords.{TypeWords}
use Rattle.xp_grammar.specs.Kinds.{same, ahead}
use Rattle.xp_grammar.specs.Table.{Level, Value, Word, Tree, Casted, Spelled, Named, is_open, made, array_of, at, closed, is_of, distinct_of, between_of, in_of, like_of, prefix_of, or_of, and_of, other_of, sum_of, product_of, power_of, cast_of, array_cast, bracketed, with_shown, with_arg, with_variadic, with_arm, Trees, Given, Cases, call_of, case_of, operand_case, substring_alone, substring_listed, substring_begun, substring_ended, trimmed_from, trimmed_set_from, trimmed, trimmed_set, side_of, name_of}
use Rattle.xp_grammar.specs.Table.{Level as l}
use Rattle.xp_grammar.specs.Table.{Start as s}
use Rattle.xp_grammar.specs.inner.Machine.{Parser, and_then, ◌>>=◌, pure, expect, after, starting, parse, more}
use Rattle.xp_parser.specs.declared.chains.Chain.{Chain}
use Rattle.xp_parser.specs.declared.chains.Chain.TheVariants as chains
use Rattle.xp_parser.specs.declared.grammar.Nested.{Nested}
use Rattle.xp_parser.specs.declared.grammar.Nested.TheVariants as inside
use Rattle.xp_parser.specs.declared.types.Spelling.{Spelling}
use Rattle.xp_parser.specs.declared.operands.Operand.{Operand}
use Rattle.xp_parser.specs.declared.operands.Operand.TheVariants as o
use Rattle.xp_parser.specs.declared.operands.Index.{Index}
use Rattle.xp_parser.specs.declared.lists.Arguments.{Arguments}

-- ---- types

abbrev pub spelling : Spelling → Value
spelling n = Spelled n.at n.name

-- behind the word DOUBLE
unfoldable pub double_then : Token → Parser Value
double_then a = after (Only k.Precision) (λ b. pure (made s.double_precision (Word a ∷ Word b ∷ []))) (pure (made s.double_type (Word a ∷ [])))

-- behind the word CHARACTER
unfoldable pub character_then : Token → Parser Value
character_then a = after (Only k.Varying) (λ b. pure (made s.character_varying (Word a ∷ Word b ∷ []))) (pure (made s.character_type (Word a ∷ [])))

-- behind TIMESTAMP or TIME
unfoldable pub moment_then : Token → Parser Value
moment_then a = after Zoned
    (λ b. expect (Only k.Time) >>= (λ c. expect (Only k.Zone) >>= (λ d. pure (made s.moment_zoned (Word a ∷ Word b ∷ Word c ∷ Word d ∷ [])))))
    (pure (made s.moment_type (Word a ∷ [])))

unfoldable pub typename_part : Parser Value
typename_part =
    after Plains (λ a. pure (made s.plain_type (Word a ∷ [])))
    (after (Only k.Double) double_then
    (after (Only k.Character) character_then
    (expect Moments >>= moment_then)))

-- behind the ( of a modifier
unfoldable pub modifier_then : Value → Token → Parser Value
modifier_then v a = expect (Only k.Whole) >>= (λ b.
    after (Only (k.Mark mark.Comma))
    (λ c. expect (Only k.Whole) >>= (λ d. expect (Only (k.Mark mark.CloseParen)) >>= (λ f. pure (made s.basic_scaled (v ∷ Word a ∷ Word b ∷ Word c ∷ Word d ∷ Word f ∷ [])))))
    (expect (Only (k.Mark mark.CloseParen)) >>= (λ c. pure (made s.basic_sized (v ∷ Word a ∷ Word b ∷ Word c ∷ [])))))

unfoldable pub basic_part : Parser Value
basic_part = parse l.Typename >>= (λ v. after (Only (k.Mark mark.OpenParen)) (modifier_then v) (pure (made s.basic (v ∷ []))))

-- behind a pair's first bracket, or its number
unfoldable pub pair_then : TypeWords → Parser Value
pair_then n = expect (Only (k.Mark mark.CloseBracket)) >>= (λ a. more l.Full (Named (array_of n)))

unfoldable pub brackets_part : TypeWords → Parser Value
brackets_part n = after (Only (k.Mark mark.OpenBracket)) (λ a. after (Only k.Whole) (λ b. pair_then n) (pair_then n)) (pure (Named n))

-- ---- operators that group from the left

abbrev pub chain_level : Chain → Level
chain_level chains.Or = l.E0
chain_level chains.And = l.E1
chain_level chains.Other = l.E6
chain_level chains.Sum = l.E7
chain_level chains.Product = l.E8
chain_level chains.Power = l.E9

abbrev pub chain_operator : Chain → Kind
chain_operator chains.Or = k.Word word.Or
chain_operator chains.And = k.Word word.And
chain_operator chains.Other = k.Other
chain_operator chains.Sum = k.Sign
chain_operator chains.Product = k.Times
chain_operator chains.Power = k.Power

abbrev pub chain_operand : Chain → Nested
chain_operand chains.Or = inside.Conjunction
chain_operand chains.And = inside.Negation
chain_operand chains.Other = inside.Prefixed
chain_operand chains.Sum = inside.Product
chain_operand chains.Product = inside.Power
chain_operand chains.Power = inside.Signed

abbrev pub chain_join : Chain → Value → List Value → Value
chain_join chains.Or v vs = or_of v vs
chain_join chains.And v vs = and_of v vs
chain_join chains.Other v vs = other_of v vs
chain_join chains.Sum v vs = sum_of v vs
chain_join chains.Product v vs = product_of v vs
chain_join chains.Power v vs = power_of v vs

-- an operand of any other operator
unfoldable pub right_part : Parser Value
right_part = starting l.P (parse l.P) (parse l.E7)

unfoldable pub prefix_then : Token → Parser Value
prefix_then a = right_part >>= (λ v. pure (prefix_of (Word a ∷ v ∷ [])))

-- an expression within another
abbrev pub nested : Nested → Parser Value
nested inside.Expression = parse l.E0
nested inside.Conjunction = parse l.E1
nested inside.Negation = parse l.E2
nested inside.Operation = parse l.E6
nested inside.Prefixed = right_part
nested inside.Product = parse l.E8
nested inside.Power = parse l.E9
nested inside.Signed = parse l.E10

-- one more operand of a level, behind an operator of it
unfoldable pub chain_part : Chain → Value → Parser Value
chain_part chain v = after (Only (chain_operator chain)) (λ a. nested (chain_operand chain) >>= (λ w. more (chain_level chain) (chain_join chain v (Word a ∷ w ∷ [])))) (pure v)

-- ---- NOT, tests, comparisons and ranges

unfoldable pub not_part : Parser Value
not_part = after (Only (k.Word word.Not)) (λ a. parse l.E2 >>= (λ v. pure (made s.not (Word a ∷ v ∷ [])))) (parse l.E3 >>= (λ v. pure v))

unfoldable pub is_end : Bool → Value → Token → Parser Value
is_end negated v a = after TruthTests
    (λ b. pure (is_of negated v (Word a ∷ Word b ∷ [])))
    (expect (Only (k.Word word.Distinct)) >>= (λ b. expect (Only (k.Word word.From)) >>= (λ c. parse l.E4 >>= (λ w. pure (distinct_of negated v (Word a ∷ Word b ∷ Word c ∷ w ∷ []))))))

unfoldable pub is_then : Value → Token → Parser Value
is_then v a = after (Only (k.Word word.Not)) (λ b. is_end true v a) (is_end false v a)

unfoldable pub test_then : Value → Parser Value
test_then v =
    after (Only (k.Word word.Is)) (is_then v)
    (after (Only (k.Word word.Isnull)) (λ a. pure (made s.isnull (v ∷ Word a ∷ [])))
    (after (Only (k.Word word.Notnull)) (λ a. pure (made s.notnull (v ∷ Word a ∷ []))) (pure v)))

unfoldable pub test_part : Parser Value
test_part = parse l.E4 >>= test_then

unfoldable pub compared_part : Parser Value
compared_part = parse l.E5 >>= (λ v. after (Only k.Compare) (λ a. parse l.E5 >>= (λ w. pure (made s.compared (v ∷ Word a ∷ w ∷ [])))) (pure v))

unfoldable pub between_then : Bool → Value → Token → Parser Value
between_then negated v a = parse l.E6 >>= (λ low. expect (Only (k.Word word.And)) >>= (λ b. parse l.E6 >>= (λ high. pure (between_of negated v (Word a ∷ low ∷ Word b ∷ high ∷ [])))))

unfoldable pub in_then : Bool → Value → Token → Parser Value
in_then negated v a = expect (Only (k.Mark mark.OpenParen)) >>= (λ b. parse l.Shown >>= (λ all. expect (Only (k.Mark mark.CloseParen)) >>= (λ c. pure (in_of negated v (Word a ∷ Word b ∷ all ∷ Word c ∷ [])))))

unfoldable pub like_then : Bool → Value → Token → Parser Value
like_then negated v a = parse l.E6 >>= (λ w. pure (like_of negated v (Word a ∷ w ∷ [])))

unfoldable pub not_range_then : Value → Parser Value
not_range_then v = after (Only (k.Word word.Between)) (between_then true v) (after (Only (k.Word word.In)) (in_then true v) (expect Likes >>= like_then true v))

unfoldable pub range_then : Value → Parser Value
range_then v =
    after (Only (k.Word word.Not)) (λ a. not_range_then v)
    (after (Only (k.Word word.Between)) (between_then false v)
    (after (Only (k.Word word.In)) (in_then false v)
    (after Likes (like_then false v) (pure v))))

unfoldable pub range_part : Parser Value
range_part = parse l.E6 >>= range_then

-- ---- signs, casts and subscripts

abbrev pub operand : Operand → Value
operand (o.Plain a) = Tree a
operand (o.Cast a p n) = Casted a p n

unfoldable pub signed_part : Parser Value
signed_part = after (Only k.Sign) (λ a. parse l.E10 >>= (λ v. pure (made s.signed (Word a ∷ v ∷ [])))) (parse l.E11 >>= (λ v. pure (closed v)))

unfoldable pub cast_part : Value → Token → Parser Value
cast_part v a = parse l.Basic >>= (λ n. pure (cast_of v (Word a ∷ n ∷ [])))

abbrev pub found_index : Index → Value × Bool
found_index x = (Tree x.at, x.whole)

-- one token was read, and it is a whole number
abbrev pub lone : List Token → List Token → Bool
lone ts r = same (ahead ts) k.Whole && (length ts == suc (length r))

-- behind [
unfoldable pub index_part : Parser (Value × Bool)
index_part ts = and_then (parse l.E0 ts) (λ i r. and_then (expect (Only (k.Mark mark.CloseBracket)) r) (λ w. pure (i, lone ts r)))

abbrev pub indexed : Value → Token → Value × Bool → Value
indexed v a p = bracketed v p.1 (Word a ∷ p.0 ∷ [])

unfoldable pub bracket_part : Value → Token → Parser Value
bracket_part v a =
    if is_open v
    then after (Only (k.Mark mark.CloseBracket)) (λ w. pure (array_cast v)) (index_part >>= (λ p. pure (indexed v a p)))
    else (index_part >>= (λ p. pure (indexed v a p)))

unfoldable pub more_part : Value → Parser Value
more_part v = after (Only (k.Mark mark.DoubleColon)) (λ a. cast_part v a >>= (λ w. more l.E11 w)) (after (Only (k.Mark mark.OpenBracket)) (λ a. bracket_part v a >>= (λ w. more l.E11 w)) (pure v))

-- ---- lists and arguments

-- one more expression, behind a comma
unfoldable pub more_shown_part : List Ast → Parser Value
more_shown_part all = after (Only (k.Mark mark.Comma)) (λ a. parse l.E0 >>= (λ v. more l.Shown (with_shown (Trees all) (v ∷ [])))) (pure (Trees all))

abbrev pub arguments : Arguments → Value
arguments a = Given a.args a.variadic

-- the next argument
unfoldable pub args_part : List Ast → Parser Value
args_part all = after (Only (k.Word word.Variadic))
    (λ a. parse l.E0 >>= (λ v. more l.Args (with_variadic (Given all false) (Word a ∷ v ∷ []))))
    (parse l.E0 >>= (λ v. more l.Args (with_arg (Given all false) (v ∷ []))))

unfoldable pub more_args_part : List Ast → Parser Value
more_args_part all = after (Only (k.Mark mark.Comma)) (λ a. args_part all) (pure (Given all false))

-- ---- CASE

-- behind WHEN
unfoldable pub arm_then : List Arm → Token → Parser Value
arm_then arms a = parse l.E0 >>= (λ x. expect (Only (k.Word word.Then)) >>= (λ b. parse l.E0 >>= (λ y. more l.Arms (with_arm (Cases arms) (Word a ∷ x ∷ Word b ∷ y ∷ [])))))

unfoldable pub more_arms_part : List Arm → Parser Value
more_arms_part arms = after (Only (k.Word word.When)) (arm_then arms) (pure (Cases arms))

unfoldable pub end_then : (List Value → Value) → Value → Parser Value
end_then built v = after (Only (k.Word word.Else))
    (λ a. parse l.E0 >>= (λ y. expect (Only (k.Word word.End)) >>= (λ b. pure (built (v ∷ Word a ∷ y ∷ Word b ∷ [])))))
    (expect (Only (k.Word word.End)) >>= (λ a. pure (built (v ∷ Word a ∷ []))))

unfoldable pub case_then : Token → Parser Value
case_then a = starting l.Arms
    (parse l.Arms >>= (λ v. end_then (case_of (at a) None) v))
    (parse l.E0 >>= (λ x. parse l.Arms >>= (λ v. end_then (operand_case (at a) x) v)))

-- ---- calls and groups

unfoldable pub call_then : Token → Parser Value
call_then a = after (Only (k.Mark mark.CloseParen))
    (λ c. pure (Tree (e.Call (at a) (name_of a) [] false)))
    (parse l.Args >>= (λ v. expect (Only (k.Mark mark.CloseParen)) >>= (λ c. pure (call_of a v))))

unfoldable pub named_then : Token → Parser Value
named_then a =
    after (Only k.String) (λ b. pure (made s.typed_constant (Word a ∷ Word b ∷ [])))
    (after (Only (k.Mark mark.OpenParen)) (λ b. call_then a) (pure (made s.column (Word a ∷ []))))

unfoldable pub paren_then : Token → Parser Value
paren_then a = parse l.E0 >>= (λ v. expect (Only (k.Mark mark.CloseParen)) >>= (λ b. pure (made s.paren (Word a ∷ v ∷ Word b ∷ []))))

unfoldable pub cast_then : Token → Parser Value
cast_then a = expect (Only (k.Mark mark.OpenParen)) >>= (λ b. parse l.E0 >>= (λ v. expect (Only (k.Word word.As)) >>= (λ c. parse l.Full >>= (λ n. expect (Only (k.Mark mark.CloseParen)) >>= (λ d.
    pure (made s.cast_as (Word a ∷ Word b ∷ v ∷ Word c ∷ n ∷ Word d ∷ [])))))))

unfoldable pub selection_then : Token → Parser Value
selection_then a = expect (Only (k.Mark mark.OpenParen)) >>= (λ b. parse l.Shown >>= (λ v. expect (Only (k.Mark mark.CloseParen)) >>= (λ c. pure (made s.selection (Word a ∷ Word b ∷ v ∷ Word c ∷ [])))))

-- ---- forms with words within their brackets

unfoldable pub nullif_then : Token → Parser Value
nullif_then a = expect (Only (k.Mark mark.OpenParen)) >>= (λ b. parse l.E0 >>= (λ v. expect (Only (k.Mark mark.Comma)) >>= (λ c. parse l.E0 >>= (λ w. expect (Only (k.Mark mark.CloseParen)) >>= (λ d.
    pure (made s.nullif (Word a ∷ Word b ∷ v ∷ Word c ∷ w ∷ Word d ∷ [])))))))

unfoldable pub array_then : Token → Parser Value
array_then a = expect (Only (k.Mark mark.OpenBracket)) >>= (λ b. after (Only (k.Mark mark.CloseBracket))
    (λ c. pure (made s.array_empty (Word a ∷ Word b ∷ Word c ∷ [])))
    (parse l.Shown >>= (λ v. expect (Only (k.Mark mark.CloseBracket)) >>= (λ c. pure (made s.array (Word a ∷ Word b ∷ v ∷ Word c ∷ []))))))

unfoldable pub position_then : Token → Parser Value
position_then a = expect (Only (k.Mark mark.OpenParen)) >>= (λ b. parse l.E6 >>= (λ v. expect (Only (k.Word word.In)) >>= (λ c. parse l.E6 >>= (λ w. expect (Only (k.Mark mark.CloseParen)) >>= (λ d.
    pure (made s.position (Word a ∷ Word b ∷ v ∷ Word c ∷ w ∷ Word d ∷ [])))))))

unfoldable pub extract_then : Token → Parser Value
extract_then a = expect (Only (k.Mark mark.OpenParen)) >>= (λ b. expect Fields >>= (λ c. expect (Only (k.Word word.From)) >>= (λ d. parse l.E0 >>= (λ v. expect (Only (k.Mark mark.CloseParen)) >>= (λ f.
    pure (made s.extract (Word a ∷ Word b ∷ Word c ∷ Word d ∷ v ∷ Word f ∷ [])))))))

-- SUBSTRING behind its comma, FROM, and FOR
unfoldable pub listed_then : Token → Value → Parser Value
listed_then a v = parse l.Shown >>= (λ w. expect (Only (k.Mark mark.CloseParen)) >>= (λ b. pure (substring_listed (at a) v (w ∷ Word b ∷ []))))

unfoldable pub begun_then : Token → Value → Parser Value
begun_then a v = parse l.E0 >>= (λ w. after (Only (k.Word word.For))
    (λ b. parse l.E0 >>= (λ z. expect (Only (k.Mark mark.CloseParen)) >>= (λ c. pure (substring_begun (at a) v (w ∷ Word b ∷ z ∷ Word c ∷ [])))))
    (expect (Only (k.Mark mark.CloseParen)) >>= (λ b. pure (substring_begun (at a) v (w ∷ Word b ∷ [])))))

unfoldable pub ended_then : Token → Value → Parser Value
ended_then a v = parse l.E0 >>= (λ w. expect (Only (k.Mark mark.CloseParen)) >>= (λ b. pure (substring_ended (at a) v (w ∷ Word b ∷ []))))

unfoldable pub substring_then : Token → Parser Value
substring_then a = expect (Only (k.Mark mark.OpenParen)) >>= (λ b. parse l.E0 >>= (λ v.
    after (Only (k.Mark mark.Comma)) (λ c. listed_then a v)
    (after (Only (k.Word word.From)) (λ c. begun_then a v)
    (after (Only (k.Word word.For)) (λ c. ended_then a v)
    (expect (Only (k.Mark mark.CloseParen)) >>= (λ c. pure (substring_alone (at a) v)))))))

-- TRIM behind FROM
unfoldable pub source_then : Span → Option Side → Option Ast → Parser Value
source_then p side set = parse l.E0 >>= (λ x. expect (Only (k.Mark mark.CloseParen)) >>= (λ a. pure (trimmed_from p side set (x ∷ Word a ∷ []))))

unfoldable pub set_source_then : Span → Option Side → Value → Parser Value
set_source_then p side v = parse l.E0 >>= (λ x. expect (Only (k.Mark mark.CloseParen)) >>= (λ a. pure (trimmed_set_from p side v (x ∷ Word a ∷ []))))

-- behind the first expression
unfoldable pub trimmed_then : Span → Option Side → Value → Parser Value
trimmed_then p side v =
    after (Only (k.Word word.From)) (λ a. set_source_then p side v)
    (after (Only (k.Mark mark.Comma)) (λ a. parse l.E0 >>= (λ w. expect (Only (k.Mark mark.CloseParen)) >>= (λ b. pure (trimmed_set p side v (w ∷ Word b ∷ [])))))
    (expect (Only (k.Mark mark.CloseParen)) >>= (λ a. pure (trimmed p side v))))

-- behind its side
unfoldable pub sided_then : Span → Option Side → Parser Value
sided_then p side = after (Only (k.Word word.From)) (λ a. source_then p side None) (parse l.E0 >>= trimmed_then p side)

unfoldable pub trim_then : Token → Parser Value
trim_then a = expect (Only (k.Mark mark.OpenParen)) >>= (λ b. after Sides (λ c. sided_then (at a) (Some (side_of c))) (sided_then (at a) None))

unfoldable pub forms_part : Parser Value
forms_part =
    after (Only (k.Word word.Nullif)) nullif_then
    (after (Only (k.Word word.Array)) array_then
    (after (Only (k.Word word.Position)) position_then
    (after (Only (k.Word word.Substring)) substring_then
    (after (Only (k.Word word.Trim)) trim_then
    (expect (Only (k.Word word.Extract)) >>= extract_then)))))

-- CASE, or a form with a word before its bracket
unfoldable pub worded_part : Parser Value
worded_part = after (Only (k.Word word.Case)) case_then (after Selections selection_then forms_part)

unfoldable pub primary_part : Parser Value
primary_part =
    after Constants (λ a. pure (made s.constant (Word a ∷ [])))
    (after Names named_then
    (after (Only (k.Mark mark.OpenParen)) paren_then
    (after (Only (k.Word word.Cast)) cast_then
    worded_part)))
