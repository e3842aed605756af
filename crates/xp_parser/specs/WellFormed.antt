-- What a statement that is parsed keeps for whoever reads it: lists that have something in them, and numbers without a sign (manual 4.1, 4.2).
use Rattle.std.specs.Prelude.{Bool, true, false, ◌&&◌, List, [], ◌∷◌, map, Option, Some, None}
use Rattle.std.specs.List.{list_all}
use Rattle.xp_base.specs.declared.decimal.Dec.{Dec}
use Rattle.xp_token.specs.declared.token.TokenKind.TheVariants as token
use Rattle.xp_token.specs.Lexemes.{seen}
use Rattle.xp_token.specs.Ended.{is_plain}
use Rattle.xp_grammar.specs.declared.types.TypeModifier.{TypeModifier}
use Rattle.xp_grammar.specs.declared.types.TypeModifier.TheVariants as modifier
use Rattle.xp_grammar.specs.declared.types.TypeWords.{TypeWords}
use Rattle.xp_grammar.specs.declared.ast.Ast.{Ast, fold-Ast}
use Rattle.xp_grammar.specs.declared.ast.Ast.TheOpen.{Ast-F, Arm-F}
use Rattle.xp_grammar.specs.declared.statement.Item.{Item}
use Rattle.xp_grammar.specs.declared.statement.SelectArm.{SelectArm}
use Rattle.xp_grammar.specs.declared.statement.Statement.{Statement}
use Rattle.xp_grammar.specs.declared.statement.Statement.TheVariants as s

-- a number isn't negative, and a whole one has no decimals
abbrev pub is_number : Dec → Bool → Bool
is_number value whole = is_plain (seen (token.Number value whole))

abbrev pub is_modifier : TypeModifier → Bool
is_modifier modifier.None = true
is_modifier (modifier.Length at length) = is_number length true
is_modifier (modifier.Digits at precision scale) = is_number precision true && is_number scale true

abbrev pub is_type : TypeWords → Bool
is_type t = is_modifier t.modifier

abbrev pub all : List Bool → Bool
all bs = list_all (λ b. b) bs

-- one at least, and all of them
abbrev pub listed : List Bool → Bool
listed [] = false
listed (b ∷ bs) = b && all bs

abbrev pub if_there : Option Bool → Bool
if_there None = true
if_there (Some b) = b

-- an expression, by its parts
abbrev pub node : Ast-F Bool Bool → Bool
node (Ast-F.Number at value whole) = is_number value whole
node (Ast-F.Wide at) = true
node (Ast-F.Text at text) = true
node (Ast-F.Bool at value) = true
node (Ast-F.Null at) = true
node (Ast-F.Column at name) = true
node (Ast-F.Typed target at text) = is_type target
node (Ast-F.Paren at inner) = inner
node (Ast-F.Call at name args variadic) = all args
node (Ast-F.Cast at inner target) = inner && is_type target
node (Ast-F.Case at operand arms otherwise) = if_there operand && listed arms && if_there otherwise
node (Ast-F.Selection at selection args) = listed args
node (Ast-F.NullIf at left right) = left && right
node (Ast-F.Array at elements) = all elements
node (Ast-F.Position at part whole) = part && whole
node (Ast-F.Substring at args) = listed args
node (Ast-F.SubstringFrom at text from length) = text && if_there from && if_there length
node (Ast-F.Trim at side text set) = text && if_there set
node (Ast-F.TrimFrom at side set text) = if_there set && text
node (Ast-F.Extract at field_at field source) = source
node (Ast-F.Subscript at array index) = array && index
node (Ast-F.Sign at name arg) = arg
node (Ast-F.Power at name left right) = left && right
node (Ast-F.Product at name left right) = left && right
node (Ast-F.Sum at name left right) = left && right
node (Ast-F.Prefix at name arg) = arg
node (Ast-F.Other at name left right) = left && right
node (Ast-F.Between at negated arg low high) = arg && low && high
node (Ast-F.In at negated arg list) = arg && listed list
node (Ast-F.Like at negated any_case left right) = left && right
node (Ast-F.Compare at name left right) = left && right
node (Ast-F.Is at negated test arg) = arg
node (Ast-F.IsDistinct at negated left right) = left && right
node (Ast-F.Not at arg) = arg
node (Ast-F.And at left right) = left && right
node (Ast-F.Or at left right) = left && right

abbrev pub both : Arm-F Bool Bool → Bool
both arm = arm.when && arm.gives

abbrev pub is_expression : Ast → Bool
is_expression = fold-Ast Bool Bool node both

abbrev pub are_shown : List Ast → Bool
are_shown xs = listed (map is_expression xs)

abbrev pub is_item : Item → Bool
is_item item = is_expression item.expr

abbrev pub is_select : SelectArm → Bool
is_select arm = listed (map is_item arm.items)

-- UNION ALL stands between two at least
abbrev pub are_united : List SelectArm → Bool
are_united (a ∷ b ∷ more) = all (map is_select (a ∷ b ∷ more))
are_united _ = false

abbrev pub is_well_formed : Statement → Bool
is_well_formed (s.Select at items) = listed (map is_item items)
is_well_formed (s.UnionAll at arms) = are_united arms
is_well_formed (s.Values at lists) = listed (map are_shown lists)
is_well_formed (s.Store at target source) = is_type target && is_expression source
is_well_formed (s.Describe at exprs) = are_shown exprs
is_well_formed (s.Explain at expr) = is_expression expr
is_well_formed (s.ExplainAnalyze at expr) = is_expression expr
