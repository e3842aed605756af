-- What is left without a type in a catalogue without the type text: literals and NULL by themselves, and those under IS NULL (manual 10.6; where they are refused is this project's own).
use Rattle.std.specs.Prelude.{ℕ, List, [], ◌∷◌, codes, Option, Some, None}
use Rattle.std.specs.Option.{option_map_or, option_or}
use Rattle.xp_catalog.specs.Contents.{Contents}
use Rattle.xp_catalog.specs.Lookups.{type_named}
use Rattle.xp_grammar.specs.declared.ast.Ast.{Ast, fold-Ast}
use Rattle.xp_grammar.specs.declared.ast.Ast.TheOpen.{Ast-F, Arm-F}
use Rattle.xp_grammar.specs.declared.ast.TruthTest.TheVariants.{Null}
use Rattle.xp_analyse.specs.declared.untyped.Untyped.{Untyped}
use Rattle.xp_analyse.specs.declared.untyped.Untyped.TheVariants.{Nothing, Itself, Within}

-- every form but IS NULL tells the type of its literals: what is left is what one of its parts leaves, the first of them
abbrev pub first_of_two : Untyped → Untyped → Untyped
first_of_two (Within at) other = Within at
first_of_two _ (Within at) = Within at
first_of_two _ _ = Nothing

abbrev pub first_of_all : List Untyped → Untyped
first_of_all [] = Nothing
first_of_all (Within at ∷ parts) = Within at
first_of_all (_ ∷ parts) = first_of_all parts

abbrev pub in_part : Option Untyped → Untyped
in_part None = Nothing
in_part (Some part) = part

-- a literal right under IS NULL stays without a type
abbrev pub under_null : Untyped → Untyped
under_null (Itself at) = Within at
under_null part = part

abbrev pub in_form : Ast-F Untyped Untyped → Untyped
in_form (Ast-F.Number at value whole) = Nothing
in_form (Ast-F.Wide at) = Nothing
in_form (Ast-F.Text at text) = Itself at.start
in_form (Ast-F.Bool at value) = Nothing
in_form (Ast-F.Null at) = Itself at.start
in_form (Ast-F.Column at name) = Nothing
in_form (Ast-F.Typed words at text) = Nothing
in_form (Ast-F.Paren at inner) = inner
in_form (Ast-F.Call at name args variadic) = first_of_all args
in_form (Ast-F.Cast at inner words) = first_of_two inner Nothing
in_form (Ast-F.Case at operand arms otherwise) = first_of_two (in_part operand) (first_of_two (first_of_all arms) (in_part otherwise))
in_form (Ast-F.Selection at which args) = first_of_all args
in_form (Ast-F.NullIf at left right) = first_of_two left right
in_form (Ast-F.Array at elements) = first_of_all elements
in_form (Ast-F.Position at part whole) = first_of_two part whole
in_form (Ast-F.Substring at args) = first_of_all args
in_form (Ast-F.SubstringFrom at text from length) = first_of_two text (first_of_two (in_part from) (in_part length))
in_form (Ast-F.Trim at side text set) = first_of_two text (in_part set)
in_form (Ast-F.TrimFrom at side set text) = first_of_two (in_part set) text
in_form (Ast-F.Extract at field_at field source) = first_of_two source Nothing
in_form (Ast-F.Subscript at array index) = first_of_two array index
in_form (Ast-F.Sign at name arg) = first_of_two arg Nothing
in_form (Ast-F.Prefix at name arg) = first_of_two arg Nothing
in_form (Ast-F.Power at name left right) = first_of_two left right
in_form (Ast-F.Product at name left right) = first_of_two left right
in_form (Ast-F.Sum at name left right) = first_of_two left right
in_form (Ast-F.Other at name left right) = first_of_two left right
in_form (Ast-F.Between at negated arg low high) = first_of_two arg (first_of_two low high)
in_form (Ast-F.In at negated arg list) = first_of_two arg (first_of_all list)
in_form (Ast-F.Like at negated any_case left right) = first_of_two left right
in_form (Ast-F.Compare at name left right) = first_of_two left right
in_form (Ast-F.Is at negated Null arg) = under_null arg
in_form (Ast-F.Is at negated _ arg) = first_of_two arg Nothing
in_form (Ast-F.IsDistinct at negated left right) = first_of_two left right
in_form (Ast-F.Not at arg) = first_of_two arg Nothing
in_form (Ast-F.And at left right) = first_of_two left right
in_form (Ast-F.Or at left right) = first_of_two left right

abbrev pub in_arm : Arm-F Untyped Untyped → Untyped
in_arm arm = first_of_two arm.when arm.gives

abbrev pub untyped : Ast → Untyped
untyped = fold-Ast Untyped Untyped in_form in_arm

-- ---- of a statement

abbrev pub place_in : Untyped → Option ℕ
place_in Nothing = None
place_in (Itself at) = Some at
place_in (Within at) = Some at

abbrev pub first_left : List Ast → Option ℕ
first_left [] = None
first_left (expression ∷ expressions) = option_or (place_in (untyped expression)) (first_left expressions)

-- list by list
abbrev pub some_left : List (List Ast) → Option ℕ
some_left [] = None
some_left (expressions ∷ lists) = option_or (first_left expressions) (some_left lists)

-- where the catalogue has the type text nothing is left
abbrev pub without_text : Contents → Option ℕ → Option ℕ
without_text c None = None
without_text c (Some at) = option_map_or (λ text. None) (type_named c (codes "text")) (Some at)

-- what a STORE leaves: its source itself gets the type in which it is stored
abbrev pub left_behind : Untyped → Option ℕ
left_behind (Within at) = Some at
left_behind _ = None
