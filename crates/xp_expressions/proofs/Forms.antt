-- What each form of an expression means, one law a form.
use Rattle.std.proofs.Common.{◌≡◌, ◌⊎◌, inl, inr, ℕ, List, [], ◌∷◌, ◌++◌, Bool, false, map, codes, Option, Some, None, refl, sym, ap, ◌∙◌}
use Rattle.std.specs.Prelude.{option_map}
use Rattle.xp_base.specs.declared.decimal.Dec.{Dec}
use Rattle.xp_base.specs.declared.numbers.Span.{Span}
use Rattle.xp_grammar.specs.declared.ast.Arm.{Arm}
use Rattle.xp_grammar.specs.declared.ast.Ast.{Ast, roll-Ast, map-Ast}
use Rattle.xp_grammar.specs.declared.ast.Ast.TheVariants as e
use Rattle.xp_grammar.specs.declared.ast.Ast.TheVariants.{rolls-Number, rolls-Column, rolls-Typed, rolls-Cast, rolls-NullIf, rolls-Position, rolls-Extract, rolls-Subscript, rolls-Between, rolls-Like, rolls-Is, rolls-IsDistinct, rolls-Not, rolls-And, rolls-Or, rolls-Call, rolls-Substring, rolls-Selection, rolls-Array, rolls-In, rolls-Sign, rolls-Prefix, rolls-Power, rolls-Product, rolls-Sum, rolls-Other, rolls-Compare, rolls-SubstringFrom, rolls-Trim, rolls-TrimFrom, rolls-Case}
use Rattle.xp_grammar.specs.declared.ast.Ast.TheFolds.{fold-roll-Ast, fold-roll-Arm}
use Rattle.xp_grammar.specs.declared.ast.Ast.TheOpen.{Ast-F}
use Rattle.xp_grammar.specs.declared.ast.Selection.{Selection}
use Rattle.xp_grammar.specs.declared.ast.Side.{Side}
use Rattle.xp_grammar.specs.declared.ast.TruthTest.{TruthTest}
use Rattle.xp_grammar.specs.declared.types.TypeWords.{TypeWords}
use Rattle.xp_resolve.specs.declared.order.Order.TheVariants.{AsWritten, Swapped}
use Rattle.xp_resolve.specs.Literals.{named_column, number, text_literal}
use Rattle.xp_resolve.specs.Scene.{Scene}
use Rattle.xp_forms.specs.declared.connectives.Connective.TheVariants.{And, Or}
use Rattle.xp_expressions.specs.Branches.{Branch, choice}
use Rattle.xp_expressions.specs.Casts.{cast, typed}
use Rattle.xp_expressions.specs.Composed.{array, between, connective, distinction, inside, like, negation, null_if, selection, subscript, test}
use Rattle.xp_expressions.specs.Expressions.{Meaning, branch, meaning, node, resolved, tree, trees}
use Rattle.xp_expressions.specs.Operands.{Resolution, optional}
use Rattle.xp_expressions.specs.Words.{function, operator, or_one, trim_name}
use Rattle.xp_expressions.specs.inner.Arms.{branch_of}

-- a form means what its parts mean
form_is : (scene : Scene) (x : Ast) (layer : Ast-F Ast Arm) → roll-Ast layer ≡ x → resolved scene x ≡ tree scene (map-Ast Ast Arm Meaning Branch (meaning scene) (branch_of scene) layer)
form_is scene x layer is = ap (resolved scene) (sym is) ∙ ap (λ (m : Meaning). m.tree) (fold-roll-Ast Meaning Branch (node scene) branch layer)

-- the trees of several expressions
trees_are : (scene : Scene) (xs : List Ast) → trees (map (meaning scene) xs) ≡ map (resolved scene) xs
trees_are scene [] = refl
trees_are scene (x ∷ xs) = ap (λ rest. resolved scene x ∷ rest) (trees_are scene xs)

-- an arm of CASE means what its parts mean
pub branch_is : (scene : Scene) (arm : Arm) → branch_of scene arm ≡ record { at = arm.at; when = resolved scene arm.when; gives = resolved scene arm.gives }
branch_is scene arm = fold-roll-Arm Meaning Branch (node scene) branch (record { at = arm.at; when = arm.when; gives = arm.gives })

pub number_is : (scene : Scene) (at : Span) (value : Dec) (whole : Bool) → resolved scene (e.Number at value whole) ≡ number scene at.start value whole
number_is scene at value whole = form_is scene (e.Number at value whole) (Ast-F.Number at value whole) (rolls-Number at value whole)

pub column_is : (scene : Scene) (at : Span) (name : List ℕ) → resolved scene (e.Column at name) ≡ named_column scene at.start name
column_is scene at name = form_is scene (e.Column at name) (Ast-F.Column at name) (rolls-Column at name)

pub typed_is : (scene : Scene) (words : TypeWords) (at : Span) (text : List ℕ) → resolved scene (e.Typed words at text) ≡ typed scene at words text
typed_is scene words at text = form_is scene (e.Typed words at text) (Ast-F.Typed words at text) (rolls-Typed words at text)

pub cast_is : (scene : Scene) (at : Span) (inner : Ast) (words : TypeWords) → resolved scene (e.Cast at inner words) ≡ cast scene at words (meaning scene inner).empty (resolved scene inner)
cast_is scene at inner words = form_is scene (e.Cast at inner words) (Ast-F.Cast at inner words) (rolls-Cast at inner words)

pub null_if_is : (scene : Scene) (at : Span) (left right : Ast) → resolved scene (e.NullIf at left right) ≡ null_if scene at (resolved scene left) (resolved scene right)
null_if_is scene at left right = form_is scene (e.NullIf at left right) (Ast-F.NullIf at left right) (rolls-NullIf at left right)

pub position_is : (scene : Scene) (at : Span) (part whole : Ast) → resolved scene (e.Position at part whole) ≡ function scene Swapped at (codes "position") false (resolved scene part ∷ resolved scene whole ∷ [])
position_is scene at part whole = form_is scene (e.Position at part whole) (Ast-F.Position at part whole) (rolls-Position at part whole)

pub extract_is : (scene : Scene) (at field_at : Span) (field : List ℕ) (source : Ast) → resolved scene (e.Extract at field_at field source) ≡ function scene AsWritten at (codes "extract") false (text_literal scene field_at.start field ∷ resolved scene source ∷ [])
extract_is scene at field_at field source = form_is scene (e.Extract at field_at field source) (Ast-F.Extract at field_at field source) (rolls-Extract at field_at field source)

pub subscript_is : (scene : Scene) (at : Span) (array index : Ast) → resolved scene (e.Subscript at array index) ≡ subscript scene at (resolved scene array) (resolved scene index)
subscript_is scene at array index = form_is scene (e.Subscript at array index) (Ast-F.Subscript at array index) (rolls-Subscript at array index)

pub between_is : (scene : Scene) (at : Span) (negated : Bool) (arg low high : Ast) → resolved scene (e.Between at negated arg low high) ≡ between scene at negated (resolved scene arg) (resolved scene low) (resolved scene high)
between_is scene at negated arg low high = form_is scene (e.Between at negated arg low high) (Ast-F.Between at negated arg low high) (rolls-Between at negated arg low high)

pub like_is : (scene : Scene) (at : Span) (negated any_case : Bool) (left right : Ast) → resolved scene (e.Like at negated any_case left right) ≡ like scene at negated any_case (resolved scene left) (resolved scene right)
like_is scene at negated any_case left right = form_is scene (e.Like at negated any_case left right) (Ast-F.Like at negated any_case left right) (rolls-Like at negated any_case left right)

pub is_is : (scene : Scene) (at : Span) (negated : Bool) (which : TruthTest) (arg : Ast) → resolved scene (e.Is at negated which arg) ≡ test scene at which negated (resolved scene arg)
is_is scene at negated which arg = form_is scene (e.Is at negated which arg) (Ast-F.Is at negated which arg) (rolls-Is at negated which arg)

pub is_distinct_is : (scene : Scene) (at : Span) (negated : Bool) (left right : Ast) → resolved scene (e.IsDistinct at negated left right) ≡ distinction scene at negated (resolved scene left) (resolved scene right)
is_distinct_is scene at negated left right = form_is scene (e.IsDistinct at negated left right) (Ast-F.IsDistinct at negated left right) (rolls-IsDistinct at negated left right)

pub not_is : (scene : Scene) (at : Span) (arg : Ast) → resolved scene (e.Not at arg) ≡ negation scene at (resolved scene arg)
not_is scene at arg = form_is scene (e.Not at arg) (Ast-F.Not at arg) (rolls-Not at arg)

pub and_is : (scene : Scene) (at : Span) (left right : Ast) → resolved scene (e.And at left right) ≡ connective scene at And (resolved scene left) (resolved scene right)
and_is scene at left right = form_is scene (e.And at left right) (Ast-F.And at left right) (rolls-And at left right)

pub or_is : (scene : Scene) (at : Span) (left right : Ast) → resolved scene (e.Or at left right) ≡ connective scene at Or (resolved scene left) (resolved scene right)
or_is scene at left right = form_is scene (e.Or at left right) (Ast-F.Or at left right) (rolls-Or at left right)

pub call_is : (scene : Scene) (at : Span) (name : List ℕ) (args : List Ast) (variadic : Bool) → resolved scene (e.Call at name args variadic) ≡ function scene AsWritten at name variadic (map (resolved scene) args)
call_is scene at name args variadic = form_is scene (e.Call at name args variadic) (Ast-F.Call at name args variadic) (rolls-Call at name args variadic) ∙ ap (λ all. function scene AsWritten at name variadic all) (trees_are scene args)

pub substring_is : (scene : Scene) (at : Span) (args : List Ast) → resolved scene (e.Substring at args) ≡ function scene AsWritten at (codes "substring") false (map (resolved scene) args)
substring_is scene at args = form_is scene (e.Substring at args) (Ast-F.Substring at args) (rolls-Substring at args) ∙ ap (λ all. function scene AsWritten at (codes "substring") false all) (trees_are scene args)

pub selection_is : (scene : Scene) (at : Span) (which : Selection) (args : List Ast) → resolved scene (e.Selection at which args) ≡ selection scene at which (map (resolved scene) args)
selection_is scene at which args = form_is scene (e.Selection at which args) (Ast-F.Selection at which args) (rolls-Selection at which args) ∙ ap (λ all. selection scene at which all) (trees_are scene args)

pub array_is : (scene : Scene) (at : Span) (elements : List Ast) → resolved scene (e.Array at elements) ≡ array scene at (map (resolved scene) elements)
array_is scene at elements = form_is scene (e.Array at elements) (Ast-F.Array at elements) (rolls-Array at elements) ∙ ap (λ all. array scene at all) (trees_are scene elements)

pub in_is : (scene : Scene) (at : Span) (negated : Bool) (arg : Ast) (list : List Ast) → resolved scene (e.In at negated arg list) ≡ inside scene at negated (resolved scene arg) (map (resolved scene) list)
in_is scene at negated arg list = form_is scene (e.In at negated arg list) (Ast-F.In at negated arg list) (rolls-In at negated arg list) ∙ ap (λ all. inside scene at negated (resolved scene arg) all) (trees_are scene list)

sign_is : (scene : Scene) (at : Span) (name : List ℕ) (arg : Ast) → resolved scene (e.Sign at name arg) ≡ operator scene at name (resolved scene arg ∷ [])
sign_is scene at name arg = form_is scene (e.Sign at name arg) (Ast-F.Sign at name arg) (rolls-Sign at name arg)

prefix_is : (scene : Scene) (at : Span) (name : List ℕ) (arg : Ast) → resolved scene (e.Prefix at name arg) ≡ operator scene at name (resolved scene arg ∷ [])
prefix_is scene at name arg = form_is scene (e.Prefix at name arg) (Ast-F.Prefix at name arg) (rolls-Prefix at name arg)

power_is : (scene : Scene) (at : Span) (name : List ℕ) (left right : Ast) → resolved scene (e.Power at name left right) ≡ operator scene at name (resolved scene left ∷ resolved scene right ∷ [])
power_is scene at name left right = form_is scene (e.Power at name left right) (Ast-F.Power at name left right) (rolls-Power at name left right)

product_is : (scene : Scene) (at : Span) (name : List ℕ) (left right : Ast) → resolved scene (e.Product at name left right) ≡ operator scene at name (resolved scene left ∷ resolved scene right ∷ [])
product_is scene at name left right = form_is scene (e.Product at name left right) (Ast-F.Product at name left right) (rolls-Product at name left right)

sum_is : (scene : Scene) (at : Span) (name : List ℕ) (left right : Ast) → resolved scene (e.Sum at name left right) ≡ operator scene at name (resolved scene left ∷ resolved scene right ∷ [])
sum_is scene at name left right = form_is scene (e.Sum at name left right) (Ast-F.Sum at name left right) (rolls-Sum at name left right)

other_is : (scene : Scene) (at : Span) (name : List ℕ) (left right : Ast) → resolved scene (e.Other at name left right) ≡ operator scene at name (resolved scene left ∷ resolved scene right ∷ [])
other_is scene at name left right = form_is scene (e.Other at name left right) (Ast-F.Other at name left right) (rolls-Other at name left right)

compare_is : (scene : Scene) (at : Span) (name : List ℕ) (left right : Ast) → resolved scene (e.Compare at name left right) ≡ operator scene at name (resolved scene left ∷ resolved scene right ∷ [])
compare_is scene at name left right = form_is scene (e.Compare at name left right) (Ast-F.Compare at name left right) (rolls-Compare at name left right)

pub substring_from_is : (scene : Scene) (at : Span) (text : Ast) (from length : Option Ast) → resolved scene (e.SubstringFrom at text from length) ≡ function scene AsWritten at (codes "substring") false (resolved scene text ∷ or_one scene at (option_map (resolved scene) from) ∷ optional (option_map (resolved scene) length))
substring_from_is scene at text None None = form_is scene (e.SubstringFrom at text None None) (Ast-F.SubstringFrom at text None None) (rolls-SubstringFrom at text None None)
substring_from_is scene at text None (Some length) = form_is scene (e.SubstringFrom at text None (Some length)) (Ast-F.SubstringFrom at text None (Some length)) (rolls-SubstringFrom at text None (Some length))
substring_from_is scene at text (Some from) None = form_is scene (e.SubstringFrom at text (Some from) None) (Ast-F.SubstringFrom at text (Some from) None) (rolls-SubstringFrom at text (Some from) None)
substring_from_is scene at text (Some from) (Some length) = form_is scene (e.SubstringFrom at text (Some from) (Some length)) (Ast-F.SubstringFrom at text (Some from) (Some length)) (rolls-SubstringFrom at text (Some from) (Some length))

pub trim_is : (scene : Scene) (at : Span) (side : Option Side) (text : Ast) (set : Option Ast) → resolved scene (e.Trim at side text set) ≡ function scene AsWritten at (trim_name side) false (resolved scene text ∷ optional (option_map (resolved scene) set))
trim_is scene at side text None = form_is scene (e.Trim at side text None) (Ast-F.Trim at side text None) (rolls-Trim at side text None)
trim_is scene at side text (Some set) = form_is scene (e.Trim at side text (Some set)) (Ast-F.Trim at side text (Some set)) (rolls-Trim at side text (Some set))

pub trim_from_is : (scene : Scene) (at : Span) (side : Option Side) (set : Option Ast) (text : Ast) → resolved scene (e.TrimFrom at side set text) ≡ function scene Swapped at (trim_name side) false (optional (option_map (resolved scene) set) ++ resolved scene text ∷ [])
trim_from_is scene at side None text = form_is scene (e.TrimFrom at side None text) (Ast-F.TrimFrom at side None text) (rolls-TrimFrom at side None text)
trim_from_is scene at side (Some set) text = form_is scene (e.TrimFrom at side (Some set) text) (Ast-F.TrimFrom at side (Some set) text) (rolls-TrimFrom at side (Some set) text)

pub case_is : (scene : Scene) (at : Span) (operand : Option Ast) (arms : List Arm) (otherwise : Option Ast) → resolved scene (e.Case at operand arms otherwise) ≡ choice scene at (option_map (resolved scene) operand) (map (branch_of scene) arms) (option_map (resolved scene) otherwise)
case_is scene at None arms None = form_is scene (e.Case at None arms None) (Ast-F.Case at None arms None) (rolls-Case at None arms None)
case_is scene at None arms (Some otherwise) = form_is scene (e.Case at None arms (Some otherwise)) (Ast-F.Case at None arms (Some otherwise)) (rolls-Case at None arms (Some otherwise))
case_is scene at (Some operand) arms None = form_is scene (e.Case at (Some operand) arms None) (Ast-F.Case at (Some operand) arms None) (rolls-Case at (Some operand) arms None)
case_is scene at (Some operand) arms (Some otherwise) = form_is scene (e.Case at (Some operand) arms (Some otherwise)) (Ast-F.Case at (Some operand) arms (Some otherwise)) (rolls-Case at (Some operand) arms (Some otherwise))

-- ---- operators

pub one_operand : (scene : Scene) (ast : Ast) (at : Span) (name : List ℕ) (arg : Ast)
    → (ast ≡ e.Sign at name arg) ⊎ (ast ≡ e.Prefix at name arg) → resolved scene ast ≡ operator scene at name (resolved scene arg ∷ [])
one_operand scene ast at name arg (inl is) = ap (resolved scene) is ∙ sign_is scene at name arg
one_operand scene ast at name arg (inr is) = ap (resolved scene) is ∙ prefix_is scene at name arg

pub two_operands : (scene : Scene) (ast : Ast) (at : Span) (name : List ℕ) (left right : Ast)
    → (ast ≡ e.Power at name left right) ⊎ ((ast ≡ e.Product at name left right) ⊎ ((ast ≡ e.Sum at name left right) ⊎ ((ast ≡ e.Other at name left right) ⊎ (ast ≡ e.Compare at name left right))))
    → resolved scene ast ≡ operator scene at name (resolved scene left ∷ resolved scene right ∷ [])
two_operands scene ast at name left right (inl is) = ap (resolved scene) is ∙ power_is scene at name left right
two_operands scene ast at name left right (inr (inl is)) = ap (resolved scene) is ∙ product_is scene at name left right
two_operands scene ast at name left right (inr (inr (inl is))) = ap (resolved scene) is ∙ sum_is scene at name left right
two_operands scene ast at name left right (inr (inr (inr (inl is)))) = ap (resolved scene) is ∙ other_is scene at name left right
two_operands scene ast at name left right (inr (inr (inr (inr is)))) = ap (resolved scene) is ∙ compare_is scene at name left right
