-- What an expression means: each form over what its parts mean, which are resolved from left to right, and then the form itself (manual 4.2, 9, 10).
use Rattle.std.specs.Prelude.{ℕ, List, [], ◌∷◌, ◌++◌, codes, false, map, Option, Some, None}
use Rattle.std.specs.Prelude.{option_map}
use Rattle.xp_base.specs.declared.codes.Code.TheVariants as code
use Rattle.xp_base.specs.declared.codes.EvalError.TheVariants.{Limit}
use Rattle.xp_grammar.specs.declared.ast.Ast.{Ast, fold-Ast}
use Rattle.xp_grammar.specs.declared.ast.Ast.TheOpen.{Ast-F, Arm-F}
use Rattle.xp_resolve.specs.declared.order.Order.TheVariants.{AsWritten, Swapped}
use Rattle.xp_resolve.specs.Literals.{named_column, null_literal, number, text_literal, truth}
use Rattle.xp_resolve.specs.Made.{refused}
use Rattle.xp_resolve.specs.Scene.{Scene}
use Rattle.xp_forms.specs.declared.connectives.Connective.TheVariants.{And, Or}
use Rattle.xp_expressions.specs.Branches.{Branch, choice}
use Rattle.xp_expressions.specs.Casts.{cast, typed}
use Rattle.xp_expressions.specs.Composed.{array, between, connective, distinction, inside, like, negation, null_if, selection, subscript, test}
use Rattle.xp_expressions.specs.Operands.{Resolution, optional}
use Rattle.xp_expressions.specs.Words.{function, operator, or_one, trim_name}

-- what an expression is, and where it is an ARRAY without elements, which takes its type of the cast right above it
pub record Meaning : Type 0 where
  pub tree : Resolution
  pub empty : Option ℕ

abbrev pub trees : List Meaning → List Resolution
trees meanings = map (λ (m : Meaning). m.tree) meanings

abbrev pub tree_of : Option Meaning → Option Resolution
tree_of = option_map (λ (m : Meaning). m.tree)

abbrev pub tree : Scene → Ast-F Meaning Branch → Resolution
tree scene (Ast-F.Number at value whole) = number scene at.start value whole
tree scene (Ast-F.Wide at) = λ progress. refused (code.Raised Limit) at.start
tree scene (Ast-F.Text at text) = text_literal scene at.start text
tree scene (Ast-F.Bool at value) = truth scene at.start value
tree scene (Ast-F.Null at) = null_literal scene at.start
tree scene (Ast-F.Column at name) = named_column scene at.start name
tree scene (Ast-F.Typed words at text) = typed scene at words text
tree scene (Ast-F.Paren at inner) = inner.tree
tree scene (Ast-F.Call at name args variadic) = function scene AsWritten at name variadic (trees args)
tree scene (Ast-F.Cast at inner words) = cast scene at words inner.empty inner.tree
tree scene (Ast-F.Case at operand arms otherwise) = choice scene at (tree_of operand) arms (tree_of otherwise)
tree scene (Ast-F.Selection at which args) = selection scene at which (trees args)
tree scene (Ast-F.NullIf at left right) = null_if scene at left.tree right.tree
tree scene (Ast-F.Array at elements) = array scene at (trees elements)
tree scene (Ast-F.Position at part whole) = function scene Swapped at (codes "position") false (part.tree ∷ whole.tree ∷ [])
tree scene (Ast-F.Substring at args) = function scene AsWritten at (codes "substring") false (trees args)
tree scene (Ast-F.SubstringFrom at text from length) =
    function scene AsWritten at (codes "substring") false (text.tree ∷ or_one scene at (tree_of from) ∷ optional (tree_of length))
tree scene (Ast-F.Trim at side text set) = function scene AsWritten at (trim_name side) false (text.tree ∷ optional (tree_of set))
tree scene (Ast-F.TrimFrom at side set text) = function scene Swapped at (trim_name side) false (optional (tree_of set) ++ text.tree ∷ [])
tree scene (Ast-F.Extract at field_at field source) =
    function scene AsWritten at (codes "extract") false (text_literal scene field_at.start field ∷ source.tree ∷ [])
tree scene (Ast-F.Subscript at array index) = subscript scene at array.tree index.tree
tree scene (Ast-F.Sign at name arg) = operator scene at name (arg.tree ∷ [])
tree scene (Ast-F.Power at name left right) = operator scene at name (left.tree ∷ right.tree ∷ [])
tree scene (Ast-F.Product at name left right) = operator scene at name (left.tree ∷ right.tree ∷ [])
tree scene (Ast-F.Sum at name left right) = operator scene at name (left.tree ∷ right.tree ∷ [])
tree scene (Ast-F.Prefix at name arg) = operator scene at name (arg.tree ∷ [])
tree scene (Ast-F.Other at name left right) = operator scene at name (left.tree ∷ right.tree ∷ [])
tree scene (Ast-F.Between at not arg low high) = between scene at not arg.tree low.tree high.tree
tree scene (Ast-F.In at not arg list) = inside scene at not arg.tree (trees list)
tree scene (Ast-F.Like at not any_case left right) = like scene at not any_case left.tree right.tree
tree scene (Ast-F.Compare at name left right) = operator scene at name (left.tree ∷ right.tree ∷ [])
tree scene (Ast-F.Is at not which arg) = test scene at which not arg.tree
tree scene (Ast-F.IsDistinct at not left right) = distinction scene at not left.tree right.tree
tree scene (Ast-F.Not at arg) = negation scene at arg.tree
tree scene (Ast-F.And at left right) = connective scene at And left.tree right.tree
tree scene (Ast-F.Or at left right) = connective scene at Or left.tree right.tree

-- parentheses stand for what is in them
abbrev pub empty : Ast-F Meaning Branch → Option ℕ
empty (Ast-F.Array at []) = Some at.start
empty (Ast-F.Paren at inner) = inner.empty
empty _ = None

abbrev pub node : Scene → Ast-F Meaning Branch → Meaning
node scene form = record { tree = tree scene form; empty = empty form }

abbrev pub branch : Arm-F Meaning Branch → Branch
branch arm = record { at = arm.at; when = arm.when.tree; gives = arm.gives.tree }

abbrev pub meaning : Scene → Ast → Meaning
meaning scene = fold-Ast Meaning Branch (node scene) branch

abbrev pub resolved : Scene → Ast → Resolution
resolved scene ast = (meaning scene ast).tree
