-- Where an expression begins.
use Rattle.std.specs.Prelude.{ℕ, min}
use Rattle.xp_grammar.specs.declared.ast.Ast.{Ast, fold-Ast}
use Rattle.xp_grammar.specs.declared.ast.Ast.TheOpen.{Ast-F}

-- the first byte of a form: an operand that stands before its operator, or the form's first word
abbrev pub first_of_form : Ast-F ℕ (Unit {0}) → ℕ
first_of_form (Ast-F.Number at value whole) = at.start
first_of_form (Ast-F.Wide at) = at.start
first_of_form (Ast-F.Text at text) = at.start
first_of_form (Ast-F.Bool at value) = at.start
first_of_form (Ast-F.Null at) = at.start
first_of_form (Ast-F.Column at name) = at.start
first_of_form (Ast-F.Typed words at text) = words.at.start
first_of_form (Ast-F.Paren at inner) = at.start
first_of_form (Ast-F.Call at name args variadic) = at.start
first_of_form (Ast-F.Cast at inner words) = min at.start inner
first_of_form (Ast-F.Case at operand arms otherwise) = at.start
first_of_form (Ast-F.Selection at selection args) = at.start
first_of_form (Ast-F.NullIf at left right) = at.start
first_of_form (Ast-F.Array at elements) = at.start
first_of_form (Ast-F.Position at part whole) = at.start
first_of_form (Ast-F.Substring at args) = at.start
first_of_form (Ast-F.SubstringFrom at text from length) = at.start
first_of_form (Ast-F.Trim at side text set) = at.start
first_of_form (Ast-F.TrimFrom at side set text) = at.start
first_of_form (Ast-F.Extract at field_at field source) = at.start
first_of_form (Ast-F.Subscript at array index) = array
first_of_form (Ast-F.Sign at name arg) = at.start
first_of_form (Ast-F.Power at name left right) = left
first_of_form (Ast-F.Product at name left right) = left
first_of_form (Ast-F.Sum at name left right) = left
first_of_form (Ast-F.Prefix at name arg) = at.start
first_of_form (Ast-F.Other at name left right) = left
first_of_form (Ast-F.Between at negated arg low high) = arg
first_of_form (Ast-F.In at negated arg list) = arg
first_of_form (Ast-F.Like at negated any_case left right) = left
first_of_form (Ast-F.Compare at name left right) = left
first_of_form (Ast-F.Is at negated test arg) = arg
first_of_form (Ast-F.IsDistinct at negated left right) = left
first_of_form (Ast-F.Not at arg) = at.start
first_of_form (Ast-F.And at left right) = left
first_of_form (Ast-F.Or at left right) = left

abbrev pub first_of : Ast → ℕ
first_of = fold-Ast ℕ (Unit {0}) first_of_form (λ arm. tt)
