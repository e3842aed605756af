-- Connectives, tests, comparisons, BETWEEN, IN, LIKE, selections, ARRAY and subscripts over what their operands mean (manual 4.2.3, 4.2.12, 9.1, 9.2, 9.7.1, 9.18, 9.24.1).
use Rattle.std.specs.Prelude.{ℕ, List, [], ◌∷◌, Bool, codes, length, map, Result}
use Rattle.xp_base.specs.FromLeft.{and_then}
use Rattle.xp_base.specs.declared.codes.Code.TheVariants as code
use Rattle.xp_base.specs.declared.numbers.Span.{Span}
use Rattle.xp_grammar.specs.declared.ast.Selection.{Selection}
use Rattle.xp_grammar.specs.declared.ast.TruthTest.{TruthTest}
use Rattle.xp_named.specs.declared.refusal.Refusal.{Refusal}
use Rattle.xp_resolve.specs.declared.made.Gathered.{Gathered}
use Rattle.xp_resolve.specs.declared.made.Made.{Made}
use Rattle.xp_resolve.specs.declared.made.Part.{Part}
use Rattle.xp_resolve.specs.Made.{refused}
use Rattle.xp_resolve.specs.Scene.{Scene}
use Rattle.xp_forms.specs.declared.connectives.Connective.{Connective}
use Rattle.xp_forms.specs.Arrays.{array_made, subscripted}
use Rattle.xp_forms.specs.Common.{selected}
use Rattle.xp_forms.specs.Connectives.{connected, negated}
use Rattle.xp_forms.specs.Distinct.{distinct, null_if as null_if_over}
use Rattle.xp_forms.specs.Rewritten.{between_connective, by_halves, in_connective, judged, liked, lower_operator, member_operator, upper_operator}
use Rattle.xp_forms.specs.Tests.{tested}
use Rattle.xp_expressions.specs.Operands.{Resolution, over, over_both, over_one}
use Rattle.xp_expressions.specs.Words.{operator}

-- ---- AND, OR, NOT and the tests

abbrev pub connective : Scene → Span → Connective → Resolution → Resolution → Resolution
connective scene at which = over_both (connected scene which at.start)

abbrev pub negation : Scene → Span → Resolution → Resolution
negation scene at = over_one (negated scene at.start)

abbrev pub test : Scene → Span → TruthTest → Bool → Resolution → Resolution
test scene at which not = over_one (tested scene which not at.start)

-- ---- IS DISTINCT FROM, NULLIF, LIKE and ILIKE

abbrev pub distinction : Scene → Span → Bool → Resolution → Resolution → Resolution
distinction scene at not left right = over (distinct scene not at.start) (left ∷ right ∷ [])

abbrev pub null_if : Scene → Span → Resolution → Resolution → Resolution
null_if scene at left right = over (null_if_over scene at.start) (left ∷ right ∷ [])

abbrev pub like : Scene → Span → Bool → Bool → Resolution → Resolution → Resolution
like scene at not any_case left right = over (liked scene not any_case at.start) (left ∷ right ∷ [])

-- ---- BETWEEN: the operand is resolved for each bound

abbrev pub between : Scene → Span → Bool → Resolution → Resolution → Resolution → Resolution
between scene at not operand low high =
    connective scene at (between_connective not)
    (operator scene at (lower_operator not) (operand ∷ low ∷ []))
    (operator scene at (upper_operator not) (operand ∷ high ∷ []))

-- ---- IN: the operand is resolved for each member

abbrev pub member : Scene → Span → Bool → Resolution → Resolution → Resolution
member scene at not operand one = operator scene at (member_operator not) (operand ∷ one ∷ [])

-- no list is empty
abbrev pub without_members : Span → Resolution
without_members at progress = refused code.Undefined at.start

abbrev pub halved : Scene → Span → Bool → ℕ → List Resolution → Resolution
halved scene at not = by_halves (connective scene at (in_connective not)) (without_members at)

-- a single pair stands alone, and has to be a truth value; several are connected by halves
abbrev pub among : Scene → Span → Bool → List Resolution → Resolution
among scene at not (only ∷ []) = over_one (λ before. judged scene at.start) only
among scene at not pairs = halved scene at not (length pairs) pairs

abbrev pub inside : Scene → Span → Bool → Resolution → List Resolution → Resolution
inside scene at not operand list = among scene at not (map (member scene at not operand) list)

-- ---- COALESCE, GREATEST, LEAST and ARRAY

-- no selection is over nothing
abbrev pub selection_of : Scene → Span → Selection → ℕ → Gathered → List Part → Result Made Refusal
selection_of scene at which before operands [] = refused code.Undefined at.start
selection_of scene at which before operands _ = selected scene which at.start before operands

abbrev pub selection : Scene → Span → Selection → List Resolution → Resolution
selection scene at which = over (λ before operands. selection_of scene at which before operands operands.parts)

-- without elements its type is open
abbrev pub array_of : Scene → Span → ℕ → Gathered → List Part → Result Made Refusal
array_of scene at before operands [] = refused code.Indeterminate at.start
array_of scene at before operands _ = array_made scene at.start before operands

abbrev pub array : Scene → Span → List Resolution → Resolution
array scene at = over (λ before operands. array_of scene at before operands operands.parts)

-- the array, and then the index
abbrev pub subscript : Scene → Span → Resolution → Resolution → Resolution
subscript scene at = over_both (subscripted scene at.start)
