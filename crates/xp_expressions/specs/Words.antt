-- Operators, functions, and functions that are written by words (manual 4.2.5, 4.2.6, 9.4, 9.9).
use Rattle.std.specs.Prelude.{ℕ, ◌^◌, List, Bool, true, false, codes, refl, Option, Some, None}
use Rattle.std.proofs.lemmas.Bool.{ltb-true, leb-true, false≢true}
use Rattle.xp_base.specs.declared.decimal.Dec.{Dec}
use Rattle.xp_base.specs.declared.numbers.Span.{Span}
use Rattle.xp_grammar.specs.declared.ast.Side.{Side}
use Rattle.xp_grammar.specs.declared.ast.Side.TheVariants.{Both, Leading, Trailing}
use Rattle.xp_resolve.specs.declared.order.Order.{Order}
use Rattle.xp_resolve.specs.Calls.{called}
use Rattle.xp_resolve.specs.Literals.{number}
use Rattle.xp_resolve.specs.Operators.{operated}
use Rattle.xp_resolve.specs.Scene.{Scene}
use Rattle.xp_expressions.specs.Operands.{Resolution, over}

-- the operator of that name over one operand, or over left and right
abbrev pub operator : Scene → Span → List ℕ → List Resolution → Resolution
operator scene at name = over (operated scene at.start name)

-- a call of the function of that name
abbrev pub function : Scene → Order → Span → List ℕ → Bool → List Resolution → Resolution
function scene order at name variadic = over (called scene order at.start name variadic)

abbrev pub one : Dec
one = record {
  neg = false;
  coef = 1;
  scale = 0;
  digits = ltb-true 1 (10 ^ 38) refl;
  decimals = leb-true 0 38 refl;
  no_negative_zero = λ never. absurd (false≢true never);
}

-- where FROM is left out it is 1
abbrev pub or_one : Scene → Span → Option Resolution → Resolution
or_one scene at None = number scene at.start one true
or_one scene at (Some operand) = operand

-- without a side it is BOTH
abbrev pub trim_name : Option Side → List ℕ
trim_name None = codes "btrim"
trim_name (Some Both) = codes "btrim"
trim_name (Some Leading) = codes "ltrim"
trim_name (Some Trailing) = codes "rtrim"
