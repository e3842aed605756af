use Rattle.std.proofs.Common.{length, ap, arith}
use Rattle.xp_parser.proofs.OperandLaws.{cast_less, cast_turn, bracket_less, bracket_turn}
use Rattle.xp_parser.proofs.grammar.Grammar.operand.Goals as goal

pub turns-smaller-in-Some : goal.turns-smaller-in-Some
turns-smaller-in-Some g c = omega (arith, c.in-Some.ensures.fewer, cast_less _ _ _ _ _ c.in_ok-operand-in-Some.ensures)

pub turns-preserved-in-Some : goal.turns-preserved-in-Some
turns-preserved-in-Some g c = record {
  same = cast_turn _ _ _ _ _ _ _ c.turns.invariant.same c.in-Some.ensures.value c.in_ok-operand-in-Some.ensures;
  fewer = omega (arith, c.turns.invariant.fewer, c.in-Some.ensures.fewer, cast_less _ _ _ _ _ c.in_ok-operand-in-Some.ensures);
}

pub turns-smaller : goal.turns-smaller
turns-smaller g c = omega (arith, ap length c.in-None.ensures.fewer, c.in-Some-eat.ensures.fewer, bracket_less _ _ _ _ _ c.in_ok-operand-in-Some-eat.ensures)

pub turns-preserved : goal.turns-preserved
turns-preserved g c = record {
  same = bracket_turn _ _ _ _ _ _ _ _ c.turns.invariant.same c.in-None.ensures.value c.in-Some-eat.ensures.value c.in_ok-operand-in-Some-eat.ensures;
  fewer = omega (arith, c.turns.invariant.fewer, ap length c.in-None.ensures.fewer, c.in-Some-eat.ensures.fewer, bracket_less _ _ _ _ _ c.in_ok-operand-in-Some-eat.ensures);
}
