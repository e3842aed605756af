use Rattle.std.proofs.Common.{arith}
use Rattle.xp_parser.proofs.ChainLaws.{chain_turn}
use Rattle.xp_parser.proofs.grammar.Grammar.more.Goals as goal

pub operands-smaller : goal.operands-smaller
operands-smaller g c = omega (arith, c.in-Some.ensures.fewer, c.in_ok-right.ensures.fewer)

pub operands-preserved : goal.operands-preserved
operands-preserved g c = record {
  same = chain_turn _ _ _ _ _ _ _ _ _ _ _ c.operator.ensures c.operand.ensures c.operands.invariant.same c.in-Some.ensures.value c.in_ok-right.ensures.value c.in_ok-left.ensures;
  fewer = omega (arith, c.operands.invariant.fewer, c.in-Some.ensures.fewer, c.in_ok-right.ensures.fewer);
}
