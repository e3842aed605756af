use Rattle.std.proofs.Common.{arith}
use Rattle.xp_resolve.proofs.NodeLists.{all_typed}
use Rattle.xp_resolve.proofs.nodes.are_typed_law.Goals as goal

pub returns : goal.returns
returns c = all_typed c.args.trees.now (λ k d within. c.loop-t.invariant k d (omega (arith, c.loop-t-test.false)))
