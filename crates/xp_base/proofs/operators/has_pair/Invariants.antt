use Rattle.std.proofs.Common.{◌≡◌, ◌&&◌, ◌||◌, drop}
use Rattle.xp_base.specs.Operators.{begins_with, has_pair}
use Rattle.xp_base.proofs.operators.has_pair.Given as goal

-- a pair that ends at the next byte, or one in the rest
abbrev pub invariant-loop-b : goal.invariant-loop-b
invariant-loop-b l = ((l.follows && begins_with l.second (drop l.b-index l.bytes)) || has_pair l.first l.second (drop l.b-index l.bytes)) ≡ has_pair l.first l.second l.bytes
