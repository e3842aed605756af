use Rattle.std.proofs.Common.{◌≡◌, drop}
use Rattle.xp_depth.specs.Depth.{deep_from, first_deep}
use Rattle.xp_depth.specs.inner.Counted.{seen}
use Rattle.xp_depth.proofs.depth.first_deep.Given as goal

-- the first deep token of the rest is that of all
abbrev pub invariant-loop-at : goal.invariant-loop-at
invariant-loop-at l = deep_from l.at l.before (seen l.groups.part l.groups.outer.items) (drop l.at l.tokens) ≡ first_deep l.fn.tokens
