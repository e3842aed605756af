use Rattle.std.proofs.Common.{◌≡◌, ◌++◌, drop, reverse}
use Rattle.xp_analyse.specs.Lists.{arms_over}
use Rattle.xp_analyse.proofs.joined.arms_over.Given as goal

-- the arms so far, and the others with what is left, are all
abbrev pub invariant-loop-place : goal.invariant-loop-place
invariant-loop-place l = l.all ++ arms_over (drop l.place l.arms) (reverse l.left) ≡ arms_over (drop 1 l.arms) (reverse l.fn.left)
