use Rattle.std.proofs.Common.{◌≡◌, drop}
use Rattle.xp_analyse.specs.Untyped.{first_left}
use Rattle.xp_analyse.specs.inner.Views.{list_in}
use Rattle.xp_analyse.proofs.untyped.first_left.Given as goal

-- the rest decides
abbrev pub invariant-loop-place : goal.invariant-loop-place
invariant-loop-place l = first_left (drop l.place (list_in l.list)) ≡ first_left (list_in l.list)
