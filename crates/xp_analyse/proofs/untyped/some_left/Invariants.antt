use Rattle.std.proofs.Common.{◌≡◌, drop}
use Rattle.xp_analyse.specs.Untyped.{some_left}
use Rattle.xp_analyse.specs.inner.Views.{lists_in}
use Rattle.xp_analyse.proofs.untyped.some_left.Given as goal

-- the rest decides
abbrev pub invariant-loop-place : goal.invariant-loop-place
invariant-loop-place l = some_left (drop l.place (lists_in l.lists)) ≡ some_left (lists_in l.lists)
