use Rattle.std.proofs.Common.{◌≡◌, drop}
use Rattle.std.specs.List.{All}
use Rattle.xp_analyse.specs.Statements.{some_unready}
use Rattle.xp_analyse.specs.inner.Views.{lists_in}
use Rattle.xp_analyse.proofs.Readying.{IsReady}
use Rattle.xp_analyse.proofs.ready.some_unready.Given as goal

-- the rest decides
abbrev pub invariant-loop-place : goal.invariant-loop-place
invariant-loop-place l = record {
  place : some_unready (drop l.place (lists_in l.lists)) (drop l.place l.trees) ≡ some_unready (lists_in l.lists) l.trees;
  ready : All IsReady (drop l.place l.trees) → All IsReady l.trees;
}
