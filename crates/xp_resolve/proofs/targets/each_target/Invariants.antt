use Rattle.std.proofs.Common.{◌≡◌, [], drop, zip}
use Rattle.std.specs.List.{All}
use Rattle.xp_resolve.specs.Targets.{targets}
use Rattle.xp_resolve.specs.inner.Sources.{IsTarget}
use Rattle.xp_resolve.proofs.targets.each_target.Given as goal

-- the targets so far, and those of what is left, are all
abbrev pub invariant-loop-place : goal.invariant-loop-place
invariant-loop-place l = record {
  within : All (IsTarget l.c) l.list;
  says : targets l.taking l.c l.variadic l.list (zip (drop l.place l.declared) (drop l.place l.types)) ≡ targets l.taking l.c l.variadic [] (zip l.declared l.types);
}
