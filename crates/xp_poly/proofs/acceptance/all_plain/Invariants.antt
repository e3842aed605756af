use Rattle.std.proofs.Common.{◌≡◌, drop, zip}
use Rattle.std.specs.List.{list_all}
use Rattle.xp_poly.specs.Acceptance.{accepts_plain}
use Rattle.xp_poly.proofs.acceptance.all_plain.Given as goal

-- the pairs from here on answer as all do
abbrev pub invariant-loop-place : goal.invariant-loop-place
invariant-loop-place l = list_all (accepts_plain l.c) (zip (drop l.place l.declared) (drop l.place l.inputs)) ≡ list_all (accepts_plain l.c) (zip l.declared l.inputs)
