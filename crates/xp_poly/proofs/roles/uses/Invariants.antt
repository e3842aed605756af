use Rattle.std.proofs.Common.{◌≡◌, drop}
use Rattle.xp_poly.specs.Acceptance.{uses}
use Rattle.xp_poly.proofs.roles.uses.Given as goal

-- the types from here on answer as all do
abbrev pub invariant-loop-ty : goal.invariant-loop-ty
invariant-loop-ty l = uses l.c l.family (drop l.ty-index l.declared) ≡ uses l.c l.family l.declared
