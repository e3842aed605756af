use Rattle.std.proofs.Common.{◌≡◌, drop}
use Rattle.xp_poly.specs.Acceptance.{has_nonarray}
use Rattle.xp_poly.proofs.roles.has_nonarray.Given as goal

-- the types from here on answer as all do
abbrev pub invariant-loop-ty : goal.invariant-loop-ty
invariant-loop-ty l = has_nonarray l.c (drop l.ty-index l.declared) ≡ has_nonarray l.c l.declared
