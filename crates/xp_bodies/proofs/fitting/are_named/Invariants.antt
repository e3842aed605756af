use Rattle.std.proofs.Common.{◌≡◌, drop, map}
use Rattle.xp_bodies.specs.Fits.{are_named}
use Rattle.xp_bodies.proofs.fitting.are_named.Given as goal

-- those so far have their names
abbrev pub invariant-loop-i : goal.invariant-loop-i
invariant-loop-i l = are_named l.c l.types (map (λ name. name.now) l.names) ≡ are_named l.c (drop l.i l.types) (map (λ name. name.now) (drop l.i l.names))
