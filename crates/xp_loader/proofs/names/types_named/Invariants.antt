use Rattle.std.proofs.Common.{◌≡◌, drop, map}
use Rattle.xp_loader.proofs.Found.{found_after}
use Rattle.xp_loader.specs.Reading.{types_of}
use Rattle.xp_loader.proofs.names.types_named.Given as goal

-- the rest, behind the types so far, are the types of all
abbrev pub invariant-loop-name : goal.invariant-loop-name
invariant-loop-name l = found_after l.types (types_of l.c (map (λ name. name.now) (drop l.name-index l.names))) ≡ types_of l.c (map (λ name. name.now) l.names)
