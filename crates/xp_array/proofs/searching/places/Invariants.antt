use Rattle.std.proofs.Common.{◌≡◌, ◌++◌, ◌+◌, drop}
use Rattle.xp_array.specs.Searched.{places_from, positions}
use Rattle.xp_array.proofs.searching.places.Given as goal

-- the places so far, and those of what is left of the elements
abbrev pub invariant-loop-i : goal.invariant-loop-i
invariant-loop-i l = l.places ++ places_from (l.i + 1) (drop l.i l.elements) l.value ≡ positions l.elements l.value
