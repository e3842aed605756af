use Rattle.std.proofs.Common.{◌≡◌, ◌+◌, drop}
use Rattle.std.specs.Prelude.{option_map}
use Rattle.xp_array.specs.Searched.{position}
use Rattle.xp_array.proofs.searching.first_place.Given as goal

-- what is left of the elements decides
abbrev pub invariant-loop-i : goal.invariant-loop-i
invariant-loop-i l = position l.elements l.value ≡ option_map (λ place. place + l.i) (position (drop l.i l.elements) l.value)
