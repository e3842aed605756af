use Rattle.std.proofs.Common.{◌≡◌, take}
use Rattle.xp_array.specs.Made.{removed}
use Rattle.xp_array.proofs.making.without.Given as goal

abbrev pub invariant-loop-element : goal.invariant-loop-element
invariant-loop-element l = l.array ≡ removed (take l.element-index l.elements) l.value
