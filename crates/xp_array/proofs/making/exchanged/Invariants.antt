use Rattle.std.proofs.Common.{◌≡◌, take}
use Rattle.xp_array.specs.Made.{replaced}
use Rattle.xp_array.proofs.making.exchanged.Given as goal

abbrev pub invariant-loop-element : goal.invariant-loop-element
invariant-loop-element l = l.array ≡ replaced (take l.element-index l.elements) l.old l.new
