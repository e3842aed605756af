use Rattle.std.proofs.Common.{◌≡◌, ◌++◌, take}
use Rattle.xp_array.proofs.making.put_all.Given as goal

abbrev pub invariant-loop-value : goal.invariant-loop-value
invariant-loop-value l = l.out ≡ l.initial.out ++ take l.value-index l.values
