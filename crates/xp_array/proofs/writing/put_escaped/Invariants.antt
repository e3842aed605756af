use Rattle.std.proofs.Common.{◌≡◌, ◌++◌, take}
use Rattle.xp_array.specs.Written.{escaped}
use Rattle.xp_array.proofs.writing.put_escaped.Given as goal

abbrev pub invariant-loop-c : goal.invariant-loop-c
invariant-loop-c l = l.out ≡ l.initial.out ++ escaped (take l.c-index l.text)
