use Rattle.std.proofs.Common.{◌≡◌, take}
use Rattle.xp_value.proofs.+copy.Given as goal

-- the copies so far are the first values
abbrev pub invariant-copies::copy_all-values : goal.invariant-copies::copy_all-values
invariant-copies::copy_all-values l = l.copies ≡ take l.value-index l.values
