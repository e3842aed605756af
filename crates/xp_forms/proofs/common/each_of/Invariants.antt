use Rattle.std.proofs.Common.{◌≡◌, ◌++◌, drop}
use Rattle.xp_forms.specs.Common.{each_of}
use Rattle.xp_forms.proofs.common.each_of.Given as goal

-- those so far, and one for each of the others, are all
abbrev pub invariant-loop-part : goal.invariant-loop-part
invariant-loop-part l = l.targets ++ each_of l.ty (drop l.part-index l.parts) ≡ each_of l.ty l.parts
