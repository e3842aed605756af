use Rattle.std.proofs.Common.{◌≡◌, ◌++◌, ◌∷◌, [], take}
use Rattle.std.specs.Prelude.{flat_map}
use Rattle.xp_array.specs.Marks.{comma}
use Rattle.xp_array.specs.Written.{element_text}
use Rattle.xp_array.proofs.writing.put_others.Given as goal

abbrev pub invariant-loop-text : goal.invariant-loop-text
invariant-loop-text l = l.out ≡ l.initial.out ++ flat_map (λ text. (comma ∷ []) ++ element_text text) (take l.text-index l.texts)
