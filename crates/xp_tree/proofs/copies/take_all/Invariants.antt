use Rattle.std.proofs.Common.{◌≡◌, ◌++◌, List, drop, take}
use Rattle.xp_tree.specs.Term.{Term}
use Rattle.xp_tree.proofs.copies.take_all.Given as goal

-- the copies so far are the first trees, and those of the rest lie on the stack
abbrev pub invariant-trees : goal.invariant-trees
invariant-trees l =
    (l.copies ≡ take l._tree-index l.trees)
    × ((rest : List Term) × (l.initial.made ≡ l.trees ++ rest) × (l.made ≡ drop l._tree-index l.trees ++ rest))
