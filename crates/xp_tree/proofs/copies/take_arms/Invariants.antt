use Rattle.std.proofs.Common.{◌≡◌, ◌++◌, List, drop, take}
use Rattle.xp_tree.specs.Term.{Term}
use Rattle.xp_tree.specs.View.{arms_of}
use Rattle.xp_tree.specs.inner.Order.{list_of_arms}
use Rattle.xp_tree.proofs.copies.take_arms.Given as goal

-- the copies so far are the first arms, and those of the rest lie on the stack
abbrev pub invariant-arms : goal.invariant-arms
invariant-arms l =
    (l.copies ≡ take l._arm-index l.arms)
    × ((rest : List Term) × (l.initial.made ≡ list_of_arms (arms_of l.arms) ++ rest) × (l.made ≡ list_of_arms (arms_of (drop l._arm-index l.arms)) ++ rest))
