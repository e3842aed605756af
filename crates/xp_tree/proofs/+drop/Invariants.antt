use Rattle.std.proofs.Common.{◌≤◌, max, ◌+◌, ◌*◌, length}
use Rattle.xp_tree.specs.Term.{terms}
use Rattle.xp_tree.specs.View.{arms_of, term_of}
use Rattle.xp_tree.specs.inner.Heights.{height, height_all, height_arms, height_within}
use Rattle.xp_tree.proofs.+drop.Given as goal

-- nothing that waits is higher than what is given up
abbrev pub invariant-drops::largest_of_case-arms : goal.invariant-drops::largest_of_case-arms
invariant-drops::largest_of_case-arms l =
    (height l.largest ≤ max (height_arms (arms_of l.initial.arms)) (height l.initial.largest)) × (height_arms (arms_of l.arms) ≤ max (height_arms (arms_of l.initial.arms)) (height l.initial.largest))

abbrev pub decreases-drops::largest_of_case-arms : goal.decreases-drops::largest_of_case-arms
decreases-drops::largest_of_case-arms l = length l.arms

abbrev pub invariant-drops::largest_of-trees : goal.invariant-drops::largest_of-trees
invariant-drops::largest_of-trees l =
    (height_within l.largest ≤ height_all (terms l.initial.trees)) × (height_all (terms l.trees) ≤ height_all (terms l.initial.trees))

abbrev pub decreases-drops::largest_of-trees : goal.decreases-drops::largest_of-trees
decreases-drops::largest_of-trees l = length l.trees

abbrev pub invariant-tree::Tree::drop-down : goal.invariant-tree::Tree::drop-down
invariant-tree::Tree::drop-down l = height l.self ≤ height l.initial.self

abbrev pub decreases-tree::Tree::drop-down : goal.decreases-tree::Tree::drop-down
decreases-tree::Tree::drop-down l = height l.self

-- The size of a tree whose height is h counts as 15 * h + 3 here; each helper lies between the trees that it gives up and the one above them.
abbrev pub decreases-drops::larger : goal.decreases-drops::larger
decreases-drops::larger l = 15 * max (height l.a) (height l.b) + 4

abbrev pub decreases-drops::larger_of : goal.decreases-drops::larger_of
decreases-drops::larger_of l = 15 * max (height_within l.a) (height l.b) + 5

abbrev pub decreases-drops::largest_of : goal.decreases-drops::largest_of
decreases-drops::largest_of l = 15 * height_all (terms l.trees) + 10

abbrev pub decreases-drops::largest_of_case : goal.decreases-drops::largest_of_case
decreases-drops::largest_of_case l = 15 * max (height_arms (arms_of l.arms)) (height l.otherwise) + 10

abbrev pub decreases-drops::largest_part : goal.decreases-drops::largest_part
decreases-drops::largest_part l = 15 * height (term_of l.node)

abbrev pub decreases-tree::Tree::drop : goal.decreases-tree::Tree::drop
decreases-tree::Tree::drop l = goal.size-tree::Tree::drop l
