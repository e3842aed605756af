use Rattle.std.proofs.Common.{◌≡◌, drop, ◌+◌, ◌*◌}
use Rattle.xp_tree.specs.Term.{terms}
use Rattle.xp_tree.specs.View.{arms_of}
use Rattle.xp_tree.specs.inner.Heights.{height, height_all, height_arms}
use Rattle.xp_analyse.specs.Domains as spec
use Rattle.xp_analyse.proofs.domains.+domains.Given as goal

-- the rest decides
abbrev pub invariant-some_have_domain-trees : goal.invariant-some_have_domain-trees
invariant-some_have_domain-trees l = spec.some_have_domain (terms (drop l.tree-index l.trees)) ≡ spec.some_have_domain (terms l.trees)

abbrev pub invariant-arms_have_domain-arms : goal.invariant-arms_have_domain-arms
invariant-arms_have_domain-arms l = spec.arms_have_domain (arms_of (drop l.arm-index l.arms)) ≡ spec.arms_have_domain (arms_of l.arms)

abbrev pub decreases-has_domain : goal.decreases-has_domain
decreases-has_domain l = 2 * height l.tree.now

abbrev pub decreases-some_have_domain : goal.decreases-some_have_domain
decreases-some_have_domain l = 2 * height_all (terms l.trees.now) + 1

abbrev pub decreases-arms_have_domain : goal.decreases-arms_have_domain
decreases-arms_have_domain l = 2 * height_arms (arms_of l.arms.now) + 1
