-- AND, OR and NOT over operands that are resolved (manual 9.1).
use Rattle.std.specs.Prelude.{ℕ, Result}
use Rattle.xp_base.specs.FromLeft.{and_then}
use Rattle.xp_tree.specs.Term.{Two, conjunction, disjunction, negation, one, two}
use Rattle.xp_named.specs.declared.refusal.Refusal.{Refusal}
use Rattle.xp_coerce.specs.Types.{node_type}
use Rattle.xp_resolve.specs.declared.made.Made.{Made}
use Rattle.xp_resolve.specs.Made.{finished}
use Rattle.xp_resolve.specs.Scene.{Scene}
use Rattle.xp_forms.specs.declared.connectives.Connective.{Connective}
use Rattle.xp_forms.specs.declared.connectives.Connective.TheVariants.{And, Or}
use Rattle.xp_forms.specs.declared.operands.Both.{Both}
use Rattle.xp_forms.specs.Truths.{as_truth, bool_type}

abbrev pub joining : Connective → Two
joining And = conjunction
joining Or = disjunction

-- AND or OR: the left operand and then the right one as truth values, beside trees of `before` nodes
abbrev pub connected : Scene → Connective → ℕ → ℕ → Both → Result Made Refusal
connected scene connective at before operands =
    and_then (bool_type scene.c at) (λ bool.
    and_then (as_truth scene at operands.progress.nodes bool operands.left) (λ left.
    and_then (as_truth scene at left.nodes bool operands.right) (λ right.
    finished scene at before operands.progress.uses (two (joining connective) left.tree right.tree (node_type scene.c bool)))))

-- NOT
abbrev pub negated : Scene → ℕ → ℕ → Made → Result Made Refusal
negated scene at before operand =
    and_then (bool_type scene.c at) (λ bool.
    and_then (as_truth scene at operand.progress.nodes bool operand.part) (λ a.
    finished scene at before operand.progress.uses (one negation a.tree (node_type scene.c bool))))
