use Rattle.std.proofs.Common.{rules}
use Rattle.xp_call.specs.Calls.{is_built}
use Rattle.xp_tree.specs.Term.{conjunction, disjunction, distinct, null_if}
use Rattle.xp_tree.specs.View.{arms_of}
use Rattle.xp_eval.proofs.Rest.{case_evaluable, two_evaluable}
use Rattle.xp_eval.proofs.constants.+early.Goals as goal

pub first_of-first_unless-requires : goal.first_of-first_unless-requires
first_of-first_unless-requires t c =
    (search rules, two_evaluable is_built conjunction c.in-And.left c.in-And.right c.in-And.ty (rw (c.top.ensures.value, c.in-And.is) at c.requires))

pub first_of-first_unless-requires-in-Or : goal.first_of-first_unless-requires-in-Or
first_of-first_unless-requires-in-Or t c =
    (search rules, two_evaluable is_built disjunction c.in-Or.left c.in-Or.right c.in-Or.ty (rw (c.top.ensures.value, c.in-Or.is) at c.requires))

pub first_of-first_of_both-requires : goal.first_of-first_of_both-requires
first_of-first_of_both-requires t c =
    (search rules, two_evaluable is_built (null_if c.in-NullIf.callee) c.in-NullIf.left c.in-NullIf.right c.in-NullIf.ty (rw (c.top.ensures.value, c.in-NullIf.is) at c.requires))

pub first_of-first_of_both-requires-in-Distinct : goal.first_of-first_of_both-requires-in-Distinct
first_of-first_of_both-requires-in-Distinct t c =
    (search rules, two_evaluable is_built (distinct c.in-Distinct.callee) c.in-Distinct.left c.in-Distinct.right c.in-Distinct.ty (rw (c.top.ensures.value, c.in-Distinct.is) at c.requires))

pub first_of-first_of_arms-requires : goal.first_of-first_of_arms-requires
first_of-first_of_arms-requires t c =
    (search rules, rw c.as_slice.ensures (case_evaluable is_built (arms_of c.in-Case.arms) c.in-Case.otherwise c.in-Case.ty (rw (c.top.ensures.value, c.in-Case.is) at c.requires)))
