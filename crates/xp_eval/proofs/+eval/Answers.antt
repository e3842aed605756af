use Rattle.std.proofs.Common.{rules, sym, subst, ◌∙◌}
use Rattle.xp_call.specs.Calls.{is_built}
use Rattle.xp_meaning.specs.Meaning.{outcome}
use Rattle.xp_meaning.specs.Nodes.{distinct_of}
use Rattle.xp_tree.specs.Term.{conjunction, disjunction, distinct, null_if}
use Rattle.xp_tree.specs.View.{arms_of}
use Rattle.xp_eval.specs.Real.{real}
use Rattle.xp_eval.specs.inner.Steps.{Steps}
use Rattle.xp_eval.proofs.Called.{over_answer}
use Rattle.xp_eval.proofs.Connected.{pair}
use Rattle.xp_eval.proofs.Rest.{case_evaluable, two_evaluable}
use Rattle.xp_eval.proofs.+eval.Goals as goal

pub connectives::eval_distinct-returns : goal.connectives::eval_distinct-returns
connectives::eval_distinct-returns t c =
    pair (distinct_of real c.args.callee.now) (outcome real c.args.row.now c.args.given.now c.args.left.now) (outcome real c.args.row.now c.args.given.now c.args.right.now) c.in_ok-x.x c.in_ok-y.y c.distinct.result c.in_ok-x.ensures c.in_ok-y.ensures c.distinct.ensures

pub walk::eval_given-eval_and-requires : goal.walk::eval_given-eval_and-requires
walk::eval_given-eval_and-requires t c =
    (search rules, two_evaluable is_built conjunction c.in-And.left c.in-And.right c.in-And.ty (rw (c.top.ensures.value, c.in-And.is) at c.requires))

pub walk::eval_given-eval_or-requires : goal.walk::eval_given-eval_or-requires
walk::eval_given-eval_or-requires t c =
    (search rules, two_evaluable is_built disjunction c.in-Or.left c.in-Or.right c.in-Or.ty (rw (c.top.ensures.value, c.in-Or.is) at c.requires))

pub walk::eval_given-eval_null_if-requires : goal.walk::eval_given-eval_null_if-requires
walk::eval_given-eval_null_if-requires t c =
    (search rules, two_evaluable is_built (null_if c.in-NullIf.callee) c.in-NullIf.left c.in-NullIf.right c.in-NullIf.ty (rw (c.top.ensures.value, c.in-NullIf.is) at c.requires))

pub walk::eval_given-eval_distinct-requires : goal.walk::eval_given-eval_distinct-requires
walk::eval_given-eval_distinct-requires t c =
    (search rules, two_evaluable is_built (distinct c.in-Distinct.callee) c.in-Distinct.left c.in-Distinct.right c.in-Distinct.ty (rw (c.top.ensures.value, c.in-Distinct.is) at c.requires))

pub walk::eval_given-eval_case-requires : goal.walk::eval_given-eval_case-requires
walk::eval_given-eval_case-requires t c =
    (search rules, rw c.as_slice-in-Case.ensures (case_evaluable is_built (arms_of c.in-Case.arms) c.in-Case.otherwise c.in-Case.ty (rw (c.top.ensures.value, c.in-Case.is) at c.requires)))

pub walk::eval_given-returns-in-And : goal.walk::eval_given-returns-in-And
walk::eval_given-returns-in-And t c = rw (c.top.ensures.value, c.in-And.is) c.eval_and.ensures

pub walk::eval_given-returns-in-Or : goal.walk::eval_given-returns-in-Or
walk::eval_given-returns-in-Or t c = rw (c.top.ensures.value, c.in-Or.is) c.eval_or.ensures

pub walk::eval_given-returns-in-NullIf : goal.walk::eval_given-returns-in-NullIf
walk::eval_given-returns-in-NullIf t c = rw (c.top.ensures.value, c.in-NullIf.is) c.eval_null_if.ensures

pub walk::eval_given-returns-in-Distinct : goal.walk::eval_given-returns-in-Distinct
walk::eval_given-returns-in-Distinct t c = rw (c.top.ensures.value, c.in-Distinct.is) c.eval_distinct.ensures

pub walk::eval_given-returns-in_ok-value-in-Output : goal.walk::eval_given-returns-in_ok-value-in-Output
walk::eval_given-returns-in_ok-value-in-Output t c =
    let stepped = subst (λ u. Steps u c.in_ok-value-in-Output.value c.step.result) (sym c.top-in-Output.ensures.value ∙ c.top.ensures.value) c.step.ensures in
    rw c.top.ensures.value (over_answer c.args.row.now c.args.given.now c.top.result.now c.in-Output.arg c.in_ok-value-in-Output.value c.step.result c.in-Output.is c.in_ok-value-in-Output.ensures stepped)
