use Rattle.std.proofs.Common.{◌≡◌, sym, true}
use Rattle.xp_tree.specs.Term.{type_of}
use Rattle.xp_forms.specs.Truths.{may_be_truth}
use Rattle.xp_forms.proofs.truths.as_truth.Goals as goal

pub returns-then-may_be_truth-clause-value : goal.returns-then-may_be_truth-clause-value
returns-then-may_be_truth-clause-value c =
    let test : may_be_truth c.args.scene.now.c c.args.ty (type_of c.args.part.tree).no ≡ true = rw (c.catalog.ensures, c.type_of.ensures) at (sym c.if-may_be_truth.ensures) in
    rw test (rw c.plainly.ensures at c.convert.ensures.value)
