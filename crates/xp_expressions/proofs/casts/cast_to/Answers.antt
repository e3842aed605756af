use Rattle.std.proofs.Common.{◌≡◌, Ok}
use Rattle.xp_catalog.specs.declared.rows.Context.TheVariants.{Explicit}
use Rattle.xp_resolve.specs.declared.conversions.Converted.{Converted}
use Rattle.xp_resolve.specs.Conversions.{converted}
use Rattle.xp_resolve.specs.Made.{finished}
use Rattle.xp_resolve.proofs.Steps.{same, then_err}
use Rattle.xp_expressions.proofs.casts.cast_to.Goals as goal

pub returns-in-Ok-clause-value : goal.returns-in-Ok-clause-value
returns-in-Ok-clause-value c =
    let said : converted c.args.scene.now c.args.at.start c.args.made.progress.nodes c.args.made.part c.args.named Explicit ≡ Ok c.in-Ok.one = rw c.from-at.ensures at c.in-Ok.ensures.value in
    rw said (same (finished c.args.scene.now c.args.at.start c.args.before c.args.made.progress.uses c.in-Ok.one.tree) c.finished.result (rw c.from-at.ensures at c.finished.ensures))

pub returns-in-Err-clause-value : goal.returns-in-Err-clause-value
returns-in-Err-clause-value c =
    then_err (converted c.args.scene.now c.args.at.start c.args.made.progress.nodes c.args.made.part c.args.named Explicit)
    (λ (one : Converted). finished c.args.scene.now c.args.at.start c.args.before c.args.made.progress.uses one.tree) c.in-Err.refusal (rw c.from-at.ensures at c.in-Err.ensures.value)
