use Rattle.std.proofs.Common.{◌∙◌}
use Rattle.std.proofs.lemmas.Bool.{false≢true}
use Rattle.xp_analyse.proofs.Readying.{arms_ready}
use Rattle.xp_analyse.proofs.statement.readied.Goals.{then-is_evaluated+in_default, else-is_evaluated}
use Rattle.xp_analyse.proofs.statement.readied.Goals as goal

pub returns-clause-ready : goal.returns-clause-ready
returns-clause-ready c evaluated =
    rw c.in_ok-typed_of.ensures (arms_ready c.is_over_rows.result c.args.trees (
    elim c.if-is_evaluated.branch [
      | then-is_evaluated+in_default w ↦ rw w.as_slice.ensures at w.in_default.ensures.ready
      | else-is_evaluated w ↦ absurd (false≢true (w.if-is_evaluated.ensures ∙ evaluated))
    ]))
