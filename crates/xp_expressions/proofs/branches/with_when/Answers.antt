use Rattle.std.proofs.lemmas.List.Elements.{All-push}
use Rattle.xp_forms.specs.inner.Arms.{IsResolved}
use Rattle.xp_expressions.proofs.branches.with_when.Goals as goal

pub returns-in_ok-with_last-in-Ok-clause-resolved : goal.returns-in_ok-with_last-in-Ok-clause-resolved
returns-in_ok-with_last-in-Ok-clause-resolved c catalog whens made =
    let own : IsResolved catalog c.in-Ok.made.when = rw c.in-Ok.is at made in
    rw c.in_ok-with_last-in-Ok.ensures (All-push (IsResolved catalog) c.args.whens c.in-Ok.made.when whens own)
