use Rattle.std.proofs.lemmas.List.Elements.{All-push}
use Rattle.xp_coerce.specs.Asked.{IsSource}
use Rattle.xp_resolve.specs.declared.made.Part.{Part}
use Rattle.xp_expressions.proofs.operands.with_made.Goals as goal

pub returns-in_ok-with_last-in-Ok-clause-sources : goal.returns-in_ok-with_last-in-Ok-clause-sources
returns-in_ok-with_last-in-Ok-clause-sources c catalog parts made =
    let own : IsSource catalog c.in-Ok.made.part.tree = rw c.in-Ok.is at made in
    rw c.in_ok-with_last-in-Ok.ensures (All-push (λ (part : Part). IsSource catalog part.tree) c.args.parts c.in-Ok.made.part parts own)
