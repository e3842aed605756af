use Rattle.xp_catalog.specs.declared.header.HeaderColumn.{HeaderColumn}
use Rattle.xp_catalog.specs.Headers.{is_column}
use Rattle.xp_catalog.proofs.Places.{AllPairs-push}
use Rattle.xp_catalog.proofs.header.Header.push.Goals as goal

pub invariant_of-self-2 : goal.invariant_of-self-2
invariant_of-self-2 c = let e = c.in_ok-push.ensures.ok in rw e (AllPairs-push (λ (second first : HeaderColumn). is_column second.name first) c.self.inside.columns c.args.column c.self.invariant (rw (← c.self.view_is) at c.requires))
