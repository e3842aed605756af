use Rattle.xp_resolve.proofs.ArgsStand.{taken_off}
use Rattle.xp_resolve.proofs.calls.spread.Goals as goal

pub array_over-requires-clause-alike : goal.array_over-requires-clause-alike
array_over-requires-clause-alike c =
    rw (taken_off c.split_last.new.items c.in_ok-rest.rest c.args.trees c.args.extra c.in_ok-rest.ensures.whole c.in_ok-rest.ensures.count) at c.requires.alike
