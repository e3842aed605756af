use Rattle.std.proofs.Common.{◌∙◌, sym}
use Rattle.xp_named.proofs.Taken.{named_takes}
use Rattle.xp_named.proofs.named.name_type.Goals as goal

pub returns-in-Some-clause-named : goal.returns-in-Some-clause-named
returns-in-Some-clause-named c =
    rw c.modified.ensures (named_takes c.args.c.now c.args.words.now c.in-Some.ty c.is_well_formed_law.ensures (sym c.type_of.ensures.value ∙ c.in-Some.is) c.in-Some.ensures.within c.in-Some.ensures.valued)
