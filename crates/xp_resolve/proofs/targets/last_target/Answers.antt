use Rattle.std.proofs.Common.{◌∙◌, ap, sym, false}
use Rattle.std.specs.Option.{option_and_then}
use Rattle.xp_resolve.specs.Targets.{target_of}
use Rattle.xp_resolve.proofs.TargetLists.{last_pair}
use Rattle.xp_resolve.proofs.targets.last_target.Goals as goal

pub returns-in-Some-Some-clause-value : goal.returns-in-Some-Some-clause-value
returns-in-Some-Some-clause-value c =
    let pair = last_pair c.args.declared.now c.args.types.now c.in-Some-Some.declared.now c.in-Some-Some.ty.now c.requires.lengths (sym c.in-Some-Some.ensures.value) (sym c.in-Some-Some.ensures'.value) in
    c.target_of.ensures.value ∙ sym (ap (option_and_then (target_of c.args.taking c.args.c.now false)) pair)
