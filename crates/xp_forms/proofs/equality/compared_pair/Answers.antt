use Rattle.std.proofs.Common.{[], ◌∷◌}
use Rattle.xp_forms.proofs.Comparing.{both_rest, first_typed}
use Rattle.xp_forms.proofs.equality.compared_pair.Goals as goal

pub returns-clause-compared : goal.returns-clause-compared
returns-clause-compared c =
    let own = c.requires.choice in
    let catalog = c.args.scene.now.c in
    let well = rw c.catalog-c.ensures at c.is_well_formed_law.ensures in
    record {
      rests = both_rest catalog c.args.choice.now c.callee_of.result c.args.pair.left c.args.pair.right well c.requires.scene.fitted own c.requires.whole c.requires.typed (rw c.catalog-c.ensures at c.callee_of.ensures);
      left = first_typed catalog c.args.choice.now.targets c.args.pair.left (c.args.pair.right ∷ []) well own.within c.requires.typed;
    }
