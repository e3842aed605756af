use Rattle.std.proofs.Common.{◌≡◌, ◌∙◌, sym, Some}
use Rattle.xp_catalog.specs.Lookups.{type_named}
use Rattle.xp_resolve.proofs.Reading.{constant_at}
use Rattle.xp_resolve.proofs.literals.constant_named.Goals as goal

pub returns-in-Some-clause-value : goal.returns-in-Some-clause-value
returns-in-Some-clause-value c =
    let named : type_named c.args.scene.now.c c.args.name.now ≡ Some c.in-Some.ty = rw c.catalog.ensures at (sym c.type_named.ensures.value ∙ c.in-Some.is) in
    constant_at c.args.scene.now c.args.at c.args.name.now c.args.text.now c.args.progress c.in-Some.ty c.constant.result named c.constant.ensures.value
