use Rattle.std.proofs.Common.{◌≡◌, sym, Ok}
use Rattle.xp_named.specs.Named.{named_type}
use Rattle.xp_expressions.specs.Casts.{array_named}
use Rattle.xp_expressions.proofs.casts.empty_cast.Goals as goal

pub returns-in-Ok-clause-value : goal.returns-in-Ok-clause-value
returns-in-Ok-clause-value c =
    let said : array_named c.args.scene.now.c c.args.words.now c.args.place (named_type c.args.scene.now.c c.args.words.now) ≡ Ok c.in-Ok.named = rw c.catalog.ensures at (sym c.in-Ok.ensures.value) in
    rw said c.empty_as.ensures.value
