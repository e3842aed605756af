use Rattle.std.proofs.Common.{◌≡◌, sym, Ok}
use Rattle.xp_named.specs.Named.{named_type}
use Rattle.xp_expressions.proofs.casts.typed.Goals as goal

pub returns-in-Ok-clause-value : goal.returns-in-Ok-clause-value
returns-in-Ok-clause-value c =
    let said : named_type c.args.scene.now.c c.args.words.now ≡ Ok c.in-Ok.named = rw c.catalog.ensures at (sym c.in-Ok.ensures.answer) in
    rw said (rw c.from-at.ensures at c.typed_literal.ensures.value)
