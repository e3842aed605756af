use Rattle.std.proofs.Common.{◌≡◌, ◌∙◌, ◌<◌, sym, refl, length, Some, slice_get}
use Rattle.std.proofs.lemmas.Option.{slice_get_read}
use Rattle.xp_catalog.specs.Headers.{column_named}
use Rattle.xp_resolve.proofs.Reading.{column_is}
use Rattle.xp_resolve.proofs.literals.named_column.Goals as goal

pub returns-in-Some-clause-value : goal.returns-in-Some-clause-value
returns-in-Some-clause-value c =
    let named : column_named c.args.scene.now.columns c.args.name.now ≡ Some c.in-Some.place = rw c.header-header.ensures at (sym c.column_named.ensures.value ∙ c.in-Some.is) in
    let within : c.in-Some.place < length c.columns.result.now = rw (c.columns.ensures.value) c.in-Some.ensures.within in
    let there : slice_get c.args.scene.now.columns c.in-Some.place ≡ Some c.index-columns-place.result = rw (c.columns.ensures.value, c.header-header.ensures) at (slice_get_read c.columns.result.now (length c.columns.result.now) c.in-Some.place c.index-columns-place.result refl within c.index-columns-place.is) in
    column_is c.args.scene.now c.args.at c.args.name.now c.args.progress c.in-Some.place c.index-columns-place.result c.column_at.result named there (rw (sym c.index-columns-place.is) at c.column_at.ensures.value)
