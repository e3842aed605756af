use Rattle.std.proofs.Common.{◌≡◌, ◌∙◌, sym, codes, Some, Ok}
use Rattle.xp_catalog.specs.Lookups.{type_named}
use Rattle.xp_types.specs.Readers.{array_of}
use Rattle.xp_resolve.specs.Conversions.{text_type}
use Rattle.xp_resolve.proofs.Converting.{texts_typed}
use Rattle.xp_resolve.proofs.conversions.argument.Goals as goal

pub returns-in-Of-clause-value : goal.returns-in-Of-clause-value
returns-in-Of-clause-value c = rw c.in-Of.is (rw c.plainly.ensures at c.convert.ensures.value)

pub returns-in_ok-text-in-Text-clause-value : goal.returns-in_ok-text-in-Text-clause-value
returns-in_ok-text-in-Text-clause-value c =
    let is : text_type c.args.scene.now.c c.args.at ≡ Ok c.in_ok-text-in-Text.text = rw c.catalog-c.ensures at (sym c.text_type.ensures.value ∙ c.in_ok-text-in-Text.was) in
    rw (c.in-Text.is, is) (rw c.plainly-in-Text.ensures at c.convert-in-Text.ensures.value)

pub returns-in-Some-clause-typed : goal.returns-in-Some-clause-typed
returns-in-Some-clause-typed c =
    let named : type_named c.args.scene.now.c (codes "text") ≡ Some c.in_ok-text-in-ElementsWritten.text = rw c.catalog-c.ensures at c.in_ok-text-in-ElementsWritten.ensures.named in
    let over : array_of c.args.scene.now.c c.in_ok-text-in-ElementsWritten.text ≡ Some c.in-Some.texts = rw c.catalog-c.ensures at (sym c.array_of.ensures.value ∙ c.in-Some.is) in
    rw (c.in-ElementsWritten.is, texts_typed c.args.scene.now.c c.in_ok-text-in-ElementsWritten.text c.in-Some.texts named over) c.as_texts.ensures.typed
