use Rattle.std.proofs.Common.{◌≡◌, ◌∙◌, sym, codes, false, Some}
use Rattle.xp_catalog.specs.Lookups.{type_named}
use Rattle.xp_tree.specs.Term.{type_of}
use Rattle.xp_types.specs.Readers.{is_known}
use Rattle.xp_forms.proofs.tests.any_value.Goals as goal

pub returns-in-Some : goal.returns-in-Some
returns-in-Some c =
    let none : is_known (type_of c.args.part.tree).no ≡ false = rw c.type_of.ensures at (sym c.if-not-is_known.ensures) in
    let named : type_named c.args.scene.now.c (codes "text") ≡ Some c.in-Some.text = rw c.catalog.ensures at (sym c.type_named.ensures.value ∙ c.in-Some.is) in
    rw (none, named) (rw (c.plainly.ensures, none) at c.convert.ensures.value)
