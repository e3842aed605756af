use Rattle.std.proofs.Common.{◌≡◌, ◌∙◌, sym, Some}
use Rattle.xp_tree.specs.Term.{type_of}
use Rattle.xp_types.specs.Readers.{base, element}
use Rattle.xp_forms.proofs.Elements.{element_known}
use Rattle.xp_forms.proofs.arrays.subscripted.Goals as goal

pub element_at-requires-clause-known : goal.element_at-requires-clause-known
element_at-requires-clause-known c =
    let catalog = c.args.scene.now.c in
    let over : element catalog (base catalog (type_of c.args.operands.left.tree).no) ≡ Some c.in-Some.ty = rw (c.base.ensures.value, c.type_of.ensures, c.catalog-c.ensures) at (sym c.element.ensures.value ∙ c.in-Some.is) in
    element_known catalog (base catalog (type_of c.args.operands.left.tree).no) c.in-Some.ty (rw c.catalog-c.ensures at c.is_well_formed_law.ensures) over
