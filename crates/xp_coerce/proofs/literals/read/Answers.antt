use Rattle.std.proofs.Common.{◌≡◌, ◌∙◌, ap, sym, true}
use Rattle.xp_value.specs.Representation.{is_of}
use Rattle.xp_types.specs.Readers.{unknown}
use Rattle.xp_tree.specs.Term.{type_of}
use Rattle.xp_tree.specs.Typed.{shape_of}
use Rattle.xp_coerce.specs.Types.{node_type}
use Rattle.xp_coerce.proofs.Constants.{literal_value}
use Rattle.xp_coerce.proofs.literals.read.Goals as goal

pub read_constant-requires-clause-value : goal.read_constant-requires-clause-value
read_constant-requires-clause-value c =
    let type : c.in-Constant.ty ≡ node_type c.args.c.now unknown = sym (ap type_of c.in-Constant.ensures.value) ∙ c.requires.unknown in
    let fits : is_of (shape_of (node_type c.args.c.now unknown)) c.in-Constant.value ≡ true = rw type at c.in-Constant.ensures.typed in
    literal_value c.args.c.now c.in-Constant.value c.is_well_formed_law.ensures fits
