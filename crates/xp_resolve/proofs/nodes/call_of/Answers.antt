use Rattle.xp_tree.specs.Term.{terms}
use Rattle.xp_tree.specs.Typed.{types_of}
use Rattle.xp_resolve.proofs.CallRests.{callee_rests}
use Rattle.xp_resolve.proofs.nodes.call_of.Goals as goal

pub make_call-requires : goal.make_call-requires
make_call-requires c = (
  callee_rests c.args.c.now c.args.row c.callee_of-callee.result (types_of (terms c.args.trees)) c.is_well_formed_law.ensures c.requires.fitted c.callee_of-callee.ensures c.requires.stands,
  rw c.as_slice.ensures at c.are_typed_law.ensures,
)
