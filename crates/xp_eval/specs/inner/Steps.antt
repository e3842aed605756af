-- A node over one tree, and what it answers where its argument has a value.
use Rattle.std.specs.Prelude.{Bool, true, false, Result}
use Rattle.xp_value.specs.declared.value.Value.{Value}
use Rattle.xp_tree.specs.Term.{Term, one}
use Rattle.xp_call.specs.Calls.{Calls}
use Rattle.xp_call.specs.declared.fault.CallFault.{CallFault}
use Rattle.xp_meaning.specs.Nodes.{one_step}
use Rattle.xp_eval.specs.Real.{real}

abbrev pub is_one : Term → Bool
is_one (one o a ty) = true
is_one _ = false

abbrev pub Steps : Term → Value → Result Value CallFault → Type 0
Steps (one o a ty) v result = Calls (one_step real o ty v) result
Steps _ v result = Unit {0}
