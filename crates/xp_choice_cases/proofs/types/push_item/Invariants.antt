use Rattle.xp_types.specs.Within.{AreTypes, IsType}
use Rattle.xp_choice_cases.proofs.types.push_item.Given as goal

-- those so far are types
abbrev pub invariant-loop-copy : goal.invariant-loop-copy
invariant-loop-copy l = AreTypes l.c l.types.items
