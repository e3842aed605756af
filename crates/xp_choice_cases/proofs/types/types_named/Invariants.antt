use Rattle.xp_types.specs.Within.{AreTypes}
use Rattle.xp_choice_cases.proofs.types.types_named.Given as goal

-- those so far are types
abbrev pub invariant-loop-item : goal.invariant-loop-item
invariant-loop-item l = AreTypes l.c l.types.items
