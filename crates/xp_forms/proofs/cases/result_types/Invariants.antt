use Rattle.std.proofs.Common.{◌≡◌, ◌++◌, drop, map}
use Rattle.xp_types.specs.Within.{AreTypes}
use Rattle.xp_resolve.specs.Calls.{types_of}
use Rattle.xp_forms.specs.Cases.{result_types}
use Rattle.xp_forms.specs.declared.cases.When.{When}
use Rattle.xp_forms.proofs.cases.result_types.Given as goal

-- the types so far, and those of the other results, are all
abbrev pub invariant-loop-arm : goal.invariant-loop-arm
invariant-loop-arm l = record {
  within : AreTypes l.c l.types;
  says : l.types ++ types_of (map (λ (when : When). when.result) (drop l.arm-index l.whens)) ≡ result_types l.whens l.otherwise;
}
