use Rattle.std.proofs.Common.{◌≡◌, ◌++◌, codes, drop, map, string_bytes}
use Rattle.std.specs.List.{concat}
use Rattle.xp_run.specs.Uses.{type_name, type_names}
use Rattle.xp_run.proofs.uses.push_names.Given as goal

-- what is there so far and the other names are all of it
abbrev pub invariant-loop-other : goal.invariant-loop-other
invariant-loop-other l =
    string_bytes l.out ++ concat (map (λ other. codes "," ++ type_name l.catalog other) (drop l.other-index l.others))
    ≡ string_bytes l.initial.out ++ concat (map (λ other. codes "," ++ type_name l.catalog other) l.others)
