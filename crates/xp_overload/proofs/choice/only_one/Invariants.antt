use Rattle.std.proofs.Common.{◌≡◌, ◌++◌, drop}
use Rattle.std.specs.Prelude.{option_to_list}
use Rattle.xp_overload.specs.Places.{kept, kept_from}
use Rattle.xp_overload.specs.Choosing.{choice_of}
use Rattle.xp_overload.proofs.choice.only_one.Given as goal

-- the place found, if any, and those from here on
abbrev pub invariant-loop-place : goal.invariant-loop-place
invariant-loop-place l = choice_of (option_to_list l.found ++ kept_from l.place (drop l.place l.keep)) ≡ choice_of (kept l.keep)
