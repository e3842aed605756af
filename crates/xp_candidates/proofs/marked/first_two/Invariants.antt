use Rattle.std.proofs.Common.{◌≡◌, ◌<◌, ◌++◌, drop, IfSome}
use Rattle.std.specs.Prelude.{option_to_list}
use Rattle.xp_overload.specs.Places.{kept, kept_from}
use Rattle.xp_candidates.specs.inner.Marked.{first_two}
use Rattle.xp_candidates.proofs.marked.first_two.Given as goal

-- the place found, if any, and those from here on
abbrev pub invariant-loop-place : goal.invariant-loop-place
invariant-loop-place l = record {
  list : first_two (option_to_list l.found ++ kept_from l.place (drop l.place l.marks)) ≡ first_two (kept l.marks);
  within : IfSome l.found (λ place. place < l.place);
}
