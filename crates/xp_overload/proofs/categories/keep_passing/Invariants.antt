use Rattle.std.proofs.Common.{◌≡◌, ◌<◌, ◌≤◌, ℕ, false, ◌&&◌, get_or}
use Rattle.xp_overload.specs.Places.{slots_at}
use Rattle.xp_overload.specs.inner.Demands.{meets_all}
use Rattle.xp_overload.proofs.categories.keep_passing.Given as goal

-- the marks below the place also ask for the test, and those from there on stand as they stood
abbrev pub invariant-loop-place : goal.invariant-loop-place
invariant-loop-place l = record {
  below : (k : ℕ) → k < l.place → get_or l.keep k false ≡ (get_or l.initial.keep k false && meets_all l.demands (slots_at l.candidates k));
  behind : (k : ℕ) → l.place ≤ k → get_or l.keep k false ≡ get_or l.initial.keep k false;
}
