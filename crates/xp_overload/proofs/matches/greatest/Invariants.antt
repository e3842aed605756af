use Rattle.std.proofs.Common.{◌≡◌, drop, max}
use Rattle.xp_overload.specs.Places.{kept, kept_from, slots_at}
use Rattle.xp_overload.specs.Matches.{greatest, matches}
use Rattle.xp_overload.proofs.matches.greatest.Given as goal

-- the greatest so far and that of the places from here on
abbrev pub invariant-loop-place : goal.invariant-loop-place
invariant-loop-place l = max l.most (greatest (λ k. matches l.kind l.inputs (slots_at l.candidates k)) (kept_from l.place (drop l.place l.keep))) ≡ greatest (λ k. matches l.kind l.inputs (slots_at l.candidates k)) (kept l.keep)
