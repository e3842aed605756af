use Rattle.std.proofs.Common.{◌≡◌, ℕ, ◌<◌, drop, false}
use Rattle.xp_characters.specs.Search.{begins}
use Rattle.xp_bytea.proofs.parts.strpos_bytea.Given as goal

abbrev pub invariant-loop-i : goal.invariant-loop-i
invariant-loop-i l = (k : ℕ) → k < l.i → begins (drop k l.a) l.part ≡ false
