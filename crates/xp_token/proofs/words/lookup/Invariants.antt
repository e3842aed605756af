use Rattle.std.proofs.Common.{◌≡◌, length, map}
use Rattle.xp_token.specs.Words.{lookup}
use Rattle.xp_token.proofs.words.lookup.Given as goal

abbrev pub invariant-loop-entries : goal.invariant-loop-entries
invariant-loop-entries l = lookup (map (λ e. (e.0.now, e.1)) l.entries) l.name ≡ lookup (map (λ e. (e.0.now, e.1)) l.initial.entries) l.name

abbrev pub decreases-loop-entries : goal.decreases-loop-entries
decreases-loop-entries l = length l.entries
