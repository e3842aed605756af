use Rattle.std.proofs.Common.{◌≡◌, ◌+◌, ◌*◌, ◌/◌, ◌^◌, ◌<◌, ◌≤◌}
use Rattle.xp_numeric.proofs.wide.by_bits.Given as goal

-- the bits of the factor that are taken make a product of which this is the quotient and the rest
abbrev pub invariant-loop-bits : goal.invariant-loop-bits
invariant-loop-bits l = record {
  in_range : l.bits ≤ 127;
  below : l.rest < l.divisor;
  value : l.quotient * l.divisor + l.rest ≡ l.size * (l.factor / 2 ^ l.bits);
}

abbrev pub decreases-loop-bits : goal.decreases-loop-bits
decreases-loop-bits l = l.bits
