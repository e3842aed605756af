use Rattle.std.proofs.Common.{◌≡◌, ◌-◌, ◌/◌, ◌^◌, drop, length}
use Rattle.xp_numeric.specs.Texts.{last_digits}
use Rattle.xp_numeric.proofs.writing.put_decimals.Given as goal

abbrev pub invariant-loop-i : goal.invariant-loop-i
invariant-loop-i l = record {
  long : length l.buffer ≡ 41;
  value : l.rest ≡ l.size / 10 ^ l.i;
  written : drop (41 - l.i) l.buffer ≡ last_digits l.i l.size;
}
