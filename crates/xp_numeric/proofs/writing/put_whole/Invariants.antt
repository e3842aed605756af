use Rattle.std.proofs.Common.{◌≡◌, ◌+◌, ◌-◌, ◌^◌, ◌<◌, ◌≤◌, drop, length}
use Rattle.xp_numeric.proofs.Digits.{onto}
use Rattle.xp_numeric.proofs.writing.put_whole.Given as goal

-- the digits that are left, before those that stand in the buffer
abbrev pub invariant-loop-rest : goal.invariant-loop-rest
invariant-loop-rest l = record {
  long : length l.buffer ≡ 41;
  low : 1 < l.start;
  high : l.start ≤ l.end;
  rest : l.rest < 10 ^ (l.start - 1);
  written : onto (64 + l.start - l.end) l.rest (drop l.start l.buffer) ≡ onto 64 l.size (drop l.end l.initial.buffer);
}

abbrev pub decreases-loop-rest : goal.decreases-loop-rest
decreases-loop-rest l = l.start
