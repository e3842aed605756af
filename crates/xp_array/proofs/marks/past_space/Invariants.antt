use Rattle.std.proofs.Common.{◌≡◌, ◌≤◌, length}
use Rattle.xp_array.specs.Marks.{past_space}
use Rattle.xp_array.proofs.marks.past_space.Given as goal

abbrev pub invariant-loop-text : goal.invariant-loop-text
invariant-loop-text l = record {
  value : past_space l.text ≡ past_space l.fn.text;
  shorter : length l.text ≤ length l.fn.text;
}

abbrev pub decreases-loop-text : goal.decreases-loop-text
decreases-loop-text l = length l.text
