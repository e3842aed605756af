use Rattle.std.proofs.Common.{◌≡◌, ◌≤◌, length, string_bytes}
use Rattle.xp_lexer.specs.inner.Cutting.{all_parts}
use Rattle.xp_lexer.proofs.quoted.all_parts.Given as goal

abbrev pub invariant-loop-next : goal.invariant-loop-next
invariant-loop-next l = record {
  same : all_parts (string_bytes l.text) l.z ≡ all_parts (string_bytes l.initial.text) l.initial.z;
  within : length l.z ≤ length l.initial.z;
}

abbrev pub decreases-loop-next : goal.decreases-loop-next
decreases-loop-next l = length l.z
