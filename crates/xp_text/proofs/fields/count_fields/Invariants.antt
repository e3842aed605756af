use Rattle.std.proofs.Common.{◌≡◌, ◌++◌, ◌+◌, ◌-◌, ◌≤◌, length, [], List, ℕ, get_or}
use denote.Text.{Utf8}
use denote.Shadow.{shadow}
use Rattle.std.specs.Str.{chars, encode_utf8_all}
use Rattle.xp_text.specs.Fields.{fields, replace}
use Rattle.xp_text.proofs.fields.count_fields.Given as goal

abbrev pub invariant-loop-behind : goal.invariant-loop-behind
invariant-loop-behind l = record {
  utf8 : shadow (Utf8 l.rest);
  value : l.count + length (fields (chars l.delimiter) (chars l.rest)) ≡ 1 + length (fields (chars l.delimiter) (chars l.a));
  few : l.count + length l.rest ≤ 1 + length l.a;
}

abbrev pub decreases-loop-behind : goal.decreases-loop-behind
decreases-loop-behind l = length l.rest
