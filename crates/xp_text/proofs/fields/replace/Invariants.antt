use Rattle.std.proofs.Common.{◌≡◌, ◌++◌, ◌+◌, ◌-◌, ◌≤◌, length, [], List, ℕ, get_or}
use denote.Text.{Utf8}
use denote.Shadow.{shadow}
use Rattle.std.specs.Str.{chars, encode_utf8_all}
use Rattle.xp_text.specs.Fields.{fields, replace}
use Rattle.std.specs.String.{string_bytes}
use Rattle.xp_text.proofs.fields.replace.Given as goal

abbrev pub invariant-loop-field : goal.invariant-loop-field
invariant-loop-field l = record {
  utf8 : shadow (Utf8 l.rest);
  value : string_bytes l.text ++ encode_utf8_all (replace (chars l.rest) (chars l.old) (chars l.new)) ≡ encode_utf8_all (replace (chars l.a) (chars l.old) (chars l.new));
}

abbrev pub decreases-loop-field : goal.decreases-loop-field
decreases-loop-field l = length l.rest
