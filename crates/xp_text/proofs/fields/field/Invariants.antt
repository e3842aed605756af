use Rattle.std.proofs.Common.{◌≡◌, ◌++◌, ◌+◌, ◌-◌, ◌≤◌, length, [], List, ℕ, get_or}
use denote.Text.{Utf8}
use denote.Shadow.{shadow}
use Rattle.std.specs.Str.{chars, encode_utf8_all}
use Rattle.xp_text.specs.Fields.{fields, replace}
use Rattle.xp_text.proofs.fields.field.Given as goal

abbrev pub invariant-loop : goal.invariant-loop
invariant-loop l = record {
  utf8 : shadow (Utf8 l.rest);
  value : get_or (fields (chars l.delimiter) (chars l.rest)) (l.place - l.counter) [] ≡ get_or (fields (chars l.delimiter) (chars l.a)) l.place [];
}
