use Rattle.std.proofs.Common.{◌≡◌, ◌++◌, drop, length, take, ◌-◌, ◌≤◌}
use denote.Text.{Utf8}
use denote.Shadow.{shadow}
use Rattle.std.specs.Str.{chars}
use Rattle.xp_characters.proofs.characters.behind.Given as goal

abbrev pub invariant-loop : goal.invariant-loop
invariant-loop l = record {
  utf8 : shadow (Utf8 l.back);
  value : chars l.back ≡ drop l.counter (chars l.text);
  end : l.text ≡ take (length l.text - length l.back) l.text ++ l.back;
  shorter : length l.back ≤ length l.text;
}
