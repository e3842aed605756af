use Rattle.std.proofs.Common.{◌≡◌, ◌++◌, length, map, option_copied}
use denote.Text.{Utf8}
use denote.Shadow.{shadow}
use Rattle.std.specs.Char.{encode_utf8}
use Rattle.std.specs.Str.{chars}
use Rattle.xp_array.specs.Strings.{field_value}
use Rattle.xp_array.proofs.dividing.characters.Given as goal

abbrev pub invariant-loop-c : goal.invariant-loop-c
invariant-loop-c l = record {
  utf8 : shadow (Utf8 l.rest);
  value : l.values ++ map (field_value (option_copied l.null)) (map encode_utf8 (chars l.rest)) ≡ map (field_value (option_copied l.null)) (map encode_utf8 (chars l.fn.text));
}

abbrev pub decreases-loop-c : goal.decreases-loop-c
decreases-loop-c l = length l.rest
