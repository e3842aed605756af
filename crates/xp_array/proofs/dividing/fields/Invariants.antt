use Rattle.std.proofs.Common.{◌≡◌, ◌++◌, length, map, option_copied}
use denote.Text.{Utf8}
use denote.Shadow.{shadow}
use Rattle.xp_array.specs.Strings.{field_value}
use Rattle.xp_text.specs.Fields.{fields}
use Rattle.xp_array.proofs.dividing.fields.Given as goal

abbrev pub invariant-loop-field : goal.invariant-loop-field
invariant-loop-field l = record {
  utf8 : shadow (Utf8 l.rest);
  value : l.values ++ map (field_value (option_copied l.null)) (fields l.delimiter l.rest) ≡ map (field_value (option_copied l.null)) (fields l.delimiter l.fn.text);
}

abbrev pub decreases-loop-field : goal.decreases-loop-field
decreases-loop-field l = length l.rest
