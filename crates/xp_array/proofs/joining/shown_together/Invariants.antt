use Rattle.std.proofs.Common.{◌≡◌, ◌++◌, ◌≤◌, drop, length, option_copied}
use denote.Text.{Utf8}
use denote.Shadow.{shadow}
use Rattle.std.specs.String.{string_bytes}
use Rattle.xp_array.specs.Strings.{shown_all}
use Rattle.xp_array.proofs.Shown.{rest}
use Rattle.xp_base.specs.declared.limits.TheConstants.{VALUE_LIMIT}
use Rattle.xp_array.proofs.joining.shown_together.Given as goal

abbrev pub invariant-loop-element : goal.invariant-loop-element
invariant-loop-element l = record {
  utf8 : shadow (Utf8 l.between);
  value : string_bytes l.text ++ rest (option_copied l.null) l.between l.delimiter (drop l.element-index l.elements) ≡ shown_all l.elements l.delimiter (option_copied l.null);
  within : length (string_bytes l.text) ≤ VALUE_LIMIT;
}
