use Rattle.std.proofs.Common.{◌≡◌, ◌++◌, ◌+◌, ◌-◌, ◌≤◌, length, [], List, ℕ, get_or}
use denote.Text.{Utf8}
use denote.Shadow.{shadow}
use Rattle.std.specs.Str.{chars, encode_utf8_all}
use Rattle.xp_text.specs.Sets.{is_in, ltrim, rtrim, exchanged, translate}
use Rattle.std.specs.String.{string_bytes}
use Rattle.xp_text.proofs.exchanging.translate.Given as goal

abbrev pub invariant-loop-c : goal.invariant-loop-c
invariant-loop-c l = record {
  utf8 : shadow (Utf8 l.rest);
  value : string_bytes l.text ++ encode_utf8_all (translate (chars l.rest) (chars l.old) (chars l.new)) ≡ encode_utf8_all (translate (chars l.a) (chars l.old) (chars l.new));
}

abbrev pub decreases-loop-c : goal.decreases-loop-c
decreases-loop-c l = length l.rest
