use Rattle.std.proofs.Common.{◌≡◌, ◌++◌, ◌+◌, ◌-◌, ◌≤◌, length, [], List, ℕ, get_or}
use denote.Text.{Utf8}
use denote.Shadow.{shadow}
use Rattle.std.specs.Str.{chars, encode_utf8_all}
use Rattle.xp_text.specs.Sets.{is_in, ltrim, rtrim, exchanged, translate}
use Rattle.xp_text.proofs.exchanging.exchanged.Given as goal

abbrev pub invariant-loop-place : goal.invariant-loop-place
invariant-loop-place l = record {
  places : shadow (Utf8 l.places);
  values : shadow (Utf8 l.values);
  value : exchanged (chars l.places) (chars l.values) l.c ≡ exchanged (chars l.old) (chars l.new) l.c;
}

abbrev pub decreases-loop-place : goal.decreases-loop-place
decreases-loop-place l = length l.places
