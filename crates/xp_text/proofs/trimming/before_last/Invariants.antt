use Rattle.std.proofs.Common.{◌≡◌, ◌++◌, ◌+◌, ◌-◌, ◌≤◌, length, [], List, ℕ, get_or}
use denote.Text.{Utf8}
use denote.Shadow.{shadow}
use Rattle.std.specs.Str.{chars, encode_utf8_all}
use Rattle.xp_text.specs.Sets.{is_in, ltrim, rtrim, exchanged, translate}
use Rattle.xp_text.proofs.trimming.before_last.Given as goal

abbrev pub invariant-loop-others : goal.invariant-loop-others
invariant-loop-others l = record {
  utf8 : shadow (Utf8 l.rest);
  value : rtrim (chars l.set) (chars l.rest) ≡ rtrim (chars l.set) (chars l.a);
}

abbrev pub decreases-loop-others : goal.decreases-loop-others
decreases-loop-others l = length l.rest
