use Rattle.std.proofs.Common.{◌≡◌, ◌++◌, reverse, length}
use denote.Text.{Utf8}
use denote.Shadow.{shadow}
use Rattle.std.specs.String.{string_bytes}
use Rattle.xp_characters.specs.Characters.{over}
use Rattle.xp_text.proofs.letters.reverse.Given as goal

abbrev pub invariant-loop-front : goal.invariant-loop-front
invariant-loop-front l = record {
  utf8 : shadow (Utf8 l.rest);
  value : string_bytes l.text ++ over reverse l.rest ≡ over reverse l.initial.rest;
}

abbrev pub decreases-loop-front : goal.decreases-loop-front
decreases-loop-front l = length l.rest
