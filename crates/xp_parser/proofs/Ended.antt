-- The tokens of a statement end in End.
use Rattle.std.proofs.Common.{◌≡◌, true, not, List, [], ◌∷◌}
use Rattle.std.proofs.lemmas.Bool.{and_parts}
use Rattle.xp_token.specs.declared.token.Token.{Token}
use Rattle.xp_token.specs.Ended.{is_end, is_ended}
use Rattle.xp_token.specs.Lexemes.{seen, all_placed}
use Rattle.xp_parser.specs.Parses.{ends_in_end}

pub ended_ends : (ts : List Token) → is_ended (all_placed ts) ≡ true → ends_in_end ts ≡ true
ended_ends [] h = h
ended_ends (t ∷ []) h = h
ended_ends (t ∷ u ∷ ts) h = ended_ends (u ∷ ts) (and_parts (not (is_end (seen t.kind))) (is_ended (all_placed (u ∷ ts))) h).1
