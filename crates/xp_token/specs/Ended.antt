-- What holds of the tokens of every statement: an End stands behind tokens that are none, and numbers have no sign (manual 4.1).
use Rattle.std.specs.Prelude.{Bool, true, false, not, ◌&&◌, ◌||◌, ◌==◌, List, [], ◌∷◌}
use Rattle.std.specs.List.{list_all}
use Rattle.xp_token.specs.Lexemes.{Lexeme, Placed, NumberOf, EndOf}

abbrev pub is_end : Lexeme → Bool
is_end EndOf = true
is_end _ = false

-- the last token is an End, and no other
abbrev pub is_ended : List Placed → Bool
is_ended [] = false
is_ended (p ∷ []) = is_end p.lexeme
is_ended (p ∷ q ∷ ps) = not (is_end p.lexeme) && is_ended (q ∷ ps)

-- a number isn't negative, and a whole one has no decimals
abbrev pub is_plain : Lexeme → Bool
is_plain (NumberOf negative coefficient scale whole) = not negative && (not whole || scale == 0)
is_plain _ = true

abbrev pub are_plain : List Placed → Bool
are_plain ps = list_all (λ p. is_plain p.lexeme) ps
