-- What the grammar derives, one case for each sort of line (manual 4.1.6 and 4.2).
use Rattle.std.specs.Prelude.{◌≡◌, true, List, [], ◌∷◌, ◌++◌}
use Rattle.xp_token.specs.declared.token.Token.{Token}
use Rattle.xp_grammar.specs.declared.kind.Class.{Class}
use Rattle.xp_grammar.specs.Kinds.{kind, has}
use Rattle.xp_grammar.specs.Table.{Sym, Tok, Lev, Value, Word, Start, Tail, level, parts, made, on, turn, fits, joined}

-- The symbols derive the tokens, with these values.
pub data Derives : List Sym → List Token → List Value → Type 0 where
  none : Derives [] [] []
  token : {ss : List Sym} {ts : List Token} {vs : List Value} (c : Class) (t : Token)
      → has c (kind t) ≡ true → Derives ss ts vs → Derives (Tok c ∷ ss) (t ∷ ts) (Word t ∷ vs)
  begins : {ss : List Sym} {us ts : List Token} {ws vs : List Value} (x : Start)
      → Derives (parts x) us ws → Derives ss ts vs → Derives (Lev (level x) ∷ ss) (us ++ ts) (made x ws ∷ vs)
  goes_on : {ss : List Sym} {fs us ts : List Token} {v : Value} {ws vs : List Value} (x : Tail)
      → Derives (Lev (on x) ∷ []) fs (v ∷ []) → fits x v ≡ true → Derives (turn x) us ws → Derives ss ts vs
      → Derives (Lev (on x) ∷ ss) ((fs ++ us) ++ ts) (joined x v us ws ∷ vs)
