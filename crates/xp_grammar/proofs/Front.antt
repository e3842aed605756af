-- What begins something that the grammar derives.
use Rattle.std.specs.Prelude.{◌≡◌, true, List, [], ◌∷◌, ◌++◌}
use Rattle.xp_grammar.specs.Grammar.{Derives}
use Rattle.xp_token.specs.declared.token.Token.{Token}
use Rattle.xp_grammar.specs.declared.kind.Class.{Class}
use Rattle.xp_grammar.specs.Kinds.{kind, has}
use Rattle.xp_grammar.specs.Table.{Level, Sym, Tok, Lev, Value, Start, Tail, level, parts, on, turn, fits}

-- The tokens begin something that the symbols derive.
pub data Front : List Sym → List Token → Type 0 where
  nothing : {ss : List Sym} → Front ss []
  token : {ss : List Sym} {ts : List Token} (c : Class) (t : Token)
      → has c (kind t) ≡ true → Front ss ts → Front (Tok c ∷ ss) (t ∷ ts)
  begins : {ss : List Sym} {ts : List Token} (x : Start) → Front (parts x) ts → Front (Lev (level x) ∷ ss) ts
  goes_on : {ss : List Sym} {fs ts : List Token} {v : Value} (x : Tail)
      → Derives (Lev (on x) ∷ []) fs (v ∷ []) → fits x v ≡ true → Front (turn x) ts → Front (Lev (on x) ∷ ss) (fs ++ ts)
  past : {ss : List Sym} {us ts : List Token} {vs : List Value} (l : Level)
      → Derives (Lev l ∷ []) us vs → Front ss ts → Front (Lev l ∷ ss) (us ++ ts)
