-- Lines that are written one after the other.
use Rattle.std.proofs.Common.{◌≡◌, ℕ, zero, suc, ◌+◌, ◌<◌, List, [], ◌∷◌, ◌++◌, length, get_or, drop, map, append_assoc, Option, Result, Ok, Err, refl, sym, ap, ◌∙◌, arith}
use Rattle.std.specs.List.{concat}
use Rattle.std.proofs.lemmas.List.{append-nil}
use Rattle.xp_base.specs.Growth.{grown}
use Rattle.xp_base.proofs.Progress.{Progress, Progress-start, Progress-step, Progress-cut, Rose-after, GrowsWithin-none, grown-grown}
use Rattle.xp_base.proofs.Lists.{concat-rest}
use Rattle.xp_run.specs.inner.Writing.{Stops, Writes}
use Rattle.xp_run.specs.declared.writing.WriteError.{WriteError}
use Rattle.xp_run.specs.declared.writing.WriteError.TheVariants.{Memory, Failed}

-- no memory for the line, so nothing is written
pub writes_nothing : {T : Type 0} (told : Option (List ℕ)) (whole : List ℕ) (count : ℕ) (answer : Result T WriteError) → answer ≡ Err Memory → Writes told told whole count count answer
writes_nothing told whole count answer e = rw e (GrowsWithin-none told told whole refl, refl)

-- lines, and a last one
pub last_line : (lines : List (List ℕ)) (last : List ℕ) → concat (lines ++ last ∷ []) ≡ concat lines ++ last
last_line [] last = append-nil last
last_line (line ∷ lines) last = ap (λ rest. line ++ rest) (last_line lines last) ∙ sym (append_assoc line (concat lines) last)

again : {A : Type 0} (xs : List A) (i : ℕ) (d e : A) → i < length xs → get_or xs i d ≡ get_or xs i e
again [] i d e h = absurd (omega arith)
again (x ∷ xs) zero d e h = refl
again (x ∷ xs) (suc i) d e h = again xs i d e (omega arith)

-- the lines from a place on are that of the element there and those behind it
pub lines_rest : {A : Type 0} (f : A → List ℕ) (xs : List A) (i : ℕ) (d : A) (line : List ℕ) → i < length xs → line ≡ f (get_or xs i d) → concat (map f (drop i xs)) ≡ line ++ concat (map f (drop (i + 1) xs))
lines_rest f xs i d line h e = rw e (concat-rest f xs i (get_or xs i d) h (again xs i d (get_or xs i d) h))

-- a piece that stops the writing stops that of the whole
pub Stops-later : (old mid new : Option (List ℕ)) (piece before todo whole : List ℕ) (first between now : ℕ) (stop : WriteError)
    → Progress old mid before whole → before ≡ piece ++ todo → between ≡ first → Stops mid new piece between now stop → Stops old new whole first now stop
Stops-later old mid new piece before todo whole first between now Memory p e c w = (Progress-cut old mid new piece before todo whole p e w.0, w.1 ∙ c)
Stops-later old mid new piece before todo whole first between now Failed p e c w = (Progress-cut old mid new piece before todo whole p e w.0, Rose-after first between now (omega (arith, c)) w.1)

-- the first piece stops it
pub stops_first : (old new : Option (List ℕ)) (piece todo whole : List ℕ) (before now : ℕ) (stop : WriteError) → whole ≡ piece ++ todo → Stops old new piece before now stop → Stops old new whole before now stop
stops_first old new piece todo whole before now stop e w = Stops-later old old new piece whole todo whole before before now stop (Progress-start old whole) e refl w

-- one piece, and another stops it
pub stops_then : (old mid new : Option (List ℕ)) (piece todo whole : List ℕ) (first between now : ℕ) (stop : WriteError)
    → mid ≡ grown old piece → between ≡ first → Stops mid new todo between now stop → whole ≡ piece ++ todo → Stops old new whole first now stop
stops_then old mid new piece todo whole first between now stop g c w e =
    Stops-later old mid new todo todo [] whole first between now stop (Progress-step old old mid piece whole todo whole (Progress-start old whole) e g) (sym (append-nil todo)) c w

-- one piece, and then the others
pub writes_then : {T : Type 0} (old mid new : Option (List ℕ)) (piece todo whole : List ℕ) (first between now : ℕ) (answer : Result T WriteError)
    → mid ≡ grown old piece → between ≡ first → Writes mid new todo between now answer → whole ≡ piece ++ todo → Writes old new whole first now answer
writes_then old mid new piece todo whole first between now (Ok done) g c w e = (w.0 ∙ ap (λ told. grown told todo) g ∙ grown-grown old piece todo ∙ ap (grown old) (sym e), w.1 ∙ c)
writes_then old mid new piece todo whole first between now (Err stop) g c w e = stops_then old mid new piece todo whole first between now stop g c w e
