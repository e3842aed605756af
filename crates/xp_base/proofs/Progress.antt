-- How bytes that grow piece by piece come to a whole.
use Rattle.std.proofs.Common.{◌≡◌, ℕ, ◌≤◌, List, [], ◌++◌, refl, sym, ◌∙◌, ap, append_assoc, arith, Option, Some, None}
use Rattle.std.proofs.lemmas.List.{append-nil}
use Rattle.xp_base.specs.Growth.{grown, GrowsWithin, Rose}

-- the bytes grew by a prefix of the whole, and this is left
pub record Progress (old new : Option (List ℕ)) (todo whole : List ℕ) : Type 0 where
  pub done : List ℕ
  pub parts : done ++ todo ≡ whole
  pub grows : new ≡ grown old done

pub grown-nil : (told : Option (List ℕ)) → told ≡ grown told []
grown-nil None = refl
grown-nil (Some bytes) = ap Some (sym (append-nil bytes))

pub grown-grown : (told : Option (List ℕ)) (a b : List ℕ) → grown (grown told a) b ≡ grown told (a ++ b)
grown-grown None a b = refl
grown-grown (Some bytes) a b = ap Some (append_assoc bytes a b)

-- nothing is done yet
pub Progress-start : (old : Option (List ℕ)) (whole : List ℕ) → Progress old old whole whole
Progress-start old whole = record { done = []; parts = refl; grows = grown-nil old }

-- a piece more
pub Progress-step : (old mid new : Option (List ℕ)) (piece before todo whole : List ℕ) → Progress old mid before whole → before ≡ piece ++ todo → new ≡ grown mid piece → Progress old new todo whole
Progress-step old mid new piece before todo whole p e g = record {
  done = p.done ++ piece;
  parts = append_assoc p.done piece todo ∙ ap (λ rest. p.done ++ rest) (sym e) ∙ p.parts;
  grows = g ∙ ap (λ told. grown told piece) p.grows ∙ grown-grown old p.done piece;
}

-- nothing is left
pub Progress-end : (old new : Option (List ℕ)) (todo whole : List ℕ) → Progress old new todo whole → todo ≡ [] → new ≡ grown old whole
Progress-end old new todo whole p e = p.grows ∙ ap (grown old) (sym (append-nil p.done) ∙ ap (λ rest. p.done ++ rest) (sym e) ∙ p.parts)

-- what is done is a prefix of the whole
pub Progress-within : (old new : Option (List ℕ)) (todo whole : List ℕ) → Progress old new todo whole → GrowsWithin old new whole
Progress-within old new todo whole p = record { done = p.done; todo = todo; parts = p.parts; grows = p.grows }

-- the whole is a prefix of itself
pub GrowsWithin-all : (old new : Option (List ℕ)) (whole : List ℕ) → new ≡ grown old whole → GrowsWithin old new whole
GrowsWithin-all old new whole g = record { done = whole; todo = []; parts = append-nil whole; grows = g }

-- nothing is a prefix
pub GrowsWithin-none : (old new : Option (List ℕ)) (whole : List ℕ) → new ≡ old → GrowsWithin old new whole
GrowsWithin-none old new whole e = record { done = []; todo = whole; parts = refl; grows = e ∙ grown-nil old }

-- a part of the next piece
pub Progress-cut : (old mid new : Option (List ℕ)) (piece before todo whole : List ℕ) → Progress old mid before whole → before ≡ piece ++ todo → GrowsWithin mid new piece → GrowsWithin old new whole
Progress-cut old mid new piece before todo whole p e g = record {
  done = p.done ++ g.done;
  todo = g.todo ++ todo;
  parts = append_assoc p.done g.done (g.todo ++ todo) ∙ ap (λ rest. p.done ++ rest) (sym (append_assoc g.done g.todo todo) ∙ ap (λ rest. rest ++ todo) g.parts ∙ sym e) ∙ p.parts;
  grows = g.grows ∙ ap (λ told. grown told g.done) p.grows ∙ grown-grown old p.done g.done;
}

pub Rose-after : (first before now : ℕ) → first ≤ before → Rose before now → Rose first now
Rose-after first before now le rose = omega arith
