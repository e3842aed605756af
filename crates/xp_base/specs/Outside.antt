-- What a shelf answers and what a sink takes.
use Rattle.std.specs.Prelude.{◌≡◌, ℕ, ◌+◌, ◌<◌, ◌≤◌, List, [], ◌∷◌, Option, Some, None, Result, Ok, Err, IfSome, length, cond, ◌⊎◌, Bool, true, false}
use Rattle.std.specs.Str.{bytes_eq}
use Rattle.xp_base.specs.Growth.{grown, GrowsWithin, Rose}
use Rattle.xp_base.specs.declared.outside.LoadFault.{LoadFault}
use Rattle.xp_base.specs.declared.outside.LoadFault.TheVariants as fault
use Rattle.xp_base.specs.declared.outside.Failed.{Failed}

-- names and their texts
abbrev pub Files : Type 0
Files = List (List ℕ × List ℕ)

-- the text of the first file of that name
abbrev pub text_at : Files → List ℕ → Option (List ℕ)
text_at [] name = None
text_at (file ∷ files) name = cond (bytes_eq file.0 name) (Some file.1) (text_at files name)

-- the files, where they are told, have this text under this name
abbrev pub Tells : Option Files → List ℕ → List ℕ → Type 0
Tells held name text = IfSome held (λ files. text_at files name ≡ Some text)

-- the files are told, and have no such name
abbrev pub Lacks : Option Files → List ℕ → Type 0
Lacks None name = ⊥
Lacks (Some files) name = text_at files name ≡ None

-- the files, where they are told, have a text of more than that many bytes under this name
abbrev pub TellsLonger : Option Files → List ℕ → ℕ → Type 0
TellsLonger held name limit = IfSome held (λ files. (text : List ℕ) × (text_at files name ≡ Some text) × (limit < length text))

-- want of memory, among the faults of loading
abbrev pub is_load_memory : LoadFault → Bool
is_load_memory fault.Memory = true
is_load_memory _ = false

-- what `load` answers
abbrev pub Loads : Option Files → List ℕ → ℕ → ℕ → ℕ → Result (List ℕ) LoadFault → Type 0
Loads held name limit before now (Ok text) = Tells held name text × (length text ≤ limit)
Loads held name limit before now (Err fault.Failed) = Rose before now ⊎ Lacks held name
Loads held name limit before now (Err (fault.TooLong read)) = TellsLonger held name limit × (read ≡ limit + 1)
Loads held name limit before now (Err fault.Memory) = Unit {0}

-- what `put` does: the whole piece, and no fault is counted; or a prefix of it where the sink failed
abbrev pub Puts : Option (List ℕ) → Option (List ℕ) → List ℕ → ℕ → ℕ → Result (Unit {0}) Failed → Type 0
Puts old new piece before now (Ok done) = (new ≡ grown old piece) × (now ≡ before)
Puts old new piece before now (Err failed) = GrowsWithin old new piece × Rose before now
