-- What a call that writes says, whatever it writes.
use Rattle.std.specs.Prelude.{◌≡◌, ℕ, List, Option, Result, Ok, Err}
use Rattle.xp_base.specs.Growth.{grown, GrowsWithin, Rose}
use Rattle.xp_run.specs.declared.writing.WriteError.{WriteError}
use Rattle.xp_run.specs.declared.writing.WriteError.TheVariants.{Memory, Failed}

-- a prefix of it is written; the count rose where a write failed, and stands where it was where memory ran out
abbrev pub Stops : Option (List ℕ) → Option (List ℕ) → List ℕ → ℕ → ℕ → WriteError → Type 0
Stops old new whole before now Memory = GrowsWithin old new whole × (now ≡ before)
Stops old new whole before now Failed = GrowsWithin old new whole × Rose before now

-- all of it is written, or it stops
abbrev pub Writes : {T : Type 0} → Option (List ℕ) → Option (List ℕ) → List ℕ → ℕ → ℕ → Result T WriteError → Type 0
Writes old new whole before now (Ok done) = (new ≡ grown old whole) × (now ≡ before)
Writes old new whole before now (Err stop) = Stops old new whole before now stop
