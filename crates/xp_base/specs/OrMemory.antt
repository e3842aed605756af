-- Answers that want of memory may take the place of.
use Rattle.std.specs.Prelude.{◌≡◌, Bool, Result, Ok, Err, MatchBool}

-- the answer is this one, or it is want of memory, which may come at any time
abbrev pub OrMemory : {A E : Type 0} → (E → Bool) → Result A E → Result A E → Type 0
OrMemory is_memory said (Ok value) = said ≡ Ok value
OrMemory is_memory said (Err fault) = MatchBool (is_memory fault) (Unit {0}) (said ≡ Err fault)
