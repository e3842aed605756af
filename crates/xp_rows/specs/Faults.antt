-- What is read, or the first fault of a rows file (this project's own).
use Rattle.std.specs.Prelude.{List, ◌∷◌, Bool, true, false, Result, Ok, Err}
use Rattle.xp_base.specs.OrMemory.{OrMemory}
use Rattle.xp_rows.specs.declared.fault.RowsFault.{RowsFault}
use Rattle.xp_rows.specs.declared.fault.RowsFault.TheVariants.{Field, Header, Memory, TooMany, Unread, Width}

abbrev pub and_then : {A B : Type 0} → Result A RowsFault → (A → Result B RowsFault) → Result B RowsFault
and_then (Ok a) onward = onward a
and_then (Err fault) onward = Err fault

-- one, and those behind it
abbrev pub followed : {A : Type 0} → A → Result (List A) RowsFault → Result (List A) RowsFault
followed a rest = and_then rest (λ more. Ok (a ∷ more))

-- no fault of the text: there was no memory, or the reader of its bytes failed
abbrev pub is_outside : RowsFault → Bool
is_outside (Header column why) = false
is_outside (Width row) = false
is_outside (Field row column error) = false
is_outside (TooMany row) = false
is_outside Unread = true
is_outside Memory = true

-- this answer, or one that is no fault of the text
abbrev pub Loads : {A : Type 0} → Result A RowsFault → Result A RowsFault → Type 0
Loads said result = OrMemory is_outside said result
