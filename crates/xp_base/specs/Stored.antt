-- What the shelves and the sink in memory show, and when they fail.
use Rattle.std.specs.Prelude.{ℕ, ◌+◌, ◌-◌, ◌^◌, ◌==◌, ◌&&◌, not, min, List, Bool, cond, nat_lt, nat_le, length, map, Option, Some, None, Result, Ok, Err}
use Rattle.std.specs.List.{list_any}
use Rattle.xp_base.specs.OrMemory.{OrMemory}
use Rattle.xp_base.specs.Outside.{Files, text_at, is_load_memory}
use Rattle.xp_base.specs.declared.memory.StoredFile.{StoredFile}
use Rattle.xp_base.specs.declared.memory.MemoryShelf.{MemoryShelf}
use Rattle.xp_base.specs.declared.memory.MemorySink.{MemorySink}
use Rattle.xp_base.specs.declared.quiet.QuietShelf.{QuietShelf}
use Rattle.xp_base.specs.declared.outside.LoadFault.{LoadFault}
use Rattle.xp_base.specs.declared.outside.LoadFault.TheVariants as fault

-- files as names and texts
abbrev pub pairs : List StoredFile → Files
pairs files = map (λ file. (file.name, file.text)) files

-- one more, for a count that stops at the greatest u64
abbrev pub next_call : ℕ → ℕ
next_call count = min (count + 1) (2 ^ 64 - 1)

-- the call of this number is to fail
abbrev pub is_failing : ℕ → List ℕ → Bool
is_failing call failing = list_any (λ number. number == call) failing

abbrev pub shelf_files : MemoryShelf → Files
shelf_files shelf = pairs shelf.files.items

abbrev pub shelf_failing : MemoryShelf → List ℕ
shelf_failing shelf = shelf.failing.items

abbrev pub shelf_calls : MemoryShelf → ℕ
shelf_calls shelf = shelf.calls

abbrev pub shelf_faults : MemoryShelf → ℕ
shelf_faults shelf = shelf.faults

abbrev pub quiet_files : QuietShelf → Files
quiet_files shelf = pairs shelf.files.items

-- a text, unless it is longer than the limit
abbrev pub text_within : ℕ → List ℕ → Result (List ℕ) LoadFault
text_within limit text = cond (nat_lt limit (length text)) (Err (fault.TooLong (limit + 1))) (Ok text)

-- what the files answer
abbrev pub text_answer : ℕ → Option (List ℕ) → Result (List ℕ) LoadFault
text_answer limit None = Err fault.Failed
text_answer limit (Some text) = text_within limit text

abbrev pub file_answer : Files → List ℕ → ℕ → Result (List ℕ) LoadFault
file_answer files name limit = text_answer limit (text_at files name)

-- what a shelf in memory answers to its next call
abbrev pub shelf_answer : MemoryShelf → List ℕ → ℕ → Result (List ℕ) LoadFault
shelf_answer shelf name limit = cond (is_failing (next_call shelf.calls) shelf.failing.items) (Err fault.Failed) (file_answer (shelf_files shelf) name limit)

-- what `load` answers is this, or want of memory
abbrev pub AnswersShelf : Result (List ℕ) LoadFault → Result (List ℕ) LoadFault → Type 0
AnswersShelf said result = OrMemory is_load_memory said result

-- the faults behind the shelf's next call: one more exactly where that call is to fail, and none for a name that isn't there
abbrev pub shelf_faults_after : MemoryShelf → ℕ
shelf_faults_after shelf = cond (is_failing (next_call shelf.calls) shelf.failing.items) (next_call shelf.faults) shelf.faults

abbrev pub sink_bytes : MemorySink → List ℕ
sink_bytes sink = sink.bytes.items

-- how many bytes may still be put
abbrev pub sink_room : MemorySink → ℕ
sink_room sink = sink.room

abbrev pub sink_failing : MemorySink → List ℕ
sink_failing sink = sink.failing.items

abbrev pub sink_calls : MemorySink → ℕ
sink_calls sink = sink.calls

abbrev pub sink_faults : MemorySink → ℕ
sink_faults sink = sink.faults

-- the next call puts the piece: it isn't to fail, and the room is enough
abbrev pub puts_in_memory : MemorySink → List ℕ → Bool
puts_in_memory sink piece = not (is_failing (next_call sink.calls) sink.failing.items) && nat_le (length piece) sink.room

-- the room behind the next call
abbrev pub room_after : MemorySink → List ℕ → ℕ
room_after sink piece = cond (puts_in_memory sink piece) (sink.room - length piece) sink.room

-- the faults behind the sink's next call: one more exactly where it doesn't put the piece
abbrev pub sink_faults_after : MemorySink → List ℕ → ℕ
sink_faults_after sink piece = cond (puts_in_memory sink piece) sink.faults (next_call sink.faults)
