-- The field that a value is in an output row (this project's own; null and backslashes as in manual COPY).
use Rattle.std.specs.Prelude.{ℕ, List, ◌∷◌, Bool, ◌||◌, cond, codes, map}
use Rattle.std.specs.Str.{bytes_eq}
use Rattle.csv.specs.Writing.{default_writer, row_text}
use Rattle.xp_value.specs.declared.value.Value.{Value}
use Rattle.xp_value.specs.Null.{is_null}
use Rattle.xp_io.specs.Forms.{output}
use Rattle.xp_rows.specs.Fields.{backslash, begins_with_two}

-- a text that would be read as null, or would lose a backslash
abbrev pub needs_backslash : List ℕ → Bool
needs_backslash text = bytes_eq text (codes "\\N") || begins_with_two text

-- such a text gets one more backslash in front
abbrev pub escaped : List ℕ → List ℕ
escaped text = cond (needs_backslash text) (backslash ∷ text) text

-- null is `\N`, every other value its text
abbrev pub field_of : Value → List ℕ
field_of v = cond (is_null v) (codes "\\N") (escaped (output v))

-- a row, as the default writer of csv writes it
abbrev pub row_line : List Value → List ℕ
row_line values = row_text default_writer (map field_of values)
