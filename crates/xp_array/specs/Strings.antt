-- Arrays as texts with delimiters, and texts with delimiters as arrays (manual 9.19). Texts are
-- divided by their bytes: in UTF-8 a text stands in another where its bytes do.
use Rattle.std.specs.Prelude.{ℕ, if◌then◌else◌, List, [], ◌∷◌, map, filter_map, Option, Some, None, Result, Ok}
use Rattle.std.specs.Char.{encode_utf8}
use Rattle.std.specs.List.{join_by}
use Rattle.std.specs.Str.{bytes_eq, chars}
use Rattle.xp_array.specs.Made.{some, with_limit}
use Rattle.xp_base.specs.FromLeft.{and_then}
use Rattle.xp_characters.specs.Faults.{limited}
use Rattle.xp_characters.specs.declared.fault.TextFault.{TextFault}
use Rattle.xp_text.specs.Fields.{fields}
use Rattle.xp_value.specs.declared.value.Value.{Value}
use Rattle.xp_value.specs.declared.value.Value.TheVariants as value

-- an element as it is shown: its text, or in the place of null another text, where there is one
abbrev pub shown : (null : Option (List ℕ)) → Value → Option (List ℕ)
shown null (value.Text text) = Some text
shown null v = null

-- the elements that are shown, with the delimiter between each two
abbrev pub shown_all : List Value → (delimiter : List ℕ) → (null : Option (List ℕ)) → List ℕ
shown_all elements delimiter null = join_by (λ text. text) delimiter (filter_map (shown null) elements)

-- null where the array or the delimiter is
abbrev pub to_string : Option (List Value) → (delimiter null : Option (List ℕ)) → Result (Option (List ℕ)) TextFault
to_string (Some elements) (Some delimiter) null = and_then (limited (shown_all elements delimiter null)) (λ text. Ok (Some text))
to_string a delimiter null = Ok None

-- a field that equals this text is null
abbrev pub field_value : (null : Option (List ℕ)) → List ℕ → Value
field_value None field = value.Text field
field_value (Some null) field = if bytes_eq field null then value.Null else value.Text field

-- an empty text has no fields; a null delimiter stands between each two characters, and an empty
-- one nowhere
abbrev pub divided : List ℕ → (delimiter : Option (List ℕ)) → List (List ℕ)
divided [] delimiter = []
divided (c ∷ text) None = map encode_utf8 (chars (c ∷ text))
divided (c ∷ text) (Some delimiter) = fields delimiter (c ∷ text)

-- null where the text is
abbrev pub to_array : (text delimiter null : Option (List ℕ)) → Result (Option (List Value)) TextFault
to_array None delimiter null = Ok None
to_array (Some text) delimiter null = some (with_limit (map (field_value null) (divided text delimiter)))
