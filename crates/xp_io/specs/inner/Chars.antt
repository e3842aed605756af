-- What is known of the characters and bytes in a value.
use Rattle.std.specs.Str.{IsUtf8}
use Rattle.hex.specs.Hex.{IsBytes}
use Rattle.xp_value.specs.declared.value.Value.{Value}
use Rattle.xp_value.specs.declared.value.Value.TheVariants as value

-- a text is UTF-8, and bytes are below 256
abbrev pub IsChars : Value → Type 0
IsChars (value.Text text) = IsUtf8 text
IsChars (value.Pad text) = IsUtf8 text
IsChars (value.Bytes bytes) = IsBytes bytes
IsChars (value.Opaque text) = IsUtf8 text
IsChars v = Unit {0}
