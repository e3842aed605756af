-- The text form of booleans (manual 8.6).
use Rattle.std.specs.Prelude.{ℕ, List, Bool, true, false, ◌&&◌, ◌||◌, cond, codes, length, nat_le, take, Result, Ok, Err}
use Rattle.std.specs.Str.{bytes_eq, str_to_ascii_lowercase}
use Rattle.xp_base.specs.declared.codes.EvalError.{EvalError}
use Rattle.xp_base.specs.declared.codes.EvalError.TheVariants as error
use Rattle.xp_io.specs.Space.{trimmed}

-- the two are the same in any case
abbrev pub is_alike : List ℕ → List ℕ → Bool
is_alike a b = bytes_eq (str_to_ascii_lowercase a) (str_to_ascii_lowercase b)

-- the word has so many letters at least, no more than the name, and they are the name's first
abbrev pub is_front : ℕ → List ℕ → List ℕ → Bool
is_front least name word = nat_le least (length word) && nat_le (length word) (length name) && is_alike (take (length word) name) word

-- `o` alone could be on or off
abbrev pub spells_true : List ℕ → Bool
spells_true word = is_front 1 (codes "true") word || is_front 1 (codes "yes") word || is_front 2 (codes "on") word || is_front 1 (codes "1") word

abbrev pub spells_false : List ℕ → Bool
spells_false word = is_front 1 (codes "false") word || is_front 1 (codes "no") word || is_front 2 (codes "off") word || is_front 1 (codes "0") word

abbrev pub truth_of : List ℕ → Result Bool EvalError
truth_of word = cond (spells_true word) (Ok true) (cond (spells_false word) (Ok false) (Err error.BadText))

-- the boolean that the text is
abbrev pub input_bool : List ℕ → Result Bool EvalError
input_bool text = truth_of (trimmed text)

-- the text of a boolean
abbrev pub output_bool : Bool → List ℕ
output_bool truth = cond truth (codes "t") (codes "f")
