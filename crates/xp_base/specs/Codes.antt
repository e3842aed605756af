-- The codes of refusals and errors as they are printed (manual appendix A; the words are this project's own).
use Rattle.std.specs.Prelude.{ℕ, List, codes}
use Rattle.xp_base.specs.declared.codes.Code.{Code}
use Rattle.xp_base.specs.declared.codes.Code.TheVariants as code
use Rattle.xp_base.specs.declared.codes.EvalError.{EvalError}
use Rattle.xp_base.specs.declared.codes.EvalError.TheVariants as error

-- the five characters of an error's state
abbrev pub error_state_of : EvalError → List ℕ
error_state_of error.DivisionByZero = codes "22012"
error_state_of error.OutOfRange = codes "22003"
error_state_of error.BadText = codes "22P02"
error_state_of error.BadDate = codes "22007"
error_state_of error.DateOutOfRange = codes "22008"
error_state_of error.TooLong = codes "22001"
error_state_of error.RangeData = codes "22000"
error_state_of error.Substring = codes "22011"
error_state_of error.BadCharacter = codes "22021"
error_state_of error.BadParameter = codes "22023"
error_state_of error.BadEscape = codes "22025"
error_state_of error.BadSubscript = codes "2202E"
error_state_of error.NotNull = codes "23502"
error_state_of error.Check = codes "23514"
error_state_of error.Limit = codes "54000"
error_state_of error.Dimensions = codes "0A000"

-- the word of an error
abbrev pub error_word_of : EvalError → List ℕ
error_word_of error.DivisionByZero = codes "division_by_zero"
error_word_of error.OutOfRange = codes "out_of_range"
error_word_of error.BadText = codes "bad_text"
error_word_of error.BadDate = codes "bad_date"
error_word_of error.DateOutOfRange = codes "date_out_of_range"
error_word_of error.TooLong = codes "too_long"
error_word_of error.RangeData = codes "range_data"
error_word_of error.Substring = codes "substring"
error_word_of error.BadCharacter = codes "bad_character"
error_word_of error.BadParameter = codes "bad_parameter"
error_word_of error.BadEscape = codes "bad_escape"
error_word_of error.BadSubscript = codes "bad_subscript"
error_word_of error.NotNull = codes "not_null"
error_word_of error.Check = codes "check"
error_word_of error.Limit = codes "limit"
error_word_of error.Dimensions = codes "dimensions"

-- the five characters of a code's state
abbrev pub state_of : Code → List ℕ
state_of code.BadByte = codes "42601"
state_of code.Unclosed = codes "42601"
state_of code.TooManyTokens = codes "54001"
state_of code.Syntax = codes "42601"
state_of code.TooDeep = codes "54001"
state_of code.NotBuilt = codes "0A000"
state_of code.Undefined = codes "42883"
state_of code.Ambiguous = codes "42725"
state_of code.Indeterminate = codes "42P18"
state_of code.Mismatch = codes "42804"
state_of code.CannotCoerce = codes "42846"
state_of code.UnknownColumn = codes "42703"
state_of code.UnknownType = codes "42704"
state_of code.NotBoolean = codes "42804"
state_of code.BadModifier = codes "22023"
state_of code.NestedArray = codes "0A000"
state_of code.NoBody = codes "0A000"
state_of code.TooBig = codes "54001"
state_of (code.Raised error) = error_state_of error

-- the word of a code
abbrev pub word_of : Code → List ℕ
word_of code.BadByte = codes "bad_byte"
word_of code.Unclosed = codes "unclosed"
word_of code.TooManyTokens = codes "too_many_tokens"
word_of code.Syntax = codes "syntax"
word_of code.TooDeep = codes "too_deep"
word_of code.NotBuilt = codes "not_built"
word_of code.Undefined = codes "undefined"
word_of code.Ambiguous = codes "ambiguous"
word_of code.Indeterminate = codes "indeterminate"
word_of code.Mismatch = codes "mismatch"
word_of code.CannotCoerce = codes "cannot_coerce"
word_of code.UnknownColumn = codes "unknown_column"
word_of code.UnknownType = codes "unknown_type"
word_of code.NotBoolean = codes "not_boolean"
word_of code.BadModifier = codes "bad_modifier"
word_of code.NestedArray = codes "nested_array"
word_of code.NoBody = codes "no_body"
word_of code.TooBig = codes "too_big"
word_of (code.Raised error) = error_word_of error
