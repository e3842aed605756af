-- What bodies say of texts and padded texts, and their names: comparisons, LIKE and ILIKE, measures (manual 9.2, 9.4, 9.7).
use Rattle.std.specs.Prelude.{ℕ, Bool, ◌==◌, pos, List, [], ◌∷◌, ◌++◌, map, length, codes, Result, Ok}
use Rattle.std.specs.Cmp.Lexicographic.{slice_cmp}
use Rattle.std.specs.List.{starts_with}
use Rattle.std.specs.Ordering.{nat_cmp}
use Rattle.std.specs.Str.{chars}
use Rattle.xp_base.specs.declared.codes.EvalError.{EvalError}
use Rattle.xp_bodies.specs.Row.{name_of}
use Rattle.xp_characters.specs.Search.{strpos}
use Rattle.xp_like.specs.Patterns.{ilike, like, negated}
use Rattle.xp_text.specs.Made.{first_code}
use Rattle.xp_value.specs.Order.{unpadded}
use Rattle.xp_value.specs.declared.value.Value.{Value}
use Rattle.xp_call.specs.Arguments.{Outcome, answer, count, holds, number, of_one, of_two, pad_in, text_in, truth}
use Rattle.xp_call.specs.Words.{comparison_word, comparisons}
use Rattle.xp_call.specs.declared.texts.Matching.{Matching}
use Rattle.xp_call.specs.declared.texts.Matching.TheVariants as matching
use Rattle.xp_call.specs.declared.texts.Measure.{Measure}
use Rattle.xp_call.specs.declared.texts.Measure.TheVariants as measure
use Rattle.xp_call.specs.declared.texts.TextOperation.{TextOperation}
use Rattle.xp_call.specs.declared.texts.TextOperation.TheVariants as operation

-- ---- what a word gives

-- of the characters of a text and of a pattern
abbrev pub matched : Matching → (text pattern : List ℕ) → Result Bool EvalError
matched matching.Like text pattern = like text pattern
matched matching.NotLike text pattern = negated (like text pattern)
matched matching.LikeInAnyCase text pattern = ilike text pattern
matched matching.NotLikeInAnyCase text pattern = negated (ilike text pattern)

-- how many characters or bytes
abbrev pub measured : Measure → List ℕ → ℕ
measured measure.Length text = length (chars text)
measured measure.OctetLength text = length text

-- spaces at the end of a padded text are no characters of it
abbrev pub padded_measured : Measure → List ℕ → ℕ
padded_measured measure.Length text = length (chars (unpadded text))
padded_measured measure.OctetLength text = length text

-- what it gives of the values of its arguments
abbrev pub of_texts : TextOperation → List Value → Outcome
of_texts (operation.Compare word) = of_two text_in text_in (λ a b. truth (holds word (slice_cmp nat_cmp a b)))
of_texts (operation.ComparePadded word) = of_two pad_in pad_in (λ a b. truth (holds word (slice_cmp nat_cmp (unpadded a) (unpadded b))))
of_texts (operation.Match word) = of_two text_in text_in (λ text pattern. answer (matched word (chars text) (chars pattern)))
of_texts (operation.MatchPadded word) = of_two pad_in text_in (λ text pattern. answer (matched word (chars text) (chars pattern)))
of_texts (operation.Measure word) = of_one text_in (λ a. count (measured word a))
of_texts (operation.MeasurePadded word) = of_one pad_in (λ a. count (padded_measured word a))
of_texts operation.Place = of_two text_in text_in (λ a part. count (strpos (chars a) (chars part)))
of_texts operation.StartsWith = of_two text_in text_in (λ a part. truth (starts_with (λ x y. x == y) a part))
of_texts operation.FirstCode = of_one text_in (λ a. number (Ok (pos (first_code (chars a)))))

-- ---- names

abbrev pub matching_word : Matching → List ℕ
matching_word matching.Like = codes "like"
matching_word matching.NotLike = codes "nlike"
matching_word matching.LikeInAnyCase = codes "ilike"
matching_word matching.NotLikeInAnyCase = codes "nilike"

abbrev pub measure_word : Measure → List ℕ
measure_word measure.Length = codes "length"
measure_word measure.OctetLength = codes "octet_length"

-- the name of the body that does it: its word and the types of its arguments
abbrev pub text_name : TextOperation → List ℕ
text_name (operation.Compare word) = name_of (comparison_word word) (codes "text" ∷ codes "text" ∷ [])
text_name (operation.ComparePadded word) = name_of (comparison_word word) (codes "bpchar" ∷ codes "bpchar" ∷ [])
text_name (operation.Match word) = name_of (matching_word word) (codes "text" ∷ codes "text" ∷ [])
text_name (operation.MatchPadded word) = name_of (matching_word word) (codes "bpchar" ∷ codes "text" ∷ [])
text_name (operation.Measure word) = name_of (measure_word word) (codes "text" ∷ [])
text_name (operation.MeasurePadded word) = name_of (measure_word word) (codes "bpchar" ∷ [])
text_name operation.Place = codes "strpos_text_text"
text_name operation.StartsWith = codes "starts_with_text_text"
text_name operation.FirstCode = codes "ascii_text"

abbrev pub matchings : List Matching
matchings = matching.Like ∷ matching.NotLike ∷ matching.LikeInAnyCase ∷ matching.NotLikeInAnyCase ∷ []

abbrev pub measures : List Measure
measures = measure.Length ∷ measure.OctetLength ∷ []

abbrev pub text_operations : List TextOperation
text_operations =
    map operation.Compare comparisons
    ++ map operation.ComparePadded comparisons
    ++ map operation.Match matchings
    ++ map operation.MatchPadded matchings
    ++ map operation.Measure measures
    ++ map operation.MeasurePadded measures
    ++ operation.Place ∷ operation.StartsWith ∷ operation.FirstCode ∷ []
