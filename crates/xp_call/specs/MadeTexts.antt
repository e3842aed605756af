-- Which texts bodies make, and their names (manual 9.4).
use Rattle.std.specs.Prelude.{ℕ, ℤ, List, [], ◌∷◌, ◌++◌, map, codes, reverse, Ok}
use Rattle.std.specs.Char.{to_ascii_lowercase, to_ascii_uppercase}
use Rattle.std.specs.Str.{chars, encode_utf8_all}
use Rattle.xp_bodies.specs.Row.{name_of}
use Rattle.xp_characters.specs.Characters.{over}
use Rattle.xp_characters.specs.Faults.{changed as changed_result, limited}
use Rattle.xp_characters.specs.Places.{from, substr}
use Rattle.xp_text.specs.Fields.{replace, split_part}
use Rattle.xp_text.specs.Made.{chr, repeated, times, truth as truth_of}
use Rattle.xp_text.specs.Parts.{left, lpad, right, rpad}
use Rattle.xp_text.specs.Sets.{btrim, ltrim, rtrim, translate}
use Rattle.xp_value.specs.Order.{unpadded}
use Rattle.xp_value.specs.declared.value.Value.{Value}
use Rattle.xp_value.specs.declared.value.Value.TheVariants as value
use Rattle.xp_call.specs.Arguments.{Outcome, bool_in, integer_in, of_one, of_three, of_two, pad_in, text, text_in}
use Rattle.xp_call.specs.declared.operations.IntType.TheVariants.{Int4}
use Rattle.xp_call.specs.declared.made_texts.Joining.{Joining}
use Rattle.xp_call.specs.declared.made_texts.Joining.TheVariants as joining
use Rattle.xp_call.specs.declared.made_texts.TextType.{TextType}
use Rattle.xp_call.specs.declared.made_texts.TextType.TheVariants as text_type
use Rattle.xp_call.specs.declared.made_texts.Change.{Change}
use Rattle.xp_call.specs.declared.made_texts.Change.TheVariants as change
use Rattle.xp_call.specs.declared.made_texts.Cut.{Cut}
use Rattle.xp_call.specs.declared.made_texts.Cut.TheVariants as cuts
use Rattle.xp_call.specs.declared.made_texts.Padding.{Padding}
use Rattle.xp_call.specs.declared.made_texts.Padding.TheVariants as padding
use Rattle.xp_call.specs.declared.made_texts.Ends.{Ends}
use Rattle.xp_call.specs.declared.made_texts.Ends.TheVariants as ends
use Rattle.xp_call.specs.declared.made_texts.Exchange.{Exchange}
use Rattle.xp_call.specs.declared.made_texts.Exchange.TheVariants as exchange
use Rattle.xp_call.specs.declared.made_texts.TextMaking.{TextMaking}
use Rattle.xp_call.specs.declared.made_texts.TextMaking.TheVariants as making

-- ---- what a word gives

abbrev pub changed : Change → List ℕ → List ℕ
changed change.Upper a = map to_ascii_uppercase a
changed change.Lower a = map to_ascii_lowercase a
changed change.Reverse a = over reverse a

-- of the characters of a text
abbrev pub cut : Cut → List ℕ → ℤ → List ℕ
cut cuts.From cs n = from cs n
cut cuts.Left cs n = left cs n
cut cuts.Right cs n = right cs n

abbrev pub padded : Padding → List ℕ → ℕ → (fill : List ℕ) → List ℕ
padded padding.Before cs n fill = lpad cs n fill
padded padding.Behind cs n fill = rpad cs n fill

abbrev pub trimmed : Ends → (set : List ℕ) → List ℕ → List ℕ
trimmed ends.Left set cs = ltrim set cs
trimmed ends.Right set cs = rtrim set cs
trimmed ends.Both set cs = btrim set cs

abbrev pub exchanged : Exchange → (cs old new : List ℕ) → List ℕ
exchanged exchange.Replace cs old new = replace cs old new
exchanged exchange.Translate cs old new = translate cs old new

-- what it gives of the values of its arguments; 32 is the space
abbrev pub of_made_texts : TextMaking → List Value → Outcome
of_made_texts (making.Join word) = of_two text_in text_in (λ a b. text (limited (a ++ b)))
of_made_texts (making.OfPadded to) = of_one pad_in (λ a. text (Ok (unpadded a)))
of_made_texts (making.OfBool to) = of_one bool_in (λ b. text (Ok (truth_of b)))
of_made_texts making.PaddedOfBool = of_one bool_in (λ b. Ok (value.Pad (truth_of b)))
of_made_texts (making.Change word) = of_one text_in (λ a. text (Ok (changed word a)))
of_made_texts (making.Cut word) = of_two text_in (integer_in Int4) (λ a n. text (Ok (over (λ cs. cut word cs n) a)))
of_made_texts making.Part = of_three text_in (integer_in Int4) (integer_in Int4) (λ a n m. text (changed_result encode_utf8_all (substr (chars a) n m)))
of_made_texts making.Repeat = of_two text_in (integer_in Int4) (λ a n. text (limited (repeated (times n) a)))
of_made_texts (making.Pad word) = of_two text_in (integer_in Int4) (λ a n. text (limited (encode_utf8_all (padded word (chars a) (times n) (32 ∷ [])))))
of_made_texts (making.PadWith word) = of_three text_in (integer_in Int4) text_in (λ a n fill. text (limited (encode_utf8_all (padded word (chars a) (times n) (chars fill)))))
of_made_texts (making.Trim at) = of_one text_in (λ a. text (Ok (over (trimmed at (32 ∷ [])) a)))
of_made_texts (making.TrimSet at) = of_two text_in text_in (λ a set. text (Ok (over (trimmed at (chars set)) a)))
of_made_texts (making.Exchange word) = of_three text_in text_in text_in (λ a old new. text (limited (encode_utf8_all (exchanged word (chars a) (chars old) (chars new)))))
of_made_texts making.Field = of_three text_in text_in (integer_in Int4) (λ a delimiter n. text (split_part a delimiter n))
of_made_texts making.OfCode = of_one (integer_in Int4) (λ n. text (chr n))

-- ---- names

abbrev pub joining_name : Joining → List ℕ
joining_name joining.Texts = codes "cat_text_text"
joining_name joining.TextAndAny = codes "textany_text_anynonarray"
joining_name joining.AnyAndText = codes "anytext_anynonarray_text"

abbrev pub text_type_name : TextType → List ℕ
text_type_name text_type.Text = codes "text"
text_type_name text_type.Varchar = codes "varchar"

abbrev pub change_word : Change → List ℕ
change_word change.Upper = codes "upper"
change_word change.Lower = codes "lower"
change_word change.Reverse = codes "reverse"

abbrev pub cut_word : Cut → List ℕ
cut_word cuts.From = codes "substr"
cut_word cuts.Left = codes "left"
cut_word cuts.Right = codes "right"

abbrev pub padding_word : Padding → List ℕ
padding_word padding.Before = codes "lpad"
padding_word padding.Behind = codes "rpad"

abbrev pub ends_word : Ends → List ℕ
ends_word ends.Left = codes "ltrim"
ends_word ends.Right = codes "rtrim"
ends_word ends.Both = codes "btrim"

abbrev pub exchange_word : Exchange → List ℕ
exchange_word exchange.Replace = codes "replace"
exchange_word exchange.Translate = codes "translate"

-- the name of the body that does it: its word and the types of its arguments
abbrev pub making_name : TextMaking → List ℕ
making_name (making.Join word) = joining_name word
making_name (making.OfPadded to) = name_of (text_type_name to) (codes "bpchar" ∷ [])
making_name (making.OfBool to) = name_of (text_type_name to) (codes "bool" ∷ [])
making_name making.PaddedOfBool = codes "bpchar_bool"
making_name (making.Change word) = name_of (change_word word) (codes "text" ∷ [])
making_name (making.Cut word) = name_of (cut_word word) (codes "text" ∷ codes "int4" ∷ [])
making_name making.Part = codes "substr_text_int4_int4"
making_name making.Repeat = codes "repeat_text_int4"
making_name (making.Pad word) = name_of (padding_word word) (codes "text" ∷ codes "int4" ∷ [])
making_name (making.PadWith word) = name_of (padding_word word) (codes "text" ∷ codes "int4" ∷ codes "text" ∷ [])
making_name (making.Trim at) = name_of (ends_word at) (codes "text" ∷ [])
making_name (making.TrimSet at) = name_of (ends_word at) (codes "text" ∷ codes "text" ∷ [])
making_name (making.Exchange word) = name_of (exchange_word word) (codes "text" ∷ codes "text" ∷ codes "text" ∷ [])
making_name making.Field = codes "split_part_text_text_int4"
making_name making.OfCode = codes "chr_int4"

abbrev pub text_types : List TextType
text_types = text_type.Text ∷ text_type.Varchar ∷ []

abbrev pub paddings : List Padding
paddings = padding.Before ∷ padding.Behind ∷ []

abbrev pub all_ends : List Ends
all_ends = ends.Left ∷ ends.Right ∷ ends.Both ∷ []

abbrev pub text_makings : List TextMaking
text_makings =
    map making.Join (joining.Texts ∷ joining.TextAndAny ∷ joining.AnyAndText ∷ [])
    ++ map making.OfPadded text_types
    ++ map making.OfBool text_types
    ++ map making.Change (change.Upper ∷ change.Lower ∷ change.Reverse ∷ [])
    ++ map making.Cut (cuts.From ∷ cuts.Left ∷ cuts.Right ∷ [])
    ++ map making.Pad paddings
    ++ map making.PadWith paddings
    ++ map making.Trim all_ends
    ++ map making.TrimSet all_ends
    ++ map making.Exchange (exchange.Replace ∷ exchange.Translate ∷ [])
    ++ making.PaddedOfBool ∷ making.Part ∷ making.Repeat ∷ making.Field ∷ making.OfCode ∷ []
