-- What the bodies of texts and byte strings do, by their places among them alone, as the code has it.
use Rattle.std.specs.Prelude.{ℕ, ◌/◌, ◌%◌, ◌-◌, ◌==◌, nat_lt, Option, Some, None, cond}
use Rattle.xp_call.specs.declared.bytes.BytesMaking.TheVariants as bytes_making
use Rattle.xp_call.specs.declared.bytes.BytesOperation.TheVariants as bytes
use Rattle.xp_call.specs.declared.made_texts.Joining.TheVariants as joining
use Rattle.xp_call.specs.declared.made_texts.TextType.TheVariants as text_type
use Rattle.xp_call.specs.declared.made_texts.Change.TheVariants as change
use Rattle.xp_call.specs.declared.made_texts.Cut.TheVariants as cuts
use Rattle.xp_call.specs.declared.made_texts.Padding.TheVariants as padding
use Rattle.xp_call.specs.declared.made_texts.Ends.{Ends}
use Rattle.xp_call.specs.declared.made_texts.Ends.TheVariants as ends
use Rattle.xp_call.specs.declared.made_texts.Exchange.TheVariants as exchange
use Rattle.xp_call.specs.declared.made_texts.TextMaking.{TextMaking}
use Rattle.xp_call.specs.declared.made_texts.TextMaking.TheVariants as making
use Rattle.xp_call.specs.declared.operations.Operation.{Operation}
use Rattle.xp_call.specs.declared.operations.Operation.TheVariants as operation
use Rattle.xp_call.specs.declared.texts.Matching.{Matching}
use Rattle.xp_call.specs.declared.texts.Matching.TheVariants as matching
use Rattle.xp_call.specs.declared.texts.Measure.{Measure}
use Rattle.xp_call.specs.declared.texts.Measure.TheVariants as measure
use Rattle.xp_call.specs.declared.texts.TextOperation.TheVariants as texts
use Rattle.xp_call.specs.inner.Comparisons.{comparison_word}

abbrev pub joined_at : ℕ → Operation
joined_at place =
    cond (place == 0) (operation.MakeText (making.Join joining.Texts)) (
    cond (place == 1) (operation.MakeBytes bytes_making.Join) (
    cond (place == 2) (operation.MakeText (making.Join joining.TextAndAny)) (operation.MakeText (making.Join joining.AnyAndText))))

abbrev pub compared_at : ℕ → Operation
compared_at place =
    cond (place % 3 == 0) (operation.Text (texts.Compare (comparison_word (place / 3)))) (
    cond (place % 3 == 1) (operation.Text (texts.ComparePadded (comparison_word (place / 3)))) (operation.Bytes (bytes.Compare (comparison_word (place / 3)))))

abbrev pub matching_word : ℕ → Matching
matching_word place =
    cond (place == 0) matching.Like (
    cond (place == 1) matching.NotLike (
    cond (place == 2) matching.LikeInAnyCase matching.NotLikeInAnyCase))

abbrev pub matched_at : ℕ → Operation
matched_at place = cond (place % 2 == 0) (operation.Text (texts.Match (matching_word (place / 2)))) (operation.Text (texts.MatchPadded (matching_word (place / 2))))

abbrev pub cast_at : ℕ → Operation
cast_at place =
    cond (place == 0) (operation.Bytes bytes.Like) (
    cond (place == 1) (operation.Bytes bytes.NotLike) (
    cond (place == 2) (operation.MakeText (making.OfPadded text_type.Text)) (
    cond (place == 3) (operation.MakeText (making.OfBool text_type.Text)) (
    cond (place == 4) (operation.MakeText (making.OfPadded text_type.Varchar)) (
    cond (place == 5) (operation.MakeText (making.OfBool text_type.Varchar)) (operation.MakeText making.PaddedOfBool))))))

abbrev pub measure_word : ℕ → Measure
measure_word place = cond (place == 0) measure.Length measure.OctetLength

abbrev pub measured_at : ℕ → Operation
measured_at place =
    cond (place % 3 == 0) (operation.Text (texts.Measure (measure_word (place / 3)))) (
    cond (place % 3 == 1) (operation.Text (texts.MeasurePadded (measure_word (place / 3)))) (operation.Bytes (bytes.Measure (measure_word (place / 3)))))

abbrev pub placed_at : ℕ → Operation
placed_at place =
    cond (place == 0) (operation.MakeText (making.Change change.Upper)) (
    cond (place == 1) (operation.MakeText (making.Change change.Lower)) (
    cond (place == 2) (operation.MakeText (making.Change change.Reverse)) (
    cond (place == 3) (operation.MakeText (making.Cut cuts.From)) (
    cond (place == 4) (operation.MakeText making.Part) (
    cond (place == 5) (operation.MakeBytes bytes_making.From) (
    cond (place == 6) (operation.MakeBytes bytes_making.Part) (
    cond (place == 7) (operation.Text texts.Place) (operation.Bytes bytes.Place))))))))

abbrev pub sized_at : ℕ → TextMaking
sized_at place =
    cond (place == 0) (making.Cut cuts.Left) (
    cond (place == 1) (making.Cut cuts.Right) (
    cond (place == 2) making.Repeat (
    cond (place == 3) (making.Pad padding.Before) (
    cond (place == 4) (making.PadWith padding.Before) (
    cond (place == 5) (making.Pad padding.Behind) (making.PadWith padding.Behind))))))

abbrev pub ends_word : ℕ → Ends
ends_word place = cond (place == 0) ends.Left (cond (place == 1) ends.Right ends.Both)

abbrev pub trimmed_at : ℕ → TextMaking
trimmed_at place = cond (place % 2 == 0) (making.Trim (ends_word (place / 2))) (making.TrimSet (ends_word (place / 2)))

abbrev pub rewritten_at : ℕ → Operation
rewritten_at place =
    cond (place == 0) (operation.MakeText (making.Exchange exchange.Replace)) (
    cond (place == 1) (operation.MakeText (making.Exchange exchange.Translate)) (
    cond (place == 2) (operation.MakeText making.Field) (
    cond (place == 3) (operation.Text texts.StartsWith) (
    cond (place == 4) (operation.Text texts.FirstCode) (operation.MakeText making.OfCode)))))

abbrev pub coded_at : ℕ → Operation
coded_at place =
    cond (place == 0) (operation.MakeBytes bytes_making.Encode) (
    cond (place == 1) (operation.MakeBytes bytes_making.Decode) (
    cond (place == 2) (operation.Bytes bytes.Get) (operation.MakeBytes bytes_making.Set)))

abbrev pub whole_at : ℕ → Operation
whole_at place =
    cond (nat_lt place 4) (joined_at place) (
    cond (nat_lt place 22) (compared_at (place - 4)) (
    cond (nat_lt place 30) (matched_at (place - 22)) (
    cond (nat_lt place 37) (cast_at (place - 30)) (measured_at (place - 37)))))

-- two bodies that take any number of values aren't built
abbrev pub edited_at : ℕ → Option Operation
edited_at place =
    cond (nat_lt place 9) (Some (placed_at place)) (
    cond (nat_lt place 16) (Some (operation.MakeText (sized_at (place - 9)))) (
    cond (nat_lt place 22) (Some (operation.MakeText (trimmed_at (place - 16)))) (
    cond (nat_lt place 28) (Some (rewritten_at (place - 22))) (
    cond (nat_lt place 30) None (Some (coded_at (place - 30)))))))

unfoldable pub text_at : ℕ → Option Operation
text_at place = cond (nat_lt place 43) (Some (whole_at place)) (edited_at (place - 43))
