-- A writer of records of any width writes each as the default writer does.
use Rattle.std.proofs.Common.{◌≡◌, ◌==◌, ℕ, List, [], ◌∷◌, ◌++◌, true, refl, sym, ap, ◌∙◌}
use Rattle.std.proofs.lemmas.List.{append-nil}
use Rattle.std.specs.Prelude.{if◌then◌else◌}
use Rattle.csv.specs.Writing.{default_writer, escaped, field_text, fields_text, is_blank, quote_mark, row_text, with_flexible}
use Rattle.csv.specs.declared.writer.QuoteStyle.TheVariants as style
use Rattle.csv.specs.declared.writer.WriterBuilder.{WriterBuilder}

abbrev pub any_width : WriterBuilder
any_width = with_flexible default_writer true

escaped_same : (field : List ℕ) → escaped any_width field ≡ escaped default_writer field
unfolding escaped
escaped_same [] = refl
escaped_same (b ∷ rest) = ap (λ more. if b == quote_mark then quote_mark ∷ b ∷ more else b ∷ more) (escaped_same rest)

field_same : (field : List ℕ) → field_text any_width field ≡ field_text default_writer field
field_same field = rw (escaped_same field) refl

fields_same : (fields : List (List ℕ)) → fields_text any_width fields ≡ fields_text default_writer fields
unfolding fields_text
fields_same [] = refl
fields_same (field ∷ rest) = rw (field_same field, fields_same rest) refl

blank_same : (fields : List (List ℕ)) → is_blank any_width fields ≡ is_blank default_writer fields
unfolding is_blank
blank_same [] = refl
blank_same (field ∷ []) = rw (field_same field) refl
blank_same (field ∷ next ∷ rest) = refl

pub row_same : (fields : List (List ℕ)) → row_text any_width fields ≡ row_text default_writer fields
row_same [] = rw (blank_same []) refl
row_same (field ∷ rest) = rw (field_same field, fields_same rest, blank_same (field ∷ rest)) refl

-- what is written behind a text, where nothing is held back before and after
pub text_grows : (old held mid between new after : List ℕ) (cfg : WriterBuilder) (fields : List (List ℕ)) → held ≡ [] → after ≡ [] → cfg ≡ any_width → mid ++ between ≡ old ++ held ++ row_text cfg fields
    → new ++ after ≡ mid ++ between → new ≡ old ++ row_text default_writer fields
text_grows old held mid between new after cfg fields h a s written kept =
    let told : new ++ [] ≡ old ++ [] ++ row_text any_width fields = rw (h, s, a) at (kept ∙ written) in
    sym (append-nil new) ∙ told ∙ ap (λ front. front ++ row_text any_width fields) (append-nil old) ∙ ap (λ text. old ++ text) (row_same fields)

pub reads_no_number : (cfg : WriterBuilder) → cfg ≡ any_width → cfg.style ≡ style.NonNumeric → ⊥
reads_no_number cfg e h = let no : style.Necessary ≡ style.NonNumeric = sym (ap (λ c. c.style) e) ∙ h in cc
