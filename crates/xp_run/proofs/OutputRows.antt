-- What is written of output rows: a row and those behind it, and those of an arm and the arms behind it.
use Rattle.std.proofs.Common.{◌≡◌, ℕ, ◌+◌, ◌<◌, ◌≤◌, ◌^◌, List, [], ◌∷◌, ◌++◌, Bool, true, false, length, get_or, drop, map, Option, Some, None, Ok, Err, refl, sym, ap, ◌∙◌, append_assoc, arith}
use Rattle.std.specs.Prelude.{is_ok, is_some}
use Rattle.std.specs.List.{concat, list_all}
use Rattle.std.proofs.lemmas.List.{append-nil, length-map}
use Rattle.xp_base.proofs.Lists.{drop_one, drop_none}
use Rattle.xp_base.specs.declared.codes.Code.TheVariants as code
use Rattle.xp_base.specs.declared.codes.EvalError.{EvalError}
use Rattle.xp_value.specs.declared.value.Value.{Value}
use Rattle.xp_tree.specs.Term.{Term, terms}
use Rattle.xp_analyse.specs.declared.typed.TypedArm.{TypedArm}
use Rattle.xp_eval.specs.Real.{first_raised, real}
use Rattle.xp_meaning.specs.Early.{at_once, early_all as parts_of_all, first_error}
use Rattle.xp_meaning.specs.Truth.{Outcome}
use Rattle.xp_run.specs.Answer.{OutputRow, arm_rows, early_parts, output_row, output_rows}
use Rattle.xp_run.specs.Blocks.{error_line, ok_line, row_lines}
use Rattle.xp_run.specs.Fields.{row_line}
use Rattle.xp_run.specs.inner.Arms.{count_after, ok_after, row_text, rows_text}

-- ---- one row

text_one : (k before : ℕ) (row : OutputRow) (rows : List OutputRow) → is_ok row ≡ true → rows_text k before (row ∷ rows) ≡ row_text k before row ++ rows_text k (before + 1) rows
text_one k before (Ok values) rows e = refl
text_one k before (Err error) rows e = absurd (cc)

text_last : (k before : ℕ) (row : OutputRow) (rows : List OutputRow) → is_ok row ≡ false → rows_text k before (row ∷ rows) ≡ row_text k before row ++ []
text_last k before (Ok values) rows e = absurd (cc)
text_last k before (Err error) rows e = sym (append-nil (error_line k (code.Raised error) (before + 1)))

count_one : (before : ℕ) (row : OutputRow) (rows : List OutputRow) → is_ok row ≡ true → count_after before (row ∷ rows) ≡ count_after (before + 1) rows
count_one before (Ok values) rows e = refl
count_one before (Err error) rows e = absurd (cc)

count_last : (before : ℕ) (row : OutputRow) (rows : List OutputRow) → is_ok row ≡ false → count_after before (row ∷ rows) ≡ None
count_last before (Ok values) rows e = absurd (cc)
count_last before (Err error) rows e = refl

-- ---- the rows from a place on

over_one : (f : List Value → OutputRow) (rows : List (List Value)) (i : ℕ) (row : List Value) → i < length rows → row ≡ get_or rows i row → map f (drop i rows) ≡ f row ∷ map f (drop (i + 1) rows)
over_one f rows i row h e = ap (map f) (drop_one rows i row h e)

pub text_step : (f : List Value → OutputRow) (k before : ℕ) (rows : List (List Value)) (i : ℕ) (row seen : List Value) → i < length rows → row ≡ get_or rows i row → seen ≡ row → true ≡ is_ok (f seen)
    → rows_text k before (map f (drop i rows)) ≡ row_text k before (f seen) ++ rows_text k (before + 1) (map f (drop (i + 1) rows))
text_step f k before rows i row seen h e same ok =
    ap (rows_text k before) (over_one f rows i row h e) ∙ ap (λ r. rows_text k before (f r ∷ map f (drop (i + 1) rows))) (sym same) ∙ text_one k before (f seen) (map f (drop (i + 1) rows)) (sym ok)

pub text_stop : (f : List Value → OutputRow) (k before : ℕ) (rows : List (List Value)) (i : ℕ) (row : List Value) → i < length rows → row ≡ get_or rows i row → false ≡ is_ok (f row)
    → rows_text k before (map f (drop i rows)) ≡ row_text k before (f row) ++ []
text_stop f k before rows i row h e raised = ap (rows_text k before) (over_one f rows i row h e) ∙ text_last k before (f row) (map f (drop (i + 1) rows)) (sym raised)

-- a row that is not written to its end
front : (k before : ℕ) (row : OutputRow) (rows : List OutputRow) → (todo : List ℕ) × (rows_text k before (row ∷ rows) ≡ row_text k before row ++ todo)
front k before (Ok values) rows = (rows_text k (before + 1) rows, refl)
front k before (Err error) rows = ([], sym (append-nil (error_line k (code.Raised error) (before + 1))))

pub text_front : (f : List Value → OutputRow) (k before : ℕ) (rows : List (List Value)) (i : ℕ) (row seen : List Value) → i < length rows → row ≡ get_or rows i row → seen ≡ row
    → (todo : List ℕ) × (rows_text k before (map f (drop i rows)) ≡ row_text k before (f seen) ++ todo)
text_front f k before rows i row seen h e same =
    let w : (todo : List ℕ) × (rows_text k before (f seen ∷ map f (drop (i + 1) rows)) ≡ row_text k before (f seen) ++ todo) = front k before (f seen) (map f (drop (i + 1) rows)) in
    (w.0, ap (rows_text k before) (over_one f rows i row h e) ∙ ap (λ r. rows_text k before (f r ∷ map f (drop (i + 1) rows))) (sym same) ∙ w.1)

pub text_end : (f : List Value → OutputRow) (k before : ℕ) (rows : List (List Value)) (i : ℕ) → length rows ≤ i → rows_text k before (map f (drop i rows)) ≡ []
text_end f k before rows i h = ap (λ rest. rows_text k before (map f rest)) (drop_none rows i h)

pub count_step : (f : List Value → OutputRow) (before : ℕ) (rows : List (List Value)) (i : ℕ) (row : List Value) → i < length rows → row ≡ get_or rows i row → true ≡ is_ok (f row)
    → count_after before (map f (drop i rows)) ≡ count_after (before + 1) (map f (drop (i + 1) rows))
count_step f before rows i row h e ok = ap (count_after before) (over_one f rows i row h e) ∙ count_one before (f row) (map f (drop (i + 1) rows)) (sym ok)

pub count_stop : (f : List Value → OutputRow) (before : ℕ) (rows : List (List Value)) (i : ℕ) (row : List Value) → i < length rows → row ≡ get_or rows i row → false ≡ is_ok (f row)
    → count_after before (map f (drop i rows)) ≡ None
count_stop f before rows i row h e raised = ap (count_after before) (over_one f rows i row h e) ∙ count_last before (f row) (map f (drop (i + 1) rows)) (sym raised)

pub count_end : (f : List Value → OutputRow) (before : ℕ) (rows : List (List Value)) (i : ℕ) → length rows ≤ i → count_after before (map f (drop i rows)) ≡ Some before
count_end f before rows i h = ap (λ rest. count_after before (map f rest)) (drop_none rows i h)

-- ---- rows behind rows

pub count-le : (before after : ℕ) (rows : List OutputRow) → count_after before rows ≡ Some after → after ≤ before + length rows
count-le before after [] e = let same : before ≡ after = cc in omega (arith, same)
count-le before after (Ok values ∷ rows) e = omega (arith, count-le (before + 1) after rows e)
count-le before after (Err error ∷ rows) e = absurd (cc)

text_behind : (k before after : ℕ) (rows later : List OutputRow) → count_after before rows ≡ Some after → rows_text k before (rows ++ later) ≡ rows_text k before rows ++ rows_text k after later
text_behind k before after [] later e = let same : before ≡ after = cc in ap (λ n. rows_text k n later) same
text_behind k before after (Ok values ∷ rows) later e = ap (λ rest. row_line values ++ rest) (text_behind k (before + 1) after rows later e) ∙ sym (append_assoc (row_line values) (rows_text k (before + 1) rows) (rows_text k after later))
text_behind k before after (Err error ∷ rows) later e = absurd (cc)

text_cut : (k before : ℕ) (rows later : List OutputRow) → count_after before rows ≡ None → rows_text k before (rows ++ later) ≡ rows_text k before rows
text_cut k before [] later e = absurd (cc)
text_cut k before (Ok values ∷ rows) later e = ap (λ rest. row_line values ++ rest) (text_cut k (before + 1) rows later e)
text_cut k before (Err error ∷ rows) later e = refl

count_behind : (before after : ℕ) (rows later : List OutputRow) → count_after before rows ≡ Some after → count_after before (rows ++ later) ≡ count_after after later
count_behind before after [] later e = let same : before ≡ after = cc in ap (λ n. count_after n later) same
count_behind before after (Ok values ∷ rows) later e = count_behind (before + 1) after rows later e
count_behind before after (Err error ∷ rows) later e = absurd (cc)

count_cut : (before : ℕ) (rows later : List OutputRow) → count_after before rows ≡ None → count_after before (rows ++ later) ≡ None
count_cut before [] later e = absurd (cc)
count_cut before (Ok values ∷ rows) later e = count_cut (before + 1) rows later e
count_cut before (Err error ∷ rows) later e = refl

-- those of some rows, and something behind them
text_some : (k before : ℕ) (rows later : List OutputRow) (after : Option ℕ) → count_after before rows ≡ after → (todo : List ℕ) × (rows_text k before (rows ++ later) ≡ rows_text k before rows ++ todo)
text_some k before rows later None e = ([], text_cut k before rows later e ∙ sym (append-nil (rows_text k before rows)))
text_some k before rows later (Some after) e = (rows_text k after later, text_behind k before after rows later e)

-- ---- the arms from a place on

arms_one : (rows : List (List Value)) (arms : List TypedArm) (i : ℕ) (arm : TypedArm) → i < length arms → arm ≡ get_or arms i arm → output_rows rows (drop i arms) ≡ arm_rows rows arm ++ output_rows rows (drop (i + 1) arms)
arms_one rows arms i arm h e = ap (output_rows rows) (drop_one arms i arm h e)

pub arms_step : (k before after : ℕ) (rows : List (List Value)) (arms : List TypedArm) (i : ℕ) (arm : TypedArm) → i < length arms → arm ≡ get_or arms i arm → Some after ≡ count_after before (arm_rows rows arm)
    → rows_text k before (output_rows rows (drop i arms)) ≡ rows_text k before (arm_rows rows arm) ++ rows_text k after (output_rows rows (drop (i + 1) arms))
arms_step k before after rows arms i arm h e n = ap (rows_text k before) (arms_one rows arms i arm h e) ∙ text_behind k before after (arm_rows rows arm) (output_rows rows (drop (i + 1) arms)) (sym n)

pub arms_stop : (k before : ℕ) (rows : List (List Value)) (arms : List TypedArm) (i : ℕ) (arm : TypedArm) → i < length arms → arm ≡ get_or arms i arm → None ≡ count_after before (arm_rows rows arm)
    → rows_text k before (output_rows rows (drop i arms)) ≡ rows_text k before (arm_rows rows arm) ++ []
arms_stop k before rows arms i arm h e n = ap (rows_text k before) (arms_one rows arms i arm h e) ∙ text_cut k before (arm_rows rows arm) (output_rows rows (drop (i + 1) arms)) (sym n) ∙ sym (append-nil (rows_text k before (arm_rows rows arm)))

pub arms_front : (k before : ℕ) (rows : List (List Value)) (arms : List TypedArm) (i : ℕ) (arm : TypedArm) → i < length arms → arm ≡ get_or arms i arm
    → (todo : List ℕ) × (rows_text k before (output_rows rows (drop i arms)) ≡ rows_text k before (arm_rows rows arm) ++ todo)
arms_front k before rows arms i arm h e =
    let w : (todo : List ℕ) × (rows_text k before (arm_rows rows arm ++ output_rows rows (drop (i + 1) arms)) ≡ rows_text k before (arm_rows rows arm) ++ todo) = text_some k before (arm_rows rows arm) (output_rows rows (drop (i + 1) arms)) (count_after before (arm_rows rows arm)) refl in
    (w.0, ap (rows_text k before) (arms_one rows arms i arm h e) ∙ w.1)

pub arms_end : (k before : ℕ) (rows : List (List Value)) (arms : List TypedArm) (i : ℕ) → length arms ≤ i → rows_text k before (output_rows rows (drop i arms)) ≡ []
arms_end k before rows arms i h = ap (λ rest. rows_text k before (output_rows rows rest)) (drop_none arms i h)

pub arms_count : (before after : ℕ) (rows : List (List Value)) (arms : List TypedArm) (i : ℕ) (arm : TypedArm) → i < length arms → arm ≡ get_or arms i arm → Some after ≡ count_after before (arm_rows rows arm)
    → count_after before (output_rows rows (drop i arms)) ≡ count_after after (output_rows rows (drop (i + 1) arms))
arms_count before after rows arms i arm h e n = ap (count_after before) (arms_one rows arms i arm h e) ∙ count_behind before after (arm_rows rows arm) (output_rows rows (drop (i + 1) arms)) (sym n)

pub arms_raised : (before : ℕ) (rows : List (List Value)) (arms : List TypedArm) (i : ℕ) (arm : TypedArm) → i < length arms → arm ≡ get_or arms i arm → None ≡ count_after before (arm_rows rows arm)
    → count_after before (output_rows rows (drop i arms)) ≡ None
arms_raised before rows arms i arm h e n = ap (count_after before) (arms_one rows arms i arm h e) ∙ count_cut before (arm_rows rows arm) (output_rows rows (drop (i + 1) arms)) (sym n)

pub arms_all : (before : ℕ) (rows : List (List Value)) (arms : List TypedArm) (i : ℕ) → length arms ≤ i → count_after before (output_rows rows (drop i arms)) ≡ Some before
arms_all before rows arms i h = ap (λ rest. count_after before (output_rows rows rest)) (drop_none arms i h)

-- an arm gives no more rows than there may be
pub arm_few : (rows : List (List Value)) (arm : TypedArm) → length rows ≤ 2 ^ 64 → length (arm_rows rows arm) ≤ 2 ^ 64
arm_few rows arm few = by arm.over_rows refl
  where
    by : (over : Bool) → arm.over_rows ≡ over → length (arm_rows rows arm) ≤ 2 ^ 64
    by true e = rw e (omega (arith, length-map rows (output_row arm.trees)))
    by false e = rw e (omega arith)

-- ---- the last line

pub lines_text : (k before : ℕ) (rows : List OutputRow) → concat (row_lines k before rows) ≡ rows_text k before rows ++ ok_after k (count_after before rows)
lines_text k before [] = append-nil (ok_line k before)
lines_text k before (Ok values ∷ rows) = ap (λ rest. row_line values ++ rest) (lines_text k (before + 1) rows) ∙ sym (append_assoc (row_line values) (rows_text k (before + 1) rows) (ok_after k (count_after (before + 1) rows)))
lines_text k before (Err error ∷ rows) = refl

all_counted : (before : ℕ) (rows : List OutputRow) → list_all is_ok rows ≡ is_some (count_after before rows)
all_counted before [] = refl
all_counted before (Ok values ∷ rows) = all_counted (before + 1) rows
all_counted before (Err error ∷ rows) = refl

pub lines_some : (k count : ℕ) (rows : List OutputRow) → Some count ≡ count_after 0 rows → concat (row_lines k 0 rows) ≡ rows_text k 0 rows ++ ok_line k count
lines_some k count rows e = lines_text k 0 rows ∙ ap (λ n. rows_text k 0 rows ++ ok_after k n) (sym e)

pub lines_none : (k : ℕ) (rows : List OutputRow) → None ≡ count_after 0 rows → concat (row_lines k 0 rows) ≡ rows_text k 0 rows
lines_none k rows e = lines_text k 0 rows ∙ ap (λ n. rows_text k 0 rows ++ ok_after k n) (sym e) ∙ append-nil (rows_text k 0 rows)

pub fine_some : (count : ℕ) (rows : List OutputRow) → Some count ≡ count_after 0 rows → true ≡ list_all is_ok rows
fine_some count rows e = ap is_some e ∙ sym (all_counted 0 rows)

pub fine_none : (rows : List OutputRow) → None ≡ count_after 0 rows → false ≡ list_all is_ok rows
fine_none rows e = ap (λ (n : Option ℕ). is_some n) e ∙ sym (all_counted 0 rows)

-- ---- early errors

first_behind : (xs ys : List Outcome) (first : Option EvalError) → first_error xs ≡ first → first_error (xs ++ ys) ≡ elim first [ None ↦ first_error ys | Some e ↦ Some e ]
first_behind [] ys None e = refl
first_behind [] ys (Some x) e = absurd (cc)
first_behind (Ok v ∷ xs) ys first e = first_behind xs ys first e
first_behind (Err x ∷ xs) ys None e = absurd (cc)
first_behind (Err x ∷ xs) ys (Some y) e = e

mapped : (f : Term → Outcome) (ts us : List Term) → map f (ts ++ us) ≡ map f ts ++ map f us
mapped f [] us = refl
mapped f (t ∷ ts) us = ap (λ rest. f t ∷ rest) (mapped f ts us)

raised_behind : (ts us : List Term) (first : Option EvalError) → first_raised ts ≡ first → first_raised (ts ++ us) ≡ elim first [ None ↦ first_raised us | Some e ↦ Some e ]
raised_behind ts us first e = ap first_error (mapped (at_once real) ts us) ∙ first_behind (map (at_once real) ts) (map (at_once real) us) first e

early_one : (arms : List TypedArm) (i : ℕ) (arm : TypedArm) → i < length arms → arm ≡ get_or arms i arm → early_parts (drop i arms) ≡ parts_of_all real (terms arm.trees) ++ early_parts (drop (i + 1) arms)
early_one arms i arm h e = ap early_parts (drop_one arms i arm h e)

pub early_some : (arms : List TypedArm) (i : ℕ) (arm : TypedArm) (error : EvalError) → i < length arms → arm ≡ get_or arms i arm → Some error ≡ first_raised (parts_of_all real (terms arm.trees))
    → first_raised (early_parts (drop i arms)) ≡ Some error
early_some arms i arm error h e is = ap first_raised (early_one arms i arm h e) ∙ raised_behind (parts_of_all real (terms arm.trees)) (early_parts (drop (i + 1) arms)) (Some error) (sym is)

pub early_pass : (arms : List TypedArm) (i : ℕ) (arm : TypedArm) → i < length arms → arm ≡ get_or arms i arm → None ≡ first_raised (parts_of_all real (terms arm.trees))
    → first_raised (early_parts (drop i arms)) ≡ first_raised (early_parts (drop (i + 1) arms))
early_pass arms i arm h e is = ap first_raised (early_one arms i arm h e) ∙ raised_behind (parts_of_all real (terms arm.trees)) (early_parts (drop (i + 1) arms)) None (sym is)

pub early_end : (arms : List TypedArm) (i : ℕ) → length arms ≤ i → first_raised (early_parts (drop i arms)) ≡ None
early_end arms i h = ap (λ rest. first_raised (early_parts rest)) (drop_none arms i h)
