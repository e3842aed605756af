-- Columns, values and rows one after another, up to the first fault.
use Rattle.std.proofs.Common.{◌≡◌, ℕ, ◌+◌, ◌<◌, zero, suc, List, [], ◌∷◌, ◌++◌, Bool, true, false, ◌==◌, length, get_or, drop, take, refl, sym, append_assoc, add-one, drop-cons, arith, Result, Ok, Err}
use Rattle.std.specs.List.{All}
use Rattle.std.proofs.lemmas.Bool.{and_parts}
use Rattle.std.proofs.lemmas.Bool.Decides.{nat_tests}
use Rattle.std.proofs.lemmas.List.{take_more}
use Rattle.std.proofs.lemmas.List.Elements.{All-append}
use Rattle.xp_base.proofs.Lists.{drop_one}
use Rattle.xp_value.specs.declared.value.Value.{Value}
use Rattle.xp_value.specs.Representation.{is_of}
use Rattle.xp_catalog.specs.declared.header.HeaderColumn.{HeaderColumn}
use Rattle.xp_catalog.specs.Contents.{Contents}
use Rattle.xp_rows.specs.declared.fault.RowsFault.{RowsFault}
use Rattle.xp_rows.specs.Faults.{Loads, and_then, followed, is_outside}
use Rattle.xp_rows.specs.Fields.{placed, row_of, row_values, value_of, values_from}
use Rattle.xp_rows.specs.Fits.{fits}
use Rattle.xp_named.specs.Columns.{AreColumns, IsColumn}
use Rattle.xp_rows.specs.Headers.{column_of, columns_from, named}
use Rattle.xp_io.specs.Representations.{shape_of}
use Rattle.xp_rows.specs.Loading.{rows_from}
use Rattle.xp_rows.specs.Records.{field}

-- these, and those behind them
abbrev pub behind : {A : Type 0} → List A → Result (List A) RowsFault → Result (List A) RowsFault
behind done rest = and_then rest (λ more. Ok (done ++ more))

behind-followed : {A : Type 0} (done : List A) (a : A) (rest : Result (List A) RowsFault) → behind done (followed a rest) ≡ behind (done ++ a ∷ []) rest
behind-followed done a (Ok more) = rw append_assoc refl
behind-followed done a (Err fault) = refl

-- a fault that is free, or that of the first part, is that of the whole
failed : {A B : Type 0} (said : Result A RowsFault) (onward : A → Result B RowsFault) (fault : RowsFault) → Loads said (Err fault) → Loads (and_then said onward) (Err fault)
failed said onward fault loads = by (is_outside fault) refl
  where
    by : (b : Bool) → is_outside fault ≡ b → Loads (and_then said onward) (Err fault)
    by true e = rw e tt
    by false e = let is : said ≡ Err fault = rw e at loads in rw (e, is) refl

failed_behind : {A : Type 0} (done : List A) (rest : Result (List A) RowsFault) (fault : RowsFault) → Loads rest (Err fault) → Loads (behind done rest) (Err fault)
failed_behind done rest fault loads = failed rest (λ more. Ok (done ++ more)) fault loads

-- ---- values

pub values-more : (c : Contents) (row : ℕ) (fields : List (List ℕ)) (place : ℕ) (header : List HeaderColumn) (column : HeaderColumn) (done : List Value) (v : Value)
    → place < length header → column ≡ get_or header place column → Loads (placed row (place + 1) (value_of c column.ty (field fields place))) (Ok v)
    → behind (done ++ v ∷ []) (values_from c row fields (place + 1) (drop (place + 1) header)) ≡ behind done (values_from c row fields place (drop place header))
values-more c row fields place header column done v h e is =
    rw (drop_one header place column h e, is) (sym (behind-followed done v (values_from c row fields (place + 1) (drop (place + 1) header))))

pub values-fault : (c : Contents) (row : ℕ) (fields : List (List ℕ)) (place : ℕ) (header : List HeaderColumn) (column : HeaderColumn) (done : List Value) (fault : RowsFault)
    → place < length header → column ≡ get_or header place column → Loads (placed row (place + 1) (value_of c column.ty (field fields place))) (Err fault)
    → Loads (behind done (values_from c row fields place (drop place header))) (Err fault)
values-fault c row fields place header column done fault h e is =
    let rest = values_from c row fields (place + 1) (drop (place + 1) header) in
    rw (drop_one header place column h e)
    (failed_behind done (and_then (placed row (place + 1) (value_of c column.ty (field fields place))) (λ v. followed v (values_from c row fields (place + 1) (drop (place + 1) header)))) fault
    (failed (placed row (place + 1) (value_of c column.ty (field fields place))) (λ v. followed v (values_from c row fields (place + 1) (drop (place + 1) header))) fault is))

-- a row that is as wide as the header
pub wide-fault : (c : Contents) (header : List HeaderColumn) (row : ℕ) (fields : List (List ℕ)) (fault : RowsFault) → length fields ≡ length header → Loads (values_from c row fields 0 header) (Err fault) → Loads (row_values c header row fields) (Err fault)
wide-fault c header row fields fault wide loads = let test : length fields == length header ≡ true = grind (arith, nat_tests) in rw test loads

-- ---- columns

pub columns-more : (c : Contents) (fields : List (List ℕ)) (place : ℕ) (before : List HeaderColumn) (column : HeaderColumn)
    → place < length fields → Loads (named (length before + 1) (column_of c before (field fields place))) (Ok column)
    → columns_from c (before ++ column ∷ []) (drop (place + 1) fields) ≡ columns_from c before (drop place fields)
columns-more c fields place before column h is = rw (add-one place, drop-cons fields place [] h, is) refl

pub columns-fault : (c : Contents) (fields : List (List ℕ)) (place : ℕ) (before : List HeaderColumn) (fault : RowsFault)
    → place < length fields → Loads (named (length before + 1) (column_of c before (field fields place))) (Err fault)
    → Loads (columns_from c before (drop place fields)) (Err fault)
columns-fault c fields place before fault h is =
    rw (drop-cons fields place [] h) (failed (named (length before + 1) (column_of c before (field fields place))) (λ column. columns_from c (before ++ column ∷ []) (drop (suc place) fields)) fault is)

-- ---- rows

pub rows-one : (c : Contents) (header : List HeaderColumn) (row : ℕ) (fields : List (List ℕ)) (rest : List (List (List ℕ))) (done : List (List Value)) (values : List Value)
    → Loads (row_of c header row fields) (Ok values)
    → behind (done ++ values ∷ []) (rows_from c header (row + 1) rest) ≡ behind done (rows_from c header row (fields ∷ rest))
rows-one c header row fields rest done values is = rw is (sym (behind-followed done values (rows_from c header (row + 1) rest)))

pub rows-fault : (c : Contents) (header : List HeaderColumn) (row : ℕ) (fields : List (List ℕ)) (rest : List (List (List ℕ))) (done : List (List Value)) (fault : RowsFault)
    → Loads (row_of c header row fields) (Err fault)
    → Loads (behind done (rows_from c header row (fields ∷ rest))) (Err fault)
rows-fault c header row fields rest done fault is =
    failed_behind done (rows_from c header row (fields ∷ rest)) fault (failed (row_of c header row fields) (λ values. followed values (rows_from c header (row + 1) rest)) fault is)

-- ---- what holds of each

pub alone : {A : Type 0} (P : A → Type 0) (a : A) → P a → All P (a ∷ [])
alone P a is zero d h = is
alone P a is (suc k) d h = absurd (omega arith)

pub one-column : (c : Contents) (before : List HeaderColumn) (column : HeaderColumn) → AreColumns c before → IsColumn c column → AreColumns c (before ++ column ∷ [])
one-column c before column all is = All-append (IsColumn c) before (column ∷ []) all (alone (IsColumn c) column is)

fits-one : (c : Contents) (header : List HeaderColumn) (done : List Value) (column : HeaderColumn) (v : Value) → fits c header done ≡ true → is_of (shape_of c column.ty) v ≡ true → fits c (header ++ column ∷ []) (done ++ v ∷ []) ≡ true
fits-one c [] [] column v before is = rw is refl
fits-one c [] (w ∷ done) column v before is = cc before
fits-one c (other ∷ header) [] column v before is = cc before
fits-one c (other ∷ header) (w ∷ done) column v before is =
    let parts = and_parts (is_of (shape_of c other.ty) w) (fits c header done) before in
    rw parts.0 (fits-one c header done column v parts.1 is)

pub fits-more : (c : Contents) (header : List HeaderColumn) (place : ℕ) (column : HeaderColumn) (done : List Value) (v : Value) → place < length header → column ≡ get_or header place column
    → fits c (take place header) done ≡ true → is_of (shape_of c column.ty) v ≡ true → fits c (take (place + 1) header) (done ++ v ∷ []) ≡ true
fits-more c header place column done v h e before is =
    rw (take_more header place column h, ← e) (fits-one c (take place header) done column v before is)
