-- A header that is loaded has no more columns than there may be.
use Rattle.std.proofs.Common.{◌≡◌, ℕ, ◌+◌, ◌<◌, ◌≤◌, List, [], ◌∷◌, ◌++◌, Bool, true, false, length, length-append, Option, Some, None, Result, Ok, Err, refl, ap, arith}
use Rattle.std.specs.Prelude.{is_some, nat_lt}
use Rattle.std.specs.Option.{option_map_or}
use Rattle.std.proofs.lemmas.Bool.Decides.{nat_tests}
use Rattle.xp_base.specs.declared.limits.TheConstants.{COLUMN_LIMIT}
use Rattle.xp_base.specs.declared.numbers.TypeNo.{TypeNo}
use Rattle.xp_value.specs.declared.value.Value.{Value}
use Rattle.xp_catalog.specs.declared.header.HeaderColumn.{HeaderColumn}
use Rattle.xp_catalog.specs.declared.why.Why.{Why}
use Rattle.xp_catalog.specs.declared.why.Why.TheVariants as why
use Rattle.xp_catalog.specs.Contents.{Contents}
use Rattle.xp_catalog.specs.Headers.{column_named}
use Rattle.xp_catalog.specs.Spelling.{is_name}
use Rattle.xp_rows.specs.declared.fault.RowsFault.{RowsFault}
use Rattle.xp_rows.specs.Faults.{and_then}
use Rattle.xp_rows.specs.Headers.{added, column_of, columns_from, header_of, name_in, named, type_in}
use Rattle.xp_rows.specs.Loading.{load, load_rows, rows_from}
use Rattle.xp_rows.specs.Records.{records_of}
use Rattle.xp_run.specs.Inputs.{Table}

added_few : (before : List HeaderColumn) (column last : HeaderColumn) → added before column ≡ Ok last → length before < COLUMN_LIMIT
added_few before column last e = by (is_some (column_named before column.name)) (nat_lt (length before) COLUMN_LIMIT) refl refl
  where
    by : (again : Bool) (room : Bool) → is_some (column_named before column.name) ≡ again → nat_lt (length before) COLUMN_LIMIT ≡ room → length before < COLUMN_LIMIT
    by true room a r = let bad : Err why.Duplicate ≡ Ok last = rw a at e in absurd (cc)
    by false true a r = grind (arith, nat_tests)
    by false false a r = let bad : Err why.TooMany ≡ Ok last = rw (a, r) at e in absurd (cc)

typed_few : (before : List HeaderColumn) (name : List ℕ) (type : Option TypeNo) (last : HeaderColumn)
    → option_map_or (λ ty. added before (record { name = name; ty = ty })) type (Err why.UnknownType) ≡ Ok last → length before < COLUMN_LIMIT
typed_few before name None last e = absurd (cc)
typed_few before name (Some ty) last e = added_few before (record { name = name; ty = ty }) last e

named_few : (c : Contents) (before : List HeaderColumn) (text : List ℕ) (last : HeaderColumn) → column_of c before text ≡ Ok last → length before < COLUMN_LIMIT
named_few c before text last e = by (is_name (name_in text)) refl
  where
    by : (is : Bool) → is_name (name_in text) ≡ is → length before < COLUMN_LIMIT
    by true a = typed_few before (name_in text) (type_in c text) last (rw a at e)
    by false a = let bad : Err why.BadName ≡ Ok last = rw a at e in absurd (cc)

-- one more column, and those behind it
column_few : (c : Contents) (before : List HeaderColumn) (text : List ℕ) (columns : List HeaderColumn) (rest : HeaderColumn → Result (List HeaderColumn) RowsFault) (one : Result HeaderColumn Why)
    → column_of c before text ≡ one → and_then (named (length before + 1) one) rest ≡ Ok columns → (column : HeaderColumn) × (length before < COLUMN_LIMIT) × (rest column ≡ Ok columns)
column_few c before text columns rest (Ok column) is e = (column, named_few c before text column is, e)
column_few c before text columns rest (Err w) is e = absurd (cc)

columns_few : (c : Contents) (before : List HeaderColumn) (fields : List (List ℕ)) (columns : List HeaderColumn) → columns_from c before fields ≡ Ok columns → length before ≤ COLUMN_LIMIT → length columns ≤ COLUMN_LIMIT
columns_few c before [] columns e few = let same : before ≡ columns = cc in omega (arith, ap length same)
columns_few c before (text ∷ rest) columns e few =
    let w = column_few c before text columns (λ column. columns_from c (before ++ column ∷ []) rest) (column_of c before text) refl e in
    columns_few c (before ++ w.0 ∷ []) rest columns w.2 (omega (arith, w.1, length-append before (w.0 ∷ [])))

loaded_few : (header : List HeaderColumn) (rows : Result (List (List Value)) RowsFault) (table : Table) → and_then rows (λ all. Ok (header, all)) ≡ Ok table → header ≡ table.0
loaded_few header (Err fault) table e = absurd (cc)
loaded_few header (Ok rows) table e = let same : (header, rows) ≡ table = cc in ap (λ t. t.0) same

header_and : (c : Contents) (rest : List (List (List ℕ))) (table : Table) (header : Result (List HeaderColumn) RowsFault) → and_then header (λ columns. and_then (rows_from c columns 1 rest) (λ all. Ok (columns, all))) ≡ Ok table → header ≡ Ok table.0
header_and c rest table (Err fault) e = absurd (cc)
header_and c rest table (Ok header) e = ap Ok (loaded_few header (rows_from c header 1 rest) table e)

records_few : (c : Contents) (records : List (List (List ℕ))) (table : Table) → load c records ≡ Ok table → length table.0 ≤ COLUMN_LIMIT
records_few c [] table e = let none : ([], []) ≡ table = cc in omega (arith, ap (λ t. length t.0) none)
records_few c (first ∷ rest) table e = columns_few c [] first table.0 (header_and c rest table (header_of c first) e) (omega arith)

pub header_few : (c : Contents) (text : List ℕ) (table : Table) → load_rows c text ≡ Ok table → length table.0 ≤ COLUMN_LIMIT
header_few c text table e = records_few c (records_of text) table e
