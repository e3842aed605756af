-- One record more: a row more, the end of the rows, a fault, or one row too many.
use Rattle.std.proofs.Common.{◌≡◌, ℕ, suc, ◌+◌, ◌-◌, ◌^◌, ◌<◌, ◌≤◌, List, [], ◌∷◌, ◌++◌, true, false, nat_le, Bor, refl, sym, ap, ◌∙◌, arith, Result, Ok, Err}
use Rattle.std.specs.List.{All}
use Rattle.std.proofs.lemmas.Bool.Decides.{nat_tests}
use Rattle.std.proofs.lemmas.List.{append-nil}
use Rattle.std.proofs.lemmas.List.Elements.{All-append}
use Rattle.csv.specs.declared.reader.Reader.{Reader}
use Rattle.xp_base.specs.declared.limits.TheConstants.{ROW_LIMIT}
use Rattle.xp_value.specs.declared.value.Value.{Value}
use Rattle.xp_catalog.specs.declared.header.HeaderColumn.{HeaderColumn}
use Rattle.xp_catalog.specs.Contents.{Contents}
use Rattle.xp_rows.specs.declared.fault.RowsFault.{RowsFault}
use Rattle.xp_rows.specs.declared.fault.RowsFault.TheVariants.{TooMany}
use Rattle.xp_rows.specs.Faults.{Loads}
use Rattle.xp_rows.specs.Fields.{row_of, row_values}
use Rattle.xp_rows.specs.Fits.{fits}
use Rattle.xp_rows.specs.Loading.{rows_from}
use Rattle.xp_rows.specs.inner.Reader.{TakesNext, records_left}
use Rattle.xp_rows.proofs.Progress.{alone, behind, rows-fault, rows-one}

-- the records that are left behind k rows
abbrev pub left : ℕ → Reader (Bor (List ℕ)) → List (List (List ℕ))
left k reader = records_left (2 ^ 64 - 1 - k) reader

one-less : (k : ℕ) (old new : Reader (Bor (List ℕ))) (fields : List (List ℕ)) → k ≤ 100000 → TakesNext old new fields true → left k old ≡ fields ∷ left (k + 1) new
one-less k old new fields few takes =
    let n = 2 ^ 64 - 2 - k in
    let here : 2 ^ 64 - 1 - k ≡ suc (2 ^ 64 - 2 - k) = omega arith in
    let next : 2 ^ 64 - 1 - (k + 1) ≡ 2 ^ 64 - 2 - k = omega arith in
    rw (here, next) (takes (2 ^ 64 - 2 - k)).1

none-left : (k : ℕ) (old new : Reader (Bor (List ℕ))) (fields : List (List ℕ)) → k ≤ 100000 → TakesNext old new fields false → left k old ≡ []
none-left k old new fields few takes =
    let here : 2 ^ 64 - 1 - k ≡ suc (2 ^ 64 - 2 - k) = omega arith in
    rw here (takes (2 ^ 64 - 2 - k))

within : (c : Contents) (header : List HeaderColumn) (k : ℕ) (fields : List (List ℕ)) → k < 100000 → row_of c header (k + 1) fields ≡ row_values c header (k + 1) fields
within c header k fields few = let is : nat_le (k + 1) ROW_LIMIT ≡ true = grind (arith, nat_tests) in rw is refl

pub next-row : (c : Contents) (header : List HeaderColumn) (k : ℕ) (rows : List (List Value)) (old new : Reader (Bor (List ℕ))) (fields : List (List ℕ)) (values : List Value) (total : Result (List (List Value)) RowsFault)
    → k < 100000 → TakesNext old new fields true → Loads (row_values c header (k + 1) fields) (Ok values)
    → behind rows (rows_from c header (k + 1) (left k old)) ≡ total
    → behind (rows ++ values ∷ []) (rows_from c header (k + 1 + 1) (left (k + 1) new)) ≡ total
next-row c header k rows old new fields values total few takes loads says =
    let few_too : k ≤ 100000 = omega arith in
    let is : Loads (row_of c header (k + 1) fields) (Ok values) = rw (within c header k fields few) loads in
    rows-one c header (k + 1) fields (left (k + 1) new) rows values is ∙ (rw (one-less k old new fields few_too takes) at says)

pub all-rows : (c : Contents) (header : List HeaderColumn) (k : ℕ) (rows : List (List Value)) (old new : Reader (Bor (List ℕ))) (fields : List (List ℕ)) (total : Result (List (List Value)) RowsFault)
    → k ≤ 100000 → TakesNext old new fields false → behind rows (rows_from c header (k + 1) (left k old)) ≡ total → total ≡ Ok rows
all-rows c header k rows old new fields total few takes says =
    let done : behind rows (rows_from c header (k + 1) []) ≡ total = rw (none-left k old new fields few takes) at says in
    sym done ∙ ap Ok (append-nil rows)

pub row-fault : (c : Contents) (header : List HeaderColumn) (k : ℕ) (rows : List (List Value)) (old new : Reader (Bor (List ℕ))) (fields : List (List ℕ)) (fault : RowsFault) (total : Result (List (List Value)) RowsFault)
    → k < 100000 → TakesNext old new fields true → Loads (row_values c header (k + 1) fields) (Err fault)
    → behind rows (rows_from c header (k + 1) (left k old)) ≡ total → Loads total (Err fault)
row-fault c header k rows old new fields fault total few takes loads says =
    let few_too : k ≤ 100000 = omega arith in
    let is : Loads (row_of c header (k + 1) fields) (Err fault) = rw (within c header k fields few) loads in
    let there : behind rows (rows_from c header (k + 1) (fields ∷ left (k + 1) new)) ≡ total = rw (one-less k old new fields few_too takes) at says in
    rw (← there) (rows-fault c header (k + 1) fields (left (k + 1) new) rows fault is)

pub too-many : (c : Contents) (header : List HeaderColumn) (k : ℕ) (rows : List (List Value)) (old new : Reader (Bor (List ℕ))) (fields : List (List ℕ)) (total : Result (List (List Value)) RowsFault)
    → k ≡ 100000 → TakesNext old new fields true → behind rows (rows_from c header (k + 1) (left k old)) ≡ total → Loads total (Err (TooMany 100001))
too-many c header k rows old new fields total is takes says =
    let few : k ≤ 100000 = omega arith in
    let there : behind rows (rows_from c header (k + 1) (fields ∷ left (k + 1) new)) ≡ total = rw (one-less k old new fields few takes) at says in
    let row : k + 1 ≡ 100001 = omega arith in
    let past : Loads (row_of c header (k + 1) fields) (Err (TooMany 100001)) = rw row refl in
    rw (← there) (rows-fault c header (k + 1) fields (left (k + 1) new) rows (TooMany 100001) past)

pub one-row : (c : Contents) (header : List HeaderColumn) (rows : List (List Value)) (values : List Value) → All (λ row. fits c header row ≡ true) rows → fits c header values ≡ true → All (λ row. fits c header row ≡ true) (rows ++ values ∷ [])
one-row c header rows values all is = All-append (λ row. fits c header row ≡ true) rows (values ∷ []) all (alone (λ row. fits c header row ≡ true) values is)
