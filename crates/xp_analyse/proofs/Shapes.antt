-- How the lists of a statement are joined keeps how many there are, and how long each is.
use Rattle.std.proofs.Common.{◌≡◌, ℕ, ◌+◌, ◌==◌, List, [], ◌∷◌, ◌++◌, Bool, true, false, append_assoc, append-nil, length, map, replicate, refl, sym, ◌∙◌, ap, arith, Result, Ok, Err}
use Rattle.std.specs.Prelude.{IfOk}
use Rattle.std.specs.List.{All, list_all}
use Rattle.std.proofs.lemmas.Bool.{and_parts}
use Rattle.std.proofs.lemmas.Bool.Decides.{nat_tests}
use Rattle.std.proofs.lemmas.List.{length-append, length-map, length-replicate, map-append}
use Rattle.std.proofs.lemmas.List.Elements.{All-cons, All-head, All-nil, All-push, All-replicate, All-tail}
use Rattle.xp_base.specs.FromLeft.{and_then}
use Rattle.xp_base.specs.OrMemory.{OrMemory}
use Rattle.xp_base.specs.declared.numbers.TypeNo.{TypeNo}
use Rattle.xp_grammar.specs.declared.statement.SelectArm.{SelectArm}
use Rattle.xp_named.specs.declared.refusal.Refusal.{Refusal}
use Rattle.xp_resolve.specs.declared.conversions.Converted.{Converted}
use Rattle.xp_resolve.specs.declared.conversions.ConvertedAll.{ConvertedAll}
use Rattle.xp_resolve.specs.declared.made.Part.{Part}
use Rattle.xp_resolve.specs.declared.targets.Target.{Target}
use Rattle.xp_resolve.specs.Conversions.{argument, arguments, none_yet, with_last}
use Rattle.xp_resolve.specs.Calls.{types_of}
use Rattle.xp_resolve.specs.Made.{is_memory}
use Rattle.xp_resolve.specs.Scene.{Scene}
use Rattle.xp_forms.specs.Common.{alike, common_type, each_of}
use Rattle.xp_columns.specs.Columns.{arm_joined, are_as_long, column_as, column_made, columns_made, inputs_of, no_columns, parts_of, table_made, table_over, turned, united, width_of, with_column, with_list, with_lists}
use Rattle.xp_columns.specs.declared.columns.Column.{Column}
use Rattle.xp_columns.specs.declared.columns.Inputs.{Inputs}
use Rattle.xp_columns.specs.declared.columns.Inputs.TheVariants.{Ends}
use Rattle.xp_columns.specs.declared.columns.Table.{Table}
use Rattle.xp_columns.specs.declared.columns.UnionArm.{UnionArm}
use Rattle.xp_analyse.specs.Lists.{arms_over, arms_united, items_of}

-- ---- two steps that are both made

record Steps {A B : Type 0} (r : Result A Refusal) (f : A → Result B Refusal) (y : B) : Type 0 where
  first : A
  is : r ≡ Ok first
  gives : f first ≡ Ok y

steps : {A B : Type 0} (r : Result A Refusal) (f : A → Result B Refusal) (y : B) → and_then r f ≡ Ok y → Steps r f y
steps (Ok x) f y e = record { first = x; is = refl; gives = e }
steps (Err fault) f y never = absurd (cc never)

-- ---- lists of one length

abbrev AreLong : ℕ → List (List Part) → Type 0
AreLong width lists = All (λ list. length list ≡ width) lists

are_lengths : (width : ℕ) (lists : List (List Part)) → AreLong width lists → map length lists ≡ replicate (length lists) width
are_lengths width [] all = refl
are_lengths width (list ∷ lists) all =
    let first : length list ≡ width = All-head (λ (l : List Part). length l ≡ width) list lists all in
    let rest = are_lengths width lists (All-tail (λ (l : List Part). length l ≡ width) list lists all) in
    rw (first, rest) refl

told_long : (width : ℕ) (lists : List (List Part)) → list_all (λ list. length list == width) lists ≡ true → AreLong width lists
told_long width [] told = All-nil (λ (l : List Part). length l ≡ width)
told_long width (list ∷ lists) told =
    let parts = and_parts (length list == width) (list_all (λ list. length list == width) lists) told in
    All-cons (λ (l : List Part). length l ≡ width) list lists (grind (arith, parts.0, nat_tests)) (told_long width lists parts.1)

-- ---- lists that are turned

count_one : (columns : List (List Part)) (list : List Part) → length columns ≡ length list → length (with_list columns list) ≡ length list
count_one [] [] e = refl
count_one [] (x ∷ xs) e = absurd (omega (arith, e))
count_one (column ∷ columns) [] e = absurd (omega (arith, e))
count_one (column ∷ columns) (x ∷ xs) e = let own = count_one columns xs (omega (arith, e)) in omega (arith, own)

long_one : (n : ℕ) (columns : List (List Part)) (list : List Part) → AreLong n columns → AreLong (n + 1) (with_list columns list)
long_one n [] list all = All-nil (λ (l : List Part). length l ≡ n + 1)
long_one n (column ∷ columns) [] all = All-nil (λ (l : List Part). length l ≡ n + 1)
long_one n (column ∷ columns) (x ∷ xs) all =
    let first : length column ≡ n = All-head (λ (l : List Part). length l ≡ n) column columns all in
    let more = length-append column (x ∷ []) in
    All-cons (λ (l : List Part). length l ≡ n + 1) (column ++ x ∷ []) (with_list columns xs) (omega (arith, first, more))
    (long_one n columns xs (All-tail (λ (l : List Part). length l ≡ n) column columns all))

count_all : (width : ℕ) (columns lists : List (List Part)) → length columns ≡ width → AreLong width lists → length (with_lists columns lists) ≡ width
count_all width columns [] e all = e
count_all width columns (list ∷ lists) e all =
    let first : length list ≡ width = All-head (λ (l : List Part). length l ≡ width) list lists all in
    count_all width (with_list columns list) lists (count_one columns list (e ∙ sym first) ∙ first) (All-tail (λ (l : List Part). length l ≡ width) list lists all)

long_all : (n whole : ℕ) (columns lists : List (List Part)) → n + length lists ≡ whole → AreLong n columns → AreLong whole (with_lists columns lists)
long_all n whole columns [] e all = let same : n ≡ whole = omega (arith, e) in rw same at all
long_all n whole columns (list ∷ lists) e all = long_all (n + 1) whole (with_list columns list) lists (omega (arith, e)) (long_one n columns list all)

turned_count : (width : ℕ) (lists : List (List Part)) → AreLong width lists → length (turned width lists) ≡ width
turned_count width lists all = count_all width (replicate width []) lists (length-replicate width []) all

turned_long : (width : ℕ) (lists : List (List Part)) → AreLong (length lists) (turned width lists)
turned_long width lists = long_all 0 (length lists) (replicate width []) lists (omega arith) (All-replicate (λ (l : List Part). length l ≡ 0) width [] refl)

-- ---- columns that are converted

as_many : (scene : Scene) (at : ℕ) (before all : ConvertedAll) (parts : List Part) (targets : List Target) → length parts ≡ length targets → arguments scene at before parts targets ≡ Ok all
    → length all.trees ≡ length before.trees + length parts
as_many scene at before all [] [] same e = let own : before ≡ all = cc e in rw (← own) (omega arith)
as_many scene at before all [] (t ∷ targets) same e = absurd (omega (arith, same))
as_many scene at before all (part ∷ parts) [] same e = absurd (omega (arith, same))
as_many scene at before all (part ∷ parts) (t ∷ targets) same e =
    let s = steps (argument scene at before.nodes part t) (λ (one : Converted). arguments scene at (with_last before one) parts targets) all e in
    let own = as_many scene at (with_last before s.first) all parts targets (omega (arith, same)) s.gives in
    let more = length-append before.trees (s.first.tree ∷ []) in
    omega (arith, own, more)

as_long : (scene : Scene) (at nodes : ℕ) (parts : List Part) (type : TypeNo) (column : Column) → column_as scene at nodes parts type ≡ Ok column → length column.parts ≡ length parts
as_long scene at nodes parts type column e =
    let s = steps (alike scene at nodes type parts) (λ (all : ConvertedAll). Ok (record { parts = parts_of at all.trees; nodes = all.nodes })) column e in
    let told = as_many scene at (none_yet nodes) s.first parts (each_of type parts) (sym (length-map parts _)) s.is in
    let counted : length s.first.trees ≡ length parts = omega (arith, told) in
    let own : record { parts = parts_of at s.first.trees; nodes = s.first.nodes } ≡ column = cc s.gives in
    rw (← own) (length-map s.first.trees _ ∙ counted)

made_long : (scene : Scene) (inputs : Inputs) (at nodes : ℕ) (parts : List Part) (column : Column) → column_made scene inputs at nodes parts ≡ Ok column → length column.parts ≡ length parts
made_long scene inputs at nodes parts column e =
    let s = steps (common_type scene.c at (inputs_of inputs (types_of parts))) (column_as scene at nodes parts) column e in
    as_long scene at nodes parts s.first column s.gives

record AreMade (width whole : ℕ) (table : Table) : Type 0 where
  long : AreLong width table.lists
  count : length table.lists ≡ whole

columns_long : (scene : Scene) (inputs : Inputs) (at width : ℕ) (before table : Table) (columns : List (List Part)) → columns_made scene inputs at before columns ≡ Ok table
    → AreLong width before.lists → AreLong width columns → AreMade width (length before.lists + length columns) table
columns_long scene inputs at width before table [] e old all =
    let own : before ≡ table = cc e in
    rw (← own) (record { long = old; count = omega arith })
columns_long scene inputs at width before table (column ∷ columns) e old all =
    let s = steps (with_column scene inputs at before column) (λ next. columns_made scene inputs at next columns) table e in
    let made = steps (column_made scene inputs at before.nodes column) (λ (c : Column). Ok (record { lists = before.lists ++ c.parts ∷ []; nodes = c.nodes })) s.first s.is in
    let next : record { lists = before.lists ++ made.first.parts ∷ []; nodes = made.first.nodes } ≡ s.first = cc made.gives in
    let one : length made.first.parts ≡ width = made_long scene inputs at before.nodes column made.first made.is ∙ All-head (λ (l : List Part). length l ≡ width) column columns all in
    let lists : AreLong width s.first.lists = rw (← next) (All-push (λ (l : List Part). length l ≡ width) before.lists made.first.parts old one) in
    let rest = columns_long scene inputs at width s.first table columns s.gives lists (All-tail (λ (l : List Part). length l ≡ width) column columns all) in
    let longer : length s.first.lists ≡ length before.lists + 1 = rw (← next) (length-append before.lists (made.first.parts ∷ [])) in
    record { long = rest.long; count = rest.count ∙ omega (arith, longer) }

-- ---- tables

over_shape : (scene : Scene) (inputs : Inputs) (at nodes : ℕ) (lists : List (List Part)) (table : Table) → are_as_long lists ≡ true → table_over scene inputs at nodes lists ≡ Ok table
    → map length table.lists ≡ map length lists
over_shape scene inputs at nodes lists table told e =
    let width = width_of lists in
    let long : AreLong (width_of lists) lists = told_long (width_of lists) lists told in
    let s = steps (columns_made scene inputs at (no_columns nodes) (turned (width_of lists) lists)) (λ (all : Table). Ok (record { lists = turned (length lists) all.lists; nodes = all.nodes })) table e in
    let made = columns_long scene inputs at (length lists) (no_columns nodes) s.first (turned (width_of lists) lists) s.is (All-nil (λ (l : List Part). length l ≡ length lists)) (turned_long (width_of lists) lists) in
    let own : record { lists = turned (length lists) s.first.lists; nodes = s.first.nodes } ≡ table = cc s.gives in
    let wide : length s.first.lists ≡ width_of lists = let told = made.count in let counted = turned_count (width_of lists) lists long in omega (arith, told, counted) in
    let back : AreLong (width_of lists) (turned (length lists) s.first.lists) = rw wide at (turned_long (length lists) s.first.lists) in
    let many : length (turned (length lists) s.first.lists) ≡ length lists = turned_count (length lists) s.first.lists made.long in
    rw (← own) (are_lengths (width_of lists) (turned (length lists) s.first.lists) back ∙ (ap (λ n. replicate n (width_of lists)) many ∙ sym (are_lengths (width_of lists) lists long)))

told_shape : (scene : Scene) (inputs : Inputs) (at nodes : ℕ) (lists : List (List Part)) (table : Table) (told : Bool) → are_as_long lists ≡ told → table_made scene inputs at nodes lists ≡ Ok table
    → map length table.lists ≡ map length lists
told_shape scene inputs at nodes lists table true told e = over_shape scene inputs at nodes lists table told (rw told at e)
told_shape scene inputs at nodes lists table false told e = let never : table_made scene inputs at nodes lists ≡ Ok table = e in absurd (cc (rw told at never))

table_shape : (scene : Scene) (inputs : Inputs) (at nodes : ℕ) (lists : List (List Part)) (table : Table) → table_made scene inputs at nodes lists ≡ Ok table → map length table.lists ≡ map length lists
table_shape scene inputs at nodes lists table e = told_shape scene inputs at nodes lists table (are_as_long lists) refl e

pub table_kept : (scene : Scene) (inputs : Inputs) (at nodes : ℕ) (lists : List (List Part)) (r : Result Table Refusal) → OrMemory is_memory (table_made scene inputs at nodes lists) r
    → IfOk r (λ table. map length table.lists ≡ map length lists)
table_kept scene inputs at nodes lists (Ok table) is = table_shape scene inputs at nodes lists table is
table_kept scene inputs at nodes lists (Err fault) is = tt

-- ---- arms

abbrev arm_lengths : List UnionArm → List ℕ
arm_lengths arms = map (λ (arm : UnionArm). length arm.items) arms

united_shape : (scene : Scene) (before table : Table) (arms : List UnionArm) → united scene before arms ≡ Ok table → map length table.lists ≡ map length before.lists ++ arm_lengths arms
united_shape scene before table [] e = let own : before ≡ table = cc e in rw (← own) (sym (append-nil (map length before.lists)))
united_shape scene before table (arm ∷ arms) e =
    let s = steps (arm_joined scene before arm) (λ next. united scene next arms) table e in
    let one = table_shape scene Ends arm.at before.nodes (before.lists ++ arm.items ∷ []) s.first s.is in
    let rest = united_shape scene s.first table arms s.gives in
    rest ∙ (ap (λ ls. ls ++ arm_lengths arms) (one ∙ map-append length before.lists (arm.items ∷ [])) ∙ append_assoc (map length before.lists) (length arm.items ∷ []) (arm_lengths arms))

arms_long : (arms : List SelectArm) (lists : List (List Part)) → length lists ≡ length arms → arm_lengths (arms_over arms lists) ≡ map length lists
arms_long [] [] same = refl
arms_long [] (list ∷ lists) same = absurd (omega (arith, same))
arms_long (arm ∷ arms) [] same = absurd (omega (arith, same))
arms_long (arm ∷ arms) (list ∷ lists) same = ap (λ ls. length list ∷ ls) (arms_long arms lists (omega (arith, same)))

united_all : (scene : Scene) (arms : List SelectArm) (nodes : ℕ) (lists : List (List Part)) (table : Table) → length lists ≡ length arms → arms_united scene arms nodes lists ≡ Ok table
    → map length table.lists ≡ map length lists
united_all scene [] nodes [] table same e = united_shape scene (record { lists = []; nodes = nodes }) table [] e
united_all scene [] nodes (list ∷ lists) table same e = absurd (omega (arith, same))
united_all scene (arm ∷ arms) nodes [] table same e = absurd (omega (arith, same))
united_all scene (arm ∷ arms) nodes (list ∷ lists) table same e =
    united_shape scene (record { lists = list ∷ []; nodes = nodes }) table (arms_over arms lists) e ∙ ap (λ ls. length list ∷ ls) (arms_long arms lists (omega (arith, same)))

as_many_lists : (arms : List SelectArm) (lists : List (List Part)) → map length lists ≡ map length (map (λ (arm : SelectArm). items_of arm.items) arms) → length lists ≡ length arms
as_many_lists arms lists same =
    let told = ap length same in
    let left = length-map lists length in
    let right = length-map (map (λ (arm : SelectArm). items_of arm.items) arms) length in
    let inner = length-map arms (λ (arm : SelectArm). items_of arm.items) in
    omega (arith, told, left, right, inner)

pub arms_kept : (scene : Scene) (arms : List SelectArm) (nodes : ℕ) (lists : List (List Part)) (r : Result Table Refusal) → map length lists ≡ map length (map (λ (arm : SelectArm). items_of arm.items) arms)
    → OrMemory is_memory (arms_united scene arms nodes lists) r → IfOk r (λ table. map length table.lists ≡ map length lists)
arms_kept scene arms nodes lists (Ok table) same is = united_all scene arms nodes lists table (as_many_lists arms lists same) is
arms_kept scene arms nodes lists (Err fault) same is = tt
