-- The table of bodies: each row of it, family by family (manual 9).
use Rattle.std.specs.Prelude.{ℕ, List, [], ◌∷◌, ◌++◌, ◌==◌, ◌||◌, Option, cond, map, codes, option_map}
use Rattle.std.specs.List.{flat_map, position}
use Rattle.std.specs.Str.{bytes_eq}
use Rattle.xp_base.specs.declared.numbers.BodyNo.{BodyNo}
use Rattle.xp_bodies.specs.Row.{Row, gathering, on_null, stable, usual}

-- a byte before the first part
abbrev pub onto : ℕ → List (List ℕ) → List (List ℕ)
onto b [] = (b ∷ []) ∷ []
onto b (part ∷ parts) = (b ∷ part) ∷ parts

-- the parts that a byte divides
abbrev pub parts : ℕ → List ℕ → List (List ℕ)
parts at [] = [] ∷ []
parts at (b ∷ bs) = cond (b == at) ([] ∷ parts at bs) (onto b (parts at bs))

abbrev pub words : List ℕ → List (List ℕ)
words = parts 32

-- lines of the table: each of the words over each of the lists of arguments, which `;` divides
abbrev pub lines : List ℕ → List ℕ → List ℕ → List Row
lines names lists result = flat_map (λ word. map (λ args. usual word (words args) result) (parts 59 lists)) (words names)

abbrev pub integer_types : List (List ℕ)
integer_types = words (codes "int2 int4 int8")

-- the integer type that holds all values of both
abbrev pub wider : List ℕ → List ℕ → List ℕ
wider a b =
    cond (bytes_eq a (codes "int8") || bytes_eq b (codes "int8")) (codes "int8") (
    cond (bytes_eq a (codes "int4") || bytes_eq b (codes "int4")) (codes "int4") (codes "int2"))

-- each of the words over every two integer types
abbrev pub over_pairs : List ℕ → (List ℕ → List ℕ → List ℕ) → List Row
over_pairs names result = flat_map (λ word. flat_map (λ a. map (λ b. usual word (a ∷ b ∷ []) (result a b)) integer_types) integer_types) (words names)

-- what gives an integer of the type that it takes
abbrev pub over_one : List ℕ → List Row
over_one a =
    map (λ word. usual word (a ∷ a ∷ []) a) (words (codes "mod and or xor"))
    ++ map (λ word. usual word (a ∷ []) a) (words (codes "not neg plus abs"))
    ++ map (λ word. usual word (a ∷ codes "int4" ∷ []) a) (words (codes "shl shr"))

-- sums, differences, products and quotients of integers (manual 9.3)
unfoldable pub arithmetic : List Row
arithmetic =
    over_pairs (codes "add sub mul div") wider

-- comparisons of integers (manual 9.2)
unfoldable pub comparisons : List Row
comparisons =
    over_pairs (codes "eq ne lt le gt ge") (λ a b. codes "bool")

-- the rest of integers, and truth values (manual 9.1 to 9.3)
unfoldable pub integers : List Row
integers =
    flat_map over_one integer_types
    ++ lines (codes "int2") (codes "int4;int8") (codes "int2")
    ++ lines (codes "int4") (codes "int2;int8;bool") (codes "int4")
    ++ lines (codes "int8") (codes "int2;int4") (codes "int8")
    ++ lines (codes "bool") (codes "int4") (codes "bool")
    ++ lines (codes "to_hex") (codes "int4;int8") (codes "text")
    ++ lines (codes "eq ne lt le gt ge") (codes "bool bool") (codes "bool")

-- numeric (manual 9.3)
unfoldable pub numerics : List Row
numerics =
    lines (codes "add sub mul div mod intdiv") (codes "numeric numeric") (codes "numeric")
    ++ lines (codes "eq ne lt le gt ge") (codes "numeric numeric") (codes "bool")
    ++ lines (codes "neg plus abs sign ceil floor trim_scale") (codes "numeric") (codes "numeric")
    ++ lines (codes "round trunc") (codes "numeric;numeric int4") (codes "numeric")
    ++ lines (codes "scale") (codes "numeric") (codes "int4")
    ++ lines (codes "numeric") (codes "int2;int4;int8") (codes "numeric")
    ++ map (λ a. usual a (codes "numeric" ∷ []) a) integer_types

-- texts and byte strings, joined, compared, matched, converted and measured (manual 9.2, 9.4, 9.5 and 9.7)
unfoldable pub texts : List Row
texts =
    lines (codes "cat") (codes "text text") (codes "text")
    ++ lines (codes "cat") (codes "bytea bytea") (codes "bytea")
    ++ map stable (lines (codes "textany") (codes "text anynonarray") (codes "text"))
    ++ map stable (lines (codes "anytext") (codes "anynonarray text") (codes "text"))
    ++ lines (codes "eq ne lt le gt ge") (codes "text text;bpchar bpchar;bytea bytea") (codes "bool")
    ++ lines (codes "like nlike ilike nilike") (codes "text text;bpchar text") (codes "bool")
    ++ lines (codes "like nlike") (codes "bytea bytea") (codes "bool")
    ++ lines (codes "text") (codes "bpchar;bool") (codes "text")
    ++ lines (codes "varchar") (codes "bpchar;bool") (codes "varchar")
    ++ lines (codes "bpchar") (codes "bool") (codes "bpchar")
    ++ lines (codes "length octet_length") (codes "text;bpchar;bytea") (codes "int4")

-- texts and byte strings, taken apart and rewritten (manual 9.4 and 9.5)
unfoldable pub edits : List Row
edits =
    lines (codes "upper lower reverse") (codes "text") (codes "text")
    ++ lines (codes "substr") (codes "text int4;text int4 int4") (codes "text")
    ++ lines (codes "substr") (codes "bytea int4;bytea int4 int4") (codes "bytea")
    ++ lines (codes "strpos") (codes "text text;bytea bytea") (codes "int4")
    ++ lines (codes "left right repeat") (codes "text int4") (codes "text")
    ++ lines (codes "lpad rpad") (codes "text int4;text int4 text") (codes "text")
    ++ lines (codes "ltrim rtrim btrim") (codes "text;text text") (codes "text")
    ++ lines (codes "replace translate") (codes "text text text") (codes "text")
    ++ lines (codes "split_part") (codes "text text int4") (codes "text")
    ++ lines (codes "starts_with") (codes "text text") (codes "bool")
    ++ lines (codes "ascii") (codes "text") (codes "int4")
    ++ lines (codes "chr") (codes "int4") (codes "text")
    ++ map gathering (lines (codes "concat") (codes "any") (codes "text"))
    ++ map gathering (lines (codes "concat_ws") (codes "text any") (codes "text"))
    ++ lines (codes "encode") (codes "bytea text") (codes "text")
    ++ lines (codes "decode") (codes "text text") (codes "bytea")
    ++ lines (codes "get_byte") (codes "bytea int4") (codes "int4")
    ++ lines (codes "set_byte") (codes "bytea int4 int4") (codes "bytea")

-- dates (manual 9.9)
unfoldable pub dates : List Row
dates =
    lines (codes "eq ne lt le gt ge") (codes "date date") (codes "bool")
    ++ lines (codes "add") (codes "date int4;int4 date") (codes "date")
    ++ lines (codes "sub") (codes "date int4") (codes "date")
    ++ lines (codes "sub") (codes "date date") (codes "int4")
    ++ lines (codes "make_date") (codes "int4 int4 int4") (codes "date")
    ++ lines (codes "extract") (codes "text date") (codes "numeric")

-- arrays (manual 9.19)
unfoldable pub arrays : List Row
arrays =
    lines (codes "eq ne lt le gt ge contains contained overlaps") (codes "anyarray anyarray") (codes "bool")
    ++ map on_null (lines (codes "array_cat") (codes "anycompatiblearray anycompatiblearray") (codes "anycompatiblearray"))
    ++ map on_null (lines (codes "array_append array_remove") (codes "anycompatiblearray anycompatible") (codes "anycompatiblearray"))
    ++ map on_null (lines (codes "array_prepend") (codes "anycompatible anycompatiblearray") (codes "anycompatiblearray"))
    ++ map on_null (lines (codes "array_replace") (codes "anycompatiblearray anycompatible anycompatible") (codes "anycompatiblearray"))
    ++ map on_null (lines (codes "array_position") (codes "anycompatiblearray anycompatible") (codes "int4"))
    ++ map on_null (lines (codes "array_positions") (codes "anycompatiblearray anycompatible") (codes "int4[]"))
    ++ lines (codes "array_length array_upper array_lower") (codes "anyarray int4") (codes "int4")
    ++ lines (codes "array_ndims cardinality") (codes "anyarray") (codes "int4")
    ++ lines (codes "trim_array") (codes "anyarray int4") (codes "anyarray")
    ++ map stable (lines (codes "array_to_string") (codes "anyarray text") (codes "text"))
    ++ map (λ row. on_null (stable row)) (lines (codes "array_to_string") (codes "anyarray text text") (codes "text"))
    ++ map on_null (lines (codes "string_to_array") (codes "text text;text text text") (codes "text[]"))

-- ranges (manual 9.20)
unfoldable pub ranges : List Row
ranges =
    map on_null (lines (codes "int4range") (codes "int4 int4;int4 int4 text") (codes "int4range"))
    ++ map on_null (lines (codes "int8range") (codes "int8 int8;int8 int8 text") (codes "int8range"))
    ++ map on_null (lines (codes "daterange") (codes "date date;date date text") (codes "daterange"))
    ++ lines (codes "eq ne lt le gt ge contains contained overlaps before after notright notleft adjacent") (codes "anyrange anyrange") (codes "bool")
    ++ lines (codes "contains") (codes "anyrange anyelement") (codes "bool")
    ++ lines (codes "contained") (codes "anyelement anyrange") (codes "bool")
    ++ lines (codes "union intersect minus range_merge") (codes "anyrange anyrange") (codes "anyrange")
    ++ lines (codes "lower upper") (codes "anyrange") (codes "anyelement")
    ++ lines (codes "isempty lower_inc upper_inc lower_inf upper_inf") (codes "anyrange") (codes "bool")

-- one family behind the other; a body's number is its place here
unfoldable pub bodies : List Row
bodies = flat_map (λ family. family) (arithmetic ∷ comparisons ∷ integers ∷ numerics ∷ texts ∷ edits ∷ dates ∷ arrays ∷ ranges ∷ [])

abbrev pub body_number : ℕ → BodyNo
body_number place = record { 0 = place }

-- the place of the first row of that name
abbrev pub place_named : List ℕ → List Row → Option ℕ
place_named name rows = position (λ row. bytes_eq row.name name) rows

-- the body of that name
abbrev pub body_named : List ℕ → Option BodyNo
body_named name = option_map body_number (place_named name bodies)
