-- How the values of a type are kept, by the type's name (manual 8.1, 8.3, 8.4, 8.5, 8.6).
use Rattle.std.specs.Prelude.{ℕ, List, ◌||◌, cond, codes}
use Rattle.std.specs.Str.{bytes_eq}
use Rattle.xp_value.specs.declared.value.Rep.{Rep}
use Rattle.xp_value.specs.declared.value.Rep.TheVariants as rep

-- the representation of the plain type of that name
abbrev pub rep_named : List ℕ → Rep
rep_named name =
    cond (bytes_eq name (codes "bool")) rep.Bool (
    cond (bytes_eq name (codes "int2")) rep.Int2 (
    cond (bytes_eq name (codes "int4")) rep.Int4 (
    cond (bytes_eq name (codes "int8")) rep.Int8 (
    cond (bytes_eq name (codes "numeric")) rep.Num (
    cond (bytes_eq name (codes "text") || bytes_eq name (codes "varchar")) rep.Text (
    cond (bytes_eq name (codes "bpchar")) rep.Pad (
    cond (bytes_eq name (codes "bytea")) rep.Bytes (
    cond (bytes_eq name (codes "date")) rep.Day rep.Opaque))))))))
