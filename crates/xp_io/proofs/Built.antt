-- The text form of each representation that a type's name tells is built.
use Rattle.std.proofs.Common.{◌≡◌, ℕ, List, Bool, true, false, ◌||◌, codes, cond, refl}
use Rattle.std.specs.Str.{bytes_eq}
use Rattle.xp_value.specs.declared.value.Rep.TheVariants as rep
use Rattle.xp_value.specs.Names.{rep_named}
use Rattle.xp_catalog.specs.declared.rows.TypeKind.{TypeKind}
use Rattle.xp_catalog.specs.declared.rows.TypeKind.TheVariants as kind
use Rattle.xp_io.specs.Representations.{is_built, rep_by}

chosen : (a b d e f g h i j : Bool) → is_built (cond a rep.Bool (cond b rep.Int2 (cond d rep.Int4 (cond e rep.Int8 (cond f rep.Num (cond g rep.Text (cond h rep.Pad (cond i rep.Bytes (cond j rep.Day rep.Opaque))))))))) ≡ true
chosen true b d e f g h i j = refl
chosen false true d e f g h i j = refl
chosen false false true e f g h i j = refl
chosen false false false true f g h i j = refl
chosen false false false false true g h i j = refl
chosen false false false false false true h i j = refl
chosen false false false false false false true i j = refl
chosen false false false false false false false true j = refl
chosen false false false false false false false false true = refl
chosen false false false false false false false false false = refl

pub named_built : (name : List ℕ) → is_built (rep_named name) ≡ true
named_built name =
    chosen (bytes_eq name (codes "bool")) (bytes_eq name (codes "int2")) (bytes_eq name (codes "int4")) (bytes_eq name (codes "int8")) (bytes_eq name (codes "numeric"))
    (bytes_eq name (codes "text") || bytes_eq name (codes "varchar")) (bytes_eq name (codes "bpchar")) (bytes_eq name (codes "bytea")) (bytes_eq name (codes "date"))

pub kind_built : (k : TypeKind) (name : List ℕ) → is_built (rep_by k name) ≡ true
kind_built kind.Plain name = named_built name
kind_built (kind.Pseudo p) name = refl
kind_built (kind.Array e) name = refl
kind_built (kind.Range n) name = refl
kind_built (kind.Domain n) name = refl
