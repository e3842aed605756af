-- Rows that fit the columns of a header.
use Rattle.std.specs.Prelude.{◌≡◌, List, [], ◌∷◌, Bool, true, false, ◌&&◌}
use Rattle.std.specs.List.{All}
use Rattle.xp_value.specs.declared.value.Value.{Value}
use Rattle.xp_value.specs.Representation.{is_of}
use Rattle.xp_catalog.specs.declared.header.HeaderColumn.{HeaderColumn}
use Rattle.xp_catalog.specs.Contents.{Contents}
use Rattle.xp_io.specs.Representations.{shape_of}
use Rattle.xp_named.specs.Columns.{AreColumns}

-- as many values as columns, each null or of its column's type
abbrev pub fits : Contents → List HeaderColumn → List Value → Bool
fits c [] [] = true
fits c [] (v ∷ values) = false
fits c (column ∷ columns) [] = false
fits c (column ∷ columns) (v ∷ values) = is_of (shape_of c column.ty) v && fits c columns values

-- columns of the catalogue's types, and rows that fit them
pub record AreRows (c : Contents) (header : List HeaderColumn) (rows : List (List Value)) : Type 0 where
  pub columns : AreColumns c header
  pub fit : All (λ row. fits c header row ≡ true) rows
