-- The columns of a script's expressions (this project's own).
use Rattle.std.specs.Prelude.{◌≡◌, ◌<◌, List, length, true}
use Rattle.std.specs.List.{All}
use Rattle.xp_catalog.specs.declared.header.HeaderColumn.{HeaderColumn}
use Rattle.xp_catalog.specs.Contents.{Contents}
use Rattle.xp_named.specs.Names.{is_value_type}

-- the column's type is one that values may have
pub record IsColumn (c : Contents) (column : HeaderColumn) : Type 0 where
  pub within : column.ty.0 < length c.types
  pub valued : is_value_type c column.ty ≡ true

abbrev pub AreColumns : Contents → List HeaderColumn → Type 0
AreColumns c header = All (IsColumn c) header
