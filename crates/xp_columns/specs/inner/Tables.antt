-- Lists and columns that may be converted.
use Rattle.std.specs.Prelude.{◌≡◌, ℕ, ◌<◌, List, length}
use Rattle.std.specs.List.{All}
use Rattle.xp_catalog.specs.Contents.{Contents}
use Rattle.xp_resolve.specs.declared.made.Part.{Part}
use Rattle.xp_resolve.specs.inner.Sources.{AreSources}
use Rattle.xp_columns.specs.declared.columns.UnionArm.{UnionArm}

abbrev pub AreLists : Contents → List (List Part) → Type 0
AreLists c lists = All (AreSources c) lists

-- each list has so many items
abbrev pub AreOfWidth : ℕ → List (List Part) → Type 0
AreOfWidth width lists = All (λ list. length list ≡ width) lists

abbrev pub AreArms : Contents → List UnionArm → Type 0
AreArms c arms = All (λ arm. AreSources c arm.items) arms

-- a column has an item at least
pub record IsColumn (c : Contents) (parts : List Part) : Type 0 where
  pub sources : AreSources c parts
  pub some : 0 < length parts

abbrev pub AreColumns : Contents → List (List Part) → Type 0
AreColumns c columns = All (IsColumn c) columns
