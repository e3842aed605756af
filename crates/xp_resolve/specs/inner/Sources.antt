-- What holds of the trees that are made, and of what arguments are converted to.
use Rattle.std.specs.Prelude.{◌≡◌, ◌≤◌, List, IfSome, length, map, true}
use Rattle.std.specs.List.{All}
use Rattle.xp_base.specs.declared.limits.TheConstants.{COLUMN_LIMIT}
use Rattle.xp_base.specs.declared.numbers.TypeNo.{TypeNo}
use Rattle.xp_catalog.specs.Contents.{Contents}
use Rattle.xp_types.specs.Readers.{is_known}
use Rattle.xp_types.specs.Within.{IsType}
use Rattle.xp_named.specs.Columns.{AreColumns}
use Rattle.xp_tree.specs.declared.parts.NodeType.{NodeType}
use Rattle.xp_tree.specs.Term.{Term, type_of}
use Rattle.xp_bodies.specs.Fits.{IsFitted}
use Rattle.xp_coerce.specs.Asked.{AreTruths, IsSource}
use Rattle.xp_coerce.specs.Types.{node_type}
use Rattle.xp_resolve.specs.declared.made.Part.{Part}
use Rattle.xp_resolve.specs.declared.targets.Target.{Target}
use Rattle.xp_resolve.specs.declared.targets.Target.TheVariants as target
use Rattle.xp_resolve.specs.Scene.{Scene}
use Rattle.xp_resolve.specs.Targets.{type_at}

-- each may be converted
abbrev pub AreSources : Contents → List Part → Type 0
AreSources c parts = All (λ part. IsSource c part.tree) parts

abbrev pub IsTarget : Contents → Target → Type 0
IsTarget c (target.Of type) = IsType c type
IsTarget c _ = Unit {0}

-- the type of a tree that was converted to this
abbrev pub target_type : Contents → Target → NodeType
target_type c t = node_type c (type_at c t)

-- each is of its own
abbrev pub AreOf : Contents → List Target → List Term → Type 0
AreOf c targets trees = map type_of trees ≡ map (target_type c) targets

-- a type that values may have
pub record IsValued (c : Contents) (type : TypeNo) : Type 0 where
  pub within : IsType c type
  pub known : is_known type ≡ true

-- what is asked of all that an expression is resolved over
pub record IsScene (scene : Scene) : Type 0 where
  pub fitted : IsFitted scene.c
  pub checks : AreTruths scene.checks
  pub columns : AreColumns scene.c scene.columns
  pub few : length scene.columns ≤ COLUMN_LIMIT
  pub value : IfSome scene.value (IsValued scene.c)
