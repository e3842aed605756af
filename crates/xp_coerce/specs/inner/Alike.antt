-- A type whose values may stand as those of another, before a domain has looked at them.
use Rattle.std.specs.Prelude.{◌≡◌, false}
use Rattle.xp_base.specs.declared.numbers.TypeNo.{TypeNo}
use Rattle.xp_catalog.specs.Contents.{Contents}
use Rattle.xp_types.specs.Paths.{is_domain}
use Rattle.xp_tree.specs.declared.parts.NodeType.{NodeType}
use Rattle.xp_tree.specs.Typed.{SameRep}
use Rattle.xp_coerce.specs.Types.{node_type}

-- the values are kept alike, and the type is the other one where that is no domain
pub record IsAlike (c : Contents) (target : TypeNo) (type : NodeType) : Type 0 where
  pub kept : SameRep type (node_type c target)
  pub same : is_domain c target ≡ false → type ≡ node_type c target
