-- The type of a node's value, as the catalogue has it (manual 8.15, 8.18).
use Rattle.std.specs.Prelude.{◌≡◌}
use Rattle.xp_base.specs.declared.numbers.TypeNo.{TypeNo}
use Rattle.xp_catalog.specs.Contents.{Contents}
use Rattle.xp_types.specs.Within.{IsType}
use Rattle.xp_tree.specs.declared.parts.NodeType.{NodeType}
use Rattle.xp_io.specs.Representations.{element_rep, rep_of}

abbrev pub node_type : Contents → TypeNo → NodeType
node_type c type = record { no = type; rep = rep_of c type; element = element_rep c type }

-- the type is one of the catalogue's, and its values are kept as the catalogue says
pub record IsTypeOf (c : Contents) (type : NodeType) : Type 0 where
  pub within : IsType c type.no
  pub same : type ≡ node_type c type.no
