-- The types of a call's arguments against those that its function declares (manual 38.2.5, 38.5.6).
use Rattle.std.specs.Prelude.{◌≡◌, true, List, [], ◌∷◌, codes, IfSome, Option, Some, None, slice_get, option_map}
use Rattle.xp_base.specs.declared.numbers.BodyNo.{BodyNo}
use Rattle.xp_base.specs.declared.numbers.RowNo.{RowNo}
use Rattle.xp_base.specs.declared.numbers.TypeNo.{TypeNo}
use Rattle.xp_catalog.specs.declared.rows.FuncRow.{FuncRow}
use Rattle.xp_catalog.specs.Contents.{Contents}
use Rattle.xp_catalog.specs.Lookups.{type_named}
use Rattle.xp_types.specs.Readers.{element}
use Rattle.xp_poly.specs.declared.roles.Form.{Form}
use Rattle.xp_poly.specs.declared.roles.Form.TheVariants.{Element, NonArray, Array, Range}
use Rattle.xp_poly.specs.declared.roles.Role.{Role}
use Rattle.xp_poly.specs.declared.roles.Role.TheVariants.{Plain, Any, Member}
use Rattle.xp_poly.specs.Roles.{role}
use Rattle.xp_tree.specs.declared.parts.NodeType.{NodeType}
use Rattle.xp_tree.specs.Rests.{is_represented}
use Rattle.xp_coerce.specs.Types.{node_type}
use Rattle.xp_resolve.specs.declared.nodes.Taking.{Taking}
use Rattle.xp_resolve.specs.declared.nodes.Taking.TheVariants.{AsBound, AsText, ElementsAsText}
use Rattle.xp_resolve.specs.Nodes.{taking_of}

-- the type is the one named `text`
pub record IsText (c : Contents) (ty : NodeType) : Type 0 where
  pub named : type_named c (codes "text") ≡ Some ty.no
  pub same : ty ≡ node_type c ty.no

-- the type is that of the array type's elements
abbrev pub IsElementOf : Contents → TypeNo → NodeType → Type 0
IsElementOf c array ty = option_map (node_type c) (element c array) ≡ Some ty

-- what is asked of one that stands for itself, where the body takes such as texts
abbrev pub IsTaken : Contents → Taking → NodeType → Type 0
IsTaken c AsText ty = IsText c ty
IsTaken c AsBound ty = Unit {0}
IsTaken c ElementsAsText ty = Unit {0}

-- values of arrays and of ranges aren't represented
abbrev pub StandsIn : Contents → Taking → Form → NodeType → Type 0
StandsIn c taking Element ty = IsTaken c taking ty
StandsIn c taking NonArray ty = IsTaken c taking ty
StandsIn c taking Array ty = ⊥
StandsIn c taking Range ty = ⊥

-- all that come at `any` come as one array
abbrev pub StandsBy : Contents → Taking → TypeNo → Role → NodeType → Type 0
StandsBy c taking declared Plain ty = ty ≡ node_type c declared
StandsBy c taking declared Any ty = ⊥
StandsBy c taking declared (Member family form) ty = StandsIn c taking form ty

-- what is asked of one whose type is represented
abbrev pub StandsFor : Contents → Taking → TypeNo → NodeType → Type 0
StandsFor c taking declared ty = is_represented ty ≡ true → StandsBy c taking declared (role c declared) ty

abbrev pub StandEach : Contents → Taking → List TypeNo → List NodeType → Type 0
StandEach c taking [] [] = Unit {0}
StandEach c taking (declared ∷ args) (ty ∷ types) = StandsFor c taking declared ty × StandEach c taking args types
StandEach c taking _ _ = ⊥

-- nothing is asked where there is no body
abbrev pub StandIfBody : Contents → List TypeNo → Option BodyNo → List NodeType → Type 0
StandIfBody c args None types = Unit {0}
StandIfBody c args (Some body) types = StandEach c (taking_of (Some body)) args types

-- values of the types stand where the function declares its arguments
abbrev pub Stand : Contents → FuncRow → List NodeType → Type 0
Stand c func types = StandIfBody c func.args func.body types

abbrev pub StandAt : Contents → RowNo → List NodeType → Type 0
StandAt c row types = IfSome (slice_get c.funcs row.0) (λ func. Stand c func types)
