-- The types that stand for declared types in a call (manual 38.2.5).
use Rattle.std.specs.Prelude.{IfSome, List, Bool, ◌&&◌, cond, map, find, unwrap_or, zip}
use Rattle.std.specs.Option.{option_map_or}
use Rattle.xp_base.specs.declared.numbers.TypeNo.{TypeNo}
use Rattle.xp_catalog.specs.Contents.{Contents}
use Rattle.xp_types.specs.Common.{text}
use Rattle.xp_types.specs.Readers.{is_known, is_same, unknown}
use Rattle.xp_types.specs.Within.{IsType}
use Rattle.xp_poly.specs.Roles.{role}
use Rattle.xp_poly.specs.Members.{given, range_given}
use Rattle.xp_poly.specs.Acceptance.{array_type, compatible_type, element_type, is_empty, uses}
use Rattle.xp_catalog.specs.declared.rows.Family.{Family}
use Rattle.xp_catalog.specs.declared.rows.Family.TheVariants.{First, Second}
use Rattle.xp_poly.specs.declared.roles.Form.{Form}
use Rattle.xp_poly.specs.declared.roles.Form.TheVariants.{Element, NonArray, Array, Range}
use Rattle.xp_poly.specs.declared.roles.Role.{Role}
use Rattle.xp_poly.specs.declared.roles.Role.TheVariants as role_is
use Rattle.xp_poly.specs.declared.members.KnownInput.{KnownInput}
use Rattle.xp_poly.specs.declared.bound.Bond.{Bond}
use Rattle.xp_poly.specs.declared.bound.Bonds.{Bonds}
use Rattle.xp_poly.specs.declared.bound.Binding.{Binding}
use Rattle.xp_poly.specs.declared.bound.Binding.TheVariants.{Concrete, Indeterminate}

-- the range type of the first range record over a type, and unknown where there is none
abbrev pub range_over : Contents → TypeNo → TypeNo
range_over c type = option_map_or (λ range. range.ty) (find (λ range. is_same range.subtype type) c.ranges) unknown

-- what a family is bound to: a type, and the range type of an input where a range is declared
abbrev pub first_bond : Contents → List KnownInput → Bond
first_bond c inputs = record { element = unwrap_or (element_type c inputs) unknown; range = range_given c inputs }

abbrev pub second_bond : Contents → List KnownInput → Bond
second_bond c inputs = record { element = unwrap_or (compatible_type c inputs) unknown; range = range_given c inputs }

abbrev pub member_type : Contents → Bond → Form → TypeNo
member_type c bond Element = bond.element
member_type c bond NonArray = bond.element
member_type c bond Array = array_type c bond.element
member_type c bond Range = unwrap_or bond.range (range_over c bond.element)

-- what the two families are bound to
abbrev pub bonds : Contents → List (TypeNo × TypeNo) → Bonds
bonds c pairs = record { first = first_bond c (given c First pairs); second = second_bond c (given c Second pairs) }

abbrev pub bond_of : Bonds → Family → Bond
bond_of both First = both.first
bond_of both Second = both.second

-- at `any` an input stays of its type, and one without a type is a text
abbrev pub any_type : Contents → TypeNo → TypeNo
any_type c input = cond (is_known input) input (text c)

abbrev pub concrete_by : Contents → Bonds → TypeNo → TypeNo → Role → TypeNo
concrete_by c both declared input role_is.Plain = declared
concrete_by c both declared input role_is.Any = any_type c input
concrete_by c both declared input (role_is.Member family form) = member_type c (bond_of both family) form

abbrev pub concrete : Contents → Bonds → TypeNo → TypeNo → TypeNo
concrete c both declared input = concrete_by c both declared input (role c declared)

abbrev pub concrete_at : Contents → Bonds → TypeNo × TypeNo → TypeNo
concrete_at c both pair = concrete c both pair.0 pair.1

-- the types at the positions
abbrev pub concrete_types : Contents → List (TypeNo × TypeNo) → List TypeNo
concrete_types c pairs = map (concrete_at c (bonds c pairs)) pairs

abbrev pub has_no_element : Contents → List TypeNo → List KnownInput → Bool
has_no_element c declared inputs = uses c First declared && is_empty inputs

-- nothing tells the element type of the first family
abbrev pub is_indeterminate : Contents → List TypeNo → List TypeNo → Bool
is_indeterminate c declared inputs = has_no_element c declared (given c First (zip declared inputs))

-- the type of the result, which is given by no input
abbrev pub bound : Contents → List TypeNo → TypeNo → List TypeNo → Binding
bound c declared result inputs =
    cond (is_indeterminate c declared inputs) Indeterminate (Concrete (concrete c (bonds c (zip declared inputs)) result unknown))

abbrev pub IfConcrete : Binding → (TypeNo → Type 0) → Type 0
IfConcrete (Concrete type) P = P type
IfConcrete Indeterminate P = Unit {0}

-- the numbers of a bond are those of types
pub record IsBond (c : Contents) (bond : Bond) : Type 0 where
  pub element : IsType c bond.element
  pub range : IfSome bond.range (IsType c)

pub record AreBonds (c : Contents) (both : Bonds) : Type 0 where
  pub first : IsBond c both.first
  pub second : IsBond c both.second
