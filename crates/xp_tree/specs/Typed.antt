-- What a node asks of its parts: that their values have the types which the node needs (manual 4.2).
use Rattle.std.specs.Prelude.{◌≡◌, ℕ, ◌+◌, ◌-◌, ◌≤◌, List, [], ◌∷◌, Bool, true, false, ◌&&◌, ◌||◌}
use Rattle.std.specs.List.{All}
use Rattle.xp_base.specs.declared.numbers.RowNo.{RowNo}
use Rattle.xp_value.specs.declared.value.Rep.{Rep}
use Rattle.xp_value.specs.declared.value.Rep.TheVariants as rep
use Rattle.xp_value.specs.Representation.{Shape, plain, array_of, is_of}
use Rattle.xp_tree.specs.declared.parts.NodeType.{NodeType}
use Rattle.xp_tree.specs.declared.parts.Way.{Way}
use Rattle.xp_tree.specs.declared.parts.Way.TheVariants.{ByBody, ByOutput, ByInput, ByRelabel}
use Rattle.xp_tree.specs.declared.parts.Modifier.{Modifier}
use Rattle.xp_tree.specs.declared.parts.Modifier.TheVariants as modifier
use Rattle.xp_tree.specs.Term.{Leaf, One, Two, Many, Term, Terms, Arms, constant, column, given, output, input, relabel, elements, sizing, negation, is_null, is_true, is_false, is_unknown, conjunction, disjunction, null_if, distinct, subscript, call, coalesce, greatest, least, array, leaf, one, two, many, case, domain, checked, none, more, no_arm, arm, type_of}
use Rattle.xp_tree.specs.Rests.{Rests, is_same_rep, is_represented}

abbrev pub IsBool : NodeType → Type 0
IsBool ty = ty.rep ≡ rep.Bool

-- a text, padded or not
abbrev pub is_text : Rep → Bool
is_text rep.Text = true
is_text rep.Pad = true
is_text _ = false

-- a text, or a value whose type isn't represented, which is kept as its text
abbrev pub may_be_text : Rep → Bool
may_be_text r = is_text r || is_same_rep r rep.Opaque

-- the values of both are kept alike
abbrev pub SameRep : NodeType → NodeType → Type 0
SameRep a b = (a.rep ≡ b.rep) × (a.element ≡ b.element)

-- a value of the one may stand as a value of the other: both are texts, or one isn't represented, or both are kept alike
abbrev pub is_relabelled : Rep → Rep → Bool
is_relabelled a b = (is_text a && is_text b) || is_same_rep a rep.Opaque || is_same_rep b rep.Opaque || is_same_rep a b

-- how the type keeps its values
abbrev pub shape_with : Rep → Rep → Shape
shape_with element rep.Arr = array_of (plain element)
shape_with element r = plain r

abbrev pub shape_of : NodeType → Shape
shape_of ty = shape_with ty.element ty.rep

-- a value of the type an element of which it is
abbrev pub element_of : NodeType → NodeType
element_of ty = record { no = ty.no; rep = ty.element; element = rep.Opaque }

-- a type that isn't represented takes every modifier
abbrev pub is_sized : Rep → Modifier → Bool
is_sized r modifier.None = true
is_sized r (modifier.Length n) = may_be_text r
is_sized r (modifier.Digits p s) = is_same_rep r rep.Num || is_same_rep r rep.Opaque

-- the modifier is one of the type, or of an array type's elements
abbrev pub takes_modifier : NodeType → Modifier → Bool
takes_modifier ty m = is_sized ty.rep m || (is_same_rep ty.rep rep.Arr && is_sized ty.element m)

-- an array type, where its values are represented
abbrev pub IsArray : NodeType → Type 0
IsArray ty = is_represented ty ≡ true → ty.rep ≡ rep.Arr

-- each element of the one becomes an element of the other in this way
abbrev pub Converts : Way → NodeType → NodeType → Type 0
Converts (ByBody callee) a ty = Rests callee (element_of a ∷ [])
Converts ByOutput a ty = may_be_text ty.element ≡ true
Converts ByInput a ty = may_be_text a.element ≡ true
Converts ByRelabel a ty = is_relabelled a.element ty.element ≡ true

abbrev pub FitsLeaf : Leaf → NodeType → Type 0
FitsLeaf (constant v) ty = is_of (shape_of ty) v ≡ true
FitsLeaf (column number name) ty = Unit {0}
FitsLeaf given ty = Unit {0}

-- a node of type `ty` over a tree of type `a`
abbrev pub FitsOne : One → NodeType → NodeType → Type 0
FitsOne output a ty = may_be_text ty.rep ≡ true
FitsOne input a ty = may_be_text a.rep ≡ true
FitsOne relabel a ty = is_relabelled a.rep ty.rep ≡ true
FitsOne (elements way) a ty = IsArray a × IsArray ty × Converts way a ty
FitsOne (sizing m cut) a ty = (a ≡ ty) × (takes_modifier ty m ≡ true)
FitsOne negation a ty = IsBool a × IsBool ty
FitsOne is_null a ty = IsBool ty
FitsOne is_true a ty = IsBool a × IsBool ty
FitsOne is_false a ty = IsBool a × IsBool ty
FitsOne is_unknown a ty = IsBool a × IsBool ty

abbrev pub FitsTwo : Two → NodeType → NodeType → NodeType → Type 0
FitsTwo conjunction a b ty = IsBool a × IsBool b × IsBool ty
FitsTwo disjunction a b ty = IsBool a × IsBool b × IsBool ty
FitsTwo (null_if callee) a b ty = (a ≡ ty) × Rests callee (a ∷ b ∷ [])
FitsTwo (distinct callee) a b ty = IsBool ty × Rests callee (a ∷ b ∷ [])
FitsTwo subscript a b ty = (a.element ≡ ty.rep) × (b.rep ≡ rep.Int4)

-- one at least, and each of the node's type
abbrev pub AreAlike : List NodeType → NodeType → Type 0
AreAlike [] ty = ⊥
AreAlike (a ∷ types) ty = (a ≡ ty) × All (λ b. b ≡ ty) types

abbrev pub FitsMany : Many → List NodeType → NodeType → Type 0
FitsMany (call callee) types ty = Rests callee types
FitsMany coalesce types ty = AreAlike types ty
FitsMany greatest types ty = AreAlike types ty
FitsMany least types ty = AreAlike types ty
FitsMany array types ty = All (λ a. a.rep ≡ ty.element) types

abbrev pub types_of : Terms → List NodeType
types_of none = []
types_of (more a rest) = type_of a ∷ types_of rest

-- every node of the tree has what it asks for
abbrev mutual
  pub IsTyped : Term → Type 0
  IsTyped (leaf l ty) = FitsLeaf l ty
  IsTyped (one o a ty) = FitsOne o (type_of a) ty × IsTyped a
  IsTyped (two o a b ty) = FitsTwo o (type_of a) (type_of b) ty × IsTyped a × IsTyped b
  IsTyped (many o args ty) = FitsMany o (types_of args) ty × AllTyped args
  IsTyped (case arms other ty) = (type_of other ≡ ty) × ArmsTyped ty arms × IsTyped other
  IsTyped (domain a row not_null ty) = SameRep (type_of a) ty × IsTyped a
  IsTyped (checked a row not_null check ty) = SameRep (type_of a) ty × IsBool (type_of check) × IsTyped a × IsTyped check

  pub AllTyped : Terms → Type 0
  AllTyped none = Unit {0}
  AllTyped (more a rest) = IsTyped a × AllTyped rest

  pub ArmsTyped : NodeType → Arms → Type 0
  ArmsTyped ty no_arm = Unit {0}
  ArmsTyped ty (arm c r rest) = IsBool (type_of c) × (type_of r ≡ ty) × IsTyped c × IsTyped r × ArmsTyped ty rest
