-- When trees give what a body takes (manual 38.2.5 for the polymorphic types).
use Rattle.std.specs.Prelude.{◌≡◌, ℕ, List, [], ◌∷◌, Bool, true, false, ◌==◌, ◌&&◌, ◌||◌, not, cond, codes, Option, Some, None, slice_get}
use Rattle.std.specs.List.{list_all, list_any}
use Rattle.std.specs.Str.{bytes_eq}
use Rattle.xp_base.specs.declared.numbers.BodyNo.{BodyNo}
use Rattle.xp_value.specs.Names.{rep_named}
use Rattle.xp_value.specs.declared.value.Rep.{Rep}
use Rattle.xp_value.specs.declared.value.Rep.TheVariants as rep
use Rattle.xp_bodies.specs.Row.{Row}
use Rattle.xp_bodies.specs.Table.{bodies}
use Rattle.xp_tree.specs.declared.parts.NodeType.{NodeType}
use Rattle.xp_tree.specs.declared.parts.Callee.{Callee}

-- the place of a representation among them
abbrev pub place_of : Rep → ℕ
place_of rep.Bool = 0
place_of rep.Int2 = 1
place_of rep.Int4 = 2
place_of rep.Int8 = 3
place_of rep.Num = 4
place_of rep.Text = 5
place_of rep.Pad = 6
place_of rep.Bytes = 7
place_of rep.Day = 8
place_of rep.Arr = 9
place_of rep.Int4Range = 10
place_of rep.Int8Range = 11
place_of rep.DateRange = 12
place_of rep.Opaque = 13

abbrev pub is_same_rep : Rep → Rep → Bool
is_same_rep a b = place_of a == place_of b

-- what an element may be that the polymorphic arguments of a call have in common
abbrev pub element_reps : List Rep
element_reps =
    rep.Bool ∷ rep.Int2 ∷ rep.Int4 ∷ rep.Int8 ∷ rep.Num ∷ rep.Text ∷ rep.Pad ∷ rep.Bytes ∷ rep.Day ∷ rep.Arr ∷ rep.Int4Range
    ∷ rep.Int8Range ∷ rep.DateRange ∷ []

-- the representation of the range type over it
abbrev pub range_over : Rep → Rep
range_over rep.Int4 = rep.Int4Range
range_over rep.Int8 = rep.Int8Range
range_over rep.Day = rep.DateRange
range_over _ = rep.Opaque

-- the representation of the type of that name, a range type among them
abbrev pub rep_called : List ℕ → Rep
rep_called name =
    cond (bytes_eq name (codes "int4range")) rep.Int4Range (
    cond (bytes_eq name (codes "int8range")) rep.Int8Range (
    cond (bytes_eq name (codes "daterange")) rep.DateRange (rep_named name)))

abbrev pub is_array_over : Rep → NodeType → Bool
is_array_over element ty = is_same_rep ty.rep rep.Arr && is_same_rep ty.element element

-- A value of the type may stand where a body declares that name, the element being this one. Values at `any` come as one array of texts.
abbrev pub fits_at : Rep → List ℕ → NodeType → Bool
fits_at element name ty =
    cond (bytes_eq name (codes "any")) (is_array_over rep.Text ty) (
    cond (bytes_eq name (codes "anyelement") || bytes_eq name (codes "anynonarray") || bytes_eq name (codes "anycompatible")) (is_same_rep ty.rep element) (
    cond (bytes_eq name (codes "anyarray") || bytes_eq name (codes "anycompatiblearray")) (is_array_over element ty) (
    cond (bytes_eq name (codes "anyrange")) (is_same_rep ty.rep (range_over element)) (is_same_rep ty.rep (rep_called name)))))

abbrev pub fit_each : Rep → List (List ℕ) → List NodeType → Bool
fit_each element [] [] = true
fit_each element (name ∷ names) (ty ∷ types) = fits_at element name ty && fit_each element names types
fit_each element _ _ = false

-- values of the types are arguments of the body, with one element for all that are polymorphic
abbrev pub fit_row : Row → List NodeType → Bool
fit_row row types = list_any (λ element. fit_each element row.args types) element_reps

abbrev pub is_represented : NodeType → Bool
is_represented ty = not (is_same_rep ty.rep rep.Opaque)

-- What a node rests on: a record with a body has the body's strictness, and where every argument is represented the arguments fit the body.
abbrev pub RestsOn : Callee → List NodeType → Option Row → Type 0
RestsOn callee types None = ⊥
RestsOn callee types (Some row) = (callee.strict ≡ row.strict) × (list_all is_represented types ≡ true → fit_row row types ≡ true)

abbrev pub RestsOnBody : Callee → List NodeType → Option BodyNo → Type 0
RestsOnBody callee types None = Unit {0}
RestsOnBody callee types (Some body) = RestsOn callee types (slice_get bodies body.0)

abbrev pub Rests : Callee → List NodeType → Type 0
Rests callee types = RestsOnBody callee types callee.body
