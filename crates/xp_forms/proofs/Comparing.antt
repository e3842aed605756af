-- The operator over two operands that are converted for its function.
use Rattle.std.proofs.Common.{◌≡◌, ℕ, ◌+◌, ◌==◌, List, [], ◌∷◌, ◌++◌, Bool, true, false, codes, length, refl, sym, ◌∙◌, ap, arith, Option, Some, None, slice_get, option_map, Result, Ok, Err}
use Rattle.std.specs.List.{All, position}
use Rattle.std.specs.Str.{bytes_eq}
use Rattle.std.proofs.lemmas.List.{length-append}
use Rattle.std.proofs.lemmas.List.Elements.{All-head}
use Rattle.std.proofs.lemmas.Option.{slice_get_within}
use Rattle.xp_base.specs.OrMemory.{OrMemory}
use Rattle.xp_base.specs.declared.codes.Code.TheVariants as code
use Rattle.xp_base.specs.declared.numbers.RowNo.{RowNo}
use Rattle.xp_base.specs.declared.numbers.TypeNo.{TypeNo}
use Rattle.xp_bodies.specs.Fits.{IsFitted}
use Rattle.xp_candidates.specs.declared.pick.Pick.{Pick}
use Rattle.xp_candidates.specs.declared.pick.Pick.TheVariants.{Undefined, Ambiguous, Memory}
use Rattle.xp_candidates.specs.Chosen.{Answers}
use Rattle.xp_catalog.specs.declared.rows.FuncRow.{FuncRow}
use Rattle.xp_catalog.specs.declared.rows.TypeRow.{TypeRow}
use Rattle.xp_catalog.specs.Contents.{Contents, unknown_row}
use Rattle.xp_catalog.specs.Lookups.{has_type_name, type_named, type_number}
use Rattle.xp_catalog.specs.WellFormed.{IsWellFormed}
use Rattle.xp_func.specs.Candidates.{unexpanded_of}
use Rattle.xp_named.specs.declared.refusal.Refusal.{Refusal}
use Rattle.xp_poly.specs.Bound.{bound}
use Rattle.xp_poly.specs.declared.bound.Binding.{Binding}
use Rattle.xp_poly.specs.declared.bound.Binding.TheVariants.{Concrete, Indeterminate}
use Rattle.xp_tree.specs.declared.parts.Callee.{Callee}
use Rattle.xp_tree.specs.Rests.{Rests}
use Rattle.xp_tree.specs.Term.{Term, terms, type_of}
use Rattle.xp_tree.specs.Typed.{types_of}
use Rattle.xp_types.specs.Common.{text}
use Rattle.xp_types.specs.Readers.{array_of, element, is_known, unknown}
use Rattle.xp_types.specs.Within.{IsType}
use Rattle.xp_types.proofs.Pairs.{element_at, element_within}
use Rattle.xp_types.proofs.Places.{place_holds}
use Rattle.xp_named.proofs.ArrayTypes.{array_over}
use Rattle.xp_coerce.specs.Asked.{IsSource}
use Rattle.xp_coerce.specs.Types.{IsTypeOf}
use Rattle.xp_coerce.specs.Ways.{func_callee}
use Rattle.xp_coerce.proofs.Growing.{unknown_first}
use Rattle.xp_resolve.specs.Calls as calls
use Rattle.xp_resolve.specs.Calls.{bound_pairs}
use Rattle.xp_resolve.specs.Made.{is_memory, refused}
use Rattle.xp_resolve.specs.Nodes.{taking_of}
use Rattle.xp_resolve.specs.Scene.{Scene}
use Rattle.xp_resolve.specs.Targets.{targets_of, type_at}
use Rattle.xp_resolve.specs.declared.choice.Choice.{Choice}
use Rattle.xp_resolve.specs.declared.made.Gathered.{Gathered}
use Rattle.xp_resolve.specs.declared.targets.Target.{Target}
use Rattle.xp_resolve.specs.declared.targets.Target.TheVariants as target
use Rattle.xp_resolve.specs.inner.Choices.{IsChoice}
use Rattle.xp_resolve.specs.inner.Sources.{AreOf, IsTarget, target_type}
use Rattle.xp_resolve.proofs.ArgsStand.{whole_stands}
use Rattle.xp_resolve.proofs.CallRests.{callee_rests}
use Rattle.xp_resolve.proofs.Reading.{known_source}
use Rattle.xp_resolve.specs.declared.typed.Use.{Use}
use Rattle.xp_forms.specs.Distinct.{compared_if, compared_with}
use Rattle.xp_forms.specs.declared.equality.Comparison.{Comparison}

-- ---- no argument of an operator's function stands for several

none_extra : (c : Contents) (at : ℕ) (inputs : List TypeNo) (row : RowNo) (func : FuncRow) (binding : Binding) (choice : Choice) → calls.bound_choice c at row func (unexpanded_of row.0 func) inputs binding ≡ Ok choice → choice.extra ≡ 0
none_extra c at inputs row func Indeterminate choice said = absurd (cc said)
none_extra c at inputs row func (Concrete result) choice said = go (is_known result) refl
  where
    found : is_known result ≡ true → (o : Option (List Target)) → targets_of (taking_of func.body) c func.variadic 0 (bound_pairs c func.args inputs) ≡ o → choice.extra ≡ 0
    found known None none = let never : refused code.Undefined at ≡ Ok choice = rw (known, none) at said in absurd (cc never)
    found known (Some list) is =
        let shown : Ok (record { row = row; extra = 0; targets = list; result = result }) ≡ Ok choice = rw (known, is) at said in
        let same : record { row = row; extra = 0; targets = list; result = result } ≡ choice = cc in
        sym (ap (λ (a : Choice). a.extra) same)

    go : (b : Bool) → is_known result ≡ b → choice.extra ≡ 0
    go false none = let never : refused code.Undefined at ≡ Ok choice = rw none at said in absurd (cc never)
    go true known = found known (targets_of (taking_of func.body) c func.variadic 0 (bound_pairs c func.args inputs)) refl

pub whole_choice : (c : Contents) (at : ℕ) (inputs : List TypeNo) (row : RowNo) (o : Option FuncRow) (choice : Choice) → calls.chosen_call c at inputs row 0 o ≡ Ok choice → choice.extra ≡ 0
whole_choice c at inputs row None choice said = absurd (cc said)
whole_choice c at inputs row (Some func) choice said = go (length func.args == length inputs) refl
  where
    go : (b : Bool) → (length func.args == length inputs) ≡ b → choice.extra ≡ 0
    go false test = let never : refused code.Undefined at ≡ Ok choice = rw test at said in absurd (cc never)
    go true test =
        none_extra c at inputs row func (bound c (unexpanded_of row.0 func).declared (unexpanded_of row.0 func).result_type inputs) choice (rw test at said)

-- ---- the type of what is converted is one of the catalogue's

named_within : (c : Contents) (name : List ℕ) (t : TypeNo) → type_named c name ≡ Some t → IsType c t
named_within c name t is = by (bytes_eq name (codes "unknown")) refl
  where
    at_place : (o : Option ℕ) → position (has_type_name name) c.types ≡ o → option_map type_number o ≡ Some t → IsType c t
    at_place None place e = absurd (cc e)
    at_place (Some k) place e =
        let found = place_holds (has_type_name name) c.types k place in
        let same : type_number k ≡ t = cc in
        rw (← same) (slice_get_within c.types k found.0 found.1)

    by : (b : Bool) → bytes_eq name (codes "unknown") ≡ b → IsType c t
    by true e = let never : None ≡ Some t = rw e at is in absurd (cc never)
    by false e = at_place (position (has_type_name name) c.types) refl (rw e at is)

unknown_within : (c : Contents) → IsWellFormed c → IsType c unknown
unknown_within c well = slice_get_within c.types 0 unknown_row (unknown_first well.count c well.built)

text_within : (c : Contents) → IsWellFormed c → IsType c (text c)
text_within c well = go (type_named c (codes "text")) refl
  where
    go : (o : Option TypeNo) → type_named c (codes "text") ≡ o → IsType c (text c)
    go None is = rw is (unknown_within c well)
    go (Some t) is = rw is (named_within c (codes "text") t is)

same_element : (c : Contents) (t : TypeNo) → element c t ≡ element_at c.types t.0
same_element c t = by (slice_get c.types t.0) refl
  where
    by : (o : Option TypeRow) → slice_get c.types t.0 ≡ o → element c t ≡ element_at c.types t.0
    by None is = rw is refl
    by (Some row) is = rw is refl

texts_within : (c : Contents) → IsWellFormed c → IsType c (type_at c target.ElementsWritten)
texts_within c well = go (array_of c (text c)) refl
  where
    go : (o : Option TypeNo) → array_of c (text c) ≡ o → IsType c (type_at c target.ElementsWritten)
    go None is = rw is (unknown_within c well)
    go (Some texts) is = rw is (element_within c.types texts.0 (text c) (sym (same_element c texts) ∙ array_over c (text c) texts is))

target_within : (c : Contents) (t : Target) → IsWellFormed c → IsTarget c t → IsType c (type_at c t)
target_within c (target.Of type) well is = is
target_within c target.Text well is = text_within c well
target_within c target.Written well is = text_within c well
target_within c target.ElementsWritten well is = texts_within c well

pub first_typed : (c : Contents) (targets : List Target) (first : Term) (others : List Term) → IsWellFormed c → All (IsTarget c) targets → AreOf c targets (first ∷ others) → IsTypeOf c (type_of first)
first_typed c [] first others well within is = absurd (cc is)
first_typed c (t ∷ targets) first others well within is =
    let same : type_of first ≡ target_type c t = cc is in
    rw same (record { within = target_within c t well (All-head (IsTarget c) t targets within); same = refl })

-- ---- the operands are what the function takes

pub both_rest : (c : Contents) (choice : Choice) (callee : Callee) (left right : Term) → IsWellFormed c → IsFitted c → IsChoice c choice → choice.extra ≡ 0 → AreOf c choice.targets (left ∷ right ∷ []) → option_map (func_callee choice.row) (slice_get c.funcs choice.row.0) ≡ Some callee → Rests callee (type_of left ∷ type_of right ∷ [])
both_rest c choice callee left right well fitted own whole typed found =
    callee_rests c choice.row callee (types_of (terms (left ∷ right ∷ []))) well fitted found (whole_stands c choice (left ∷ right ∷ []) well fitted own whole typed)

-- what has the type of the first operand may be converted
pub compared_source : (c : Contents) (t left : Term) → type_of t ≡ type_of left → IsTypeOf c (type_of left) → is_known (type_of left).no ≡ true → IsSource c t
compared_source c t left same own known = known_source c (type_of left).no t own.within known (same ∙ own.same)

-- ---- a list of two, taken from its end

pub no_pair : {A : Type 0} (list : List A) → list ≡ [] → length list ≡ 2 → ⊥
no_pair list is two = let none : length list ≡ 0 = ap length is in omega (arith, none, two)

pub one_alone : {A : Type 0} (list rest : List A) (x : A) → list ≡ rest ++ x ∷ [] → rest ≡ [] → length list ≡ 2 → ⊥
one_alone list rest x is none two =
    let counted : length list ≡ 1 = rw none at (ap length is) in
    omega (arith, counted, two)

pub pair_is : {A : Type 0} (list more rest : List A) (x y : A) → list ≡ more ++ y ∷ [] → more ≡ rest ++ x ∷ [] → rest ≡ [] → list ≡ x ∷ y ∷ []
pair_is list more rest x y is before none = rw (is, before, none) refl

pub more_than_two : {A : Type 0} (list more rest : List A) (x y : A) → list ≡ more ++ y ∷ [] → more ≡ rest ++ x ∷ [] → (rest ≡ [] → ⊥) → length list ≡ 2 → ⊥
more_than_two list more [] x y is before some two = some refl
more_than_two list more (z ∷ rest) x y is before some two =
    let whole : length list ≡ length more + 1 = ap length is ∙ length-append more (y ∷ []) in
    let front : length more ≡ length (z ∷ rest) + 1 = ap length before ∙ length-append (z ∷ rest) (x ∷ []) in
    omega (arith, whole, front, two)

-- of another list there is no comparison
pub not_two : (scene : Scene) (at : ℕ) (used : List Use) (choice : Choice) (trees : List Term) → (length trees ≡ 2 → ⊥) → compared_with scene at used choice trees ≡ refused code.Undefined at
not_two scene at used choice [] other = refl
not_two scene at used choice (a ∷ []) other = refl
not_two scene at used choice (a ∷ b ∷ []) other = absurd (other refl)
not_two scene at used choice (a ∷ b ∷ x ∷ more) other = refl

-- ---- what is picked, or the refusal of a choice

pub compared_ok : (scene : Scene) (at : ℕ) (operands : Gathered) (inputs : List TypeNo) (said : Result RowNo Pick) (row : RowNo) (r : Result Comparison Refusal)
    → Answers said (Ok row) → OrMemory is_memory (compared_if scene at operands inputs (Ok row)) r → OrMemory is_memory (compared_if scene at operands inputs said) r
compared_ok scene at operands inputs said row r is next = rw is next

pub compared_err : (scene : Scene) (at : ℕ) (operands : Gathered) (inputs : List TypeNo) (said : Result RowNo Pick) (pick : Pick)
    → Answers said (Err pick) → OrMemory is_memory (compared_if scene at operands inputs said) (Err (calls.refusal_of pick at))
compared_err scene at operands inputs said Undefined is = rw is refl
compared_err scene at operands inputs said (Ambiguous first second) is = rw is refl
compared_err scene at operands inputs said Memory is = tt
