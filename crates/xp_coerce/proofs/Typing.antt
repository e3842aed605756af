-- That the nodes which are made have what they ask for.
use Rattle.std.proofs.Common.{◌≡◌, ℕ, List, Bool, true, false, ◌&&◌, ◌||◌, refl, ◌∙◌, ap, Some, None, nat_le, Result, Ok, Err, IfOk}
use Rattle.std.proofs.lemmas.Bool.{and_parts}
use Rattle.xp_base.specs.declared.numbers.TypeNo.{TypeNo}
use Rattle.xp_value.specs.declared.value.Rep.{Rep}
use Rattle.xp_value.specs.declared.value.Rep.TheVariants as rep
use Rattle.xp_catalog.specs.declared.rows.Context.{Context}
use Rattle.xp_catalog.specs.declared.rows.TypeKind.{TypeKind}
use Rattle.xp_catalog.specs.declared.rows.TypeKind.TheVariants as kind
use Rattle.xp_catalog.specs.Contents.{Contents}
use Rattle.xp_catalog.specs.Rules.{kind_of, name_of}
use Rattle.xp_catalog.specs.WellFormed.{IsWellFormed}
use Rattle.xp_bodies.specs.Fits.{IsFitted}
use Rattle.xp_types.specs.declared.paths.PathKind.{PathKind}
use Rattle.xp_types.specs.declared.paths.PathKind.TheVariants as path
use Rattle.xp_types.specs.Readers.{base, element, is_known, unknown}
use Rattle.xp_types.specs.Paths as types
use Rattle.xp_tree.specs.declared.parts.Modifier.{Modifier}
use Rattle.xp_tree.specs.declared.parts.Modifier.TheVariants as modifier
use Rattle.xp_tree.specs.declared.parts.NodeType.{NodeType}
use Rattle.xp_tree.specs.declared.parts.Way.{Way}
use Rattle.xp_tree.specs.declared.parts.Way.TheVariants.{ByBody, ByOutput, ByInput, ByRelabel}
use Rattle.xp_tree.specs.Rests.{is_same_rep}
use Rattle.xp_tree.specs.Term.{Term, elements, one, type_of}
use Rattle.xp_tree.specs.Typed.{Converts, IsArray, IsTyped, element_of}
use Rattle.xp_tree.specs.Typed as typed
use Rattle.xp_catalog.specs.Spelling.{is_among, plain_names}
use Rattle.xp_io.specs.Representations.{element_rep, rep_of}
use Rattle.xp_value.specs.Names.{rep_named}
use Rattle.xp_coerce.specs.declared.fault.CoerceFault.{CoerceFault}
use Rattle.xp_named.specs.Modifiers.{fits_sizing, sizing_named, takes_modifier}
use Rattle.xp_coerce.specs.Types.{IsTypeOf, node_type}
use Rattle.xp_coerce.specs.Ways.{converted_by, element_way, way_of}
use Rattle.xp_coerce.specs.inner.Alike.{IsAlike}
use Rattle.xp_coerce.proofs.Names.{digits_name, digits_named, digits_plain, length_name, sized_named, sized_plain}
use Rattle.xp_coerce.proofs.Paths.{HaveElements, PathFits, StepFits, base_of_plain, element_fits, path_fits, unknown_is}
use Rattle.xp_coerce.proofs.Strings.{domain_named}

-- ---- one step

pub step_typed : (way : Way) (t : Term) (ty : NodeType) → IsTyped t → StepFits way (type_of t).rep ty.rep → IsTyped (converted_by way t ty)
step_typed (ByBody callee) t ty own fits = (fits (type_of t) refl, (own, tt))
step_typed ByOutput t ty own fits = (fits, own)
step_typed ByInput t ty own fits = (fits, own)
step_typed ByRelabel t ty own fits = (fits, own)

-- ---- arrays

converts : (way : Way) (a ty : NodeType) → StepFits way a.element ty.element → Converts way a ty
converts (ByBody callee) a ty fits = fits (element_of a) refl
converts ByOutput a ty fits = fits
converts ByInput a ty fits = fits
converts ByRelabel a ty fits = fits

pub array_kept : (c : Contents) (type from : TypeNo) → element c (base c type) ≡ Some from → rep_of c type ≡ rep.Opaque
array_kept c type from at = go (kind_of c (base c type)) refl
  where
    go : (k : TypeKind) → kind_of c (base c type) ≡ k → rep_of c type ≡ rep.Opaque
    go kind.Plain is = let never : element c (base c type) ≡ None = rw is refl in cc (never, at)
    go (kind.Pseudo pseudo) is = rw is refl
    go (kind.Array element) is = rw is refl
    go (kind.Range number) is = rw is refl
    go (kind.Domain number) is = rw is refl

pub is_array : (ty : NodeType) → ty.rep ≡ rep.Opaque → IsArray ty
is_array ty is = λ some. let never : false ≡ true = rw is at some in cc never

-- a node of the base type converts the elements of an array
pub elements_typed : (c : Contents) (wanted : Context) (t : Term) (target : TypeNo) → IsWellFormed c → IsFitted c → IsTyped t → type_of t ≡ node_type c (type_of t).no → types.is_domain c (base c target) ≡ false → HaveElements c wanted (type_of t).no target
    → IsTyped (one (elements (element_way c (type_of t).no (base c target) wanted)) t (node_type c (base c target)))
elements_typed c wanted t target well fitted typed source plain own =
    let s : TypeNo = (type_of t).no in
    let same : base c (base c target) ≡ base c target = base_of_plain c (base c target) plain in
    let at : element c (base c (base c target)) ≡ Some own.to = ap (element c) same ∙ own.at_target in
    let way : element_way c s (base c target) wanted ≡ way_of c (types.path c own.from own.to wanted) = rw (own.at_source, at) refl in
    let from : element_rep c s ≡ rep_of c own.from = rw own.at_source refl in
    let to : element_rep c (base c target) ≡ rep_of c own.to = rw at refl in
    let element_from : (type_of t).element ≡ rep_of c own.from = ap (λ ty. ty.element) source ∙ from in
    let fits = element_fits c wanted s target well fitted own in
    let fits_here : StepFits (element_way c s (base c target) wanted) (type_of t).element (element_rep c (base c target)) = rw (way, element_from, to) fits in
    let rep_from : (type_of t).rep ≡ rep.Opaque = ap (λ ty. ty.rep) source ∙ array_kept c s own.from own.at_source in
    let rep_to : rep_of c (base c target) ≡ rep.Opaque = array_kept c (base c target) own.to at in
    ((is_array (type_of t) rep_from, is_array (node_type c (base c target)) rep_to, converts (element_way c s (base c target) wanted) (type_of t) (node_type c (base c target)) fits_here), typed)

-- ---- types that may stand for another below a domain

pub alike_base : (c : Contents) (target : TypeNo) → types.is_domain c (base c target) ≡ false → IsAlike c target (node_type c (base c target))
alike_base c target plain =
    let same : base c (base c target) ≡ base c target = base_of_plain c (base c target) plain in
    record {
      kept = (rw same refl, rw same refl);
      same = λ own. ap (node_type c) (base_of_plain c target own);
    }

pub alike_itself : (c : Contents) (target : TypeNo) (type : NodeType) → type ≡ node_type c target → IsAlike c target type
alike_itself c target type is = record { kept = (ap (λ ty. ty.rep) is, ap (λ ty. ty.element) is); same = λ own. is }

-- ---- modifiers

opaque_sized : (m : Modifier) → typed.is_sized rep.Opaque m ≡ true
opaque_sized modifier.None = refl
opaque_sized (modifier.Length n) = refl
opaque_sized (modifier.Digits p s) = refl

name_sized : (name : List ℕ) (m : Modifier) → fits_sizing (sizing_named name) m ≡ true → typed.is_sized (rep_named name) m ≡ true
name_sized name modifier.None is = refl
name_sized name (modifier.Length n) is = sized_named name (length_name name n is)
name_sized name (modifier.Digits p s) is = digits_named name p s (digits_name name p s is)

-- a domain takes none
domain_sized : (c : Contents) (target : TypeNo) (r : Rep) (m : Modifier) → is_among plain_names (name_of c target) ≡ false → fits_sizing (sizing_named (name_of c target)) m ≡ true → typed.is_sized r m ≡ true
domain_sized c target r modifier.None none is = refl
domain_sized c target r (modifier.Length n) none is = absurd (sized_plain (name_of c target) (length_name (name_of c target) n is) none)
domain_sized c target r (modifier.Digits p s) none is = absurd (digits_plain (name_of c target) (digits_name (name_of c target) p s is) none)

kept_sized : (c : Contents) (target : TypeNo) (m : Modifier) → IsWellFormed c → takes_modifier c target m ≡ true → typed.is_sized (rep_of c target) m ≡ true
kept_sized c target m well takes = go (kind_of c target) refl
  where
    own : (k : TypeKind) → kind_of c target ≡ k → element c target ≡ None → fits_sizing (sizing_named (name_of c target)) m ≡ true
    own k is none = rw none at takes

    go : (k : TypeKind) → kind_of c target ≡ k → typed.is_sized (rep_of c target) m ≡ true
    go kind.Plain is = rw (is, is) (name_sized (name_of c target) m (own kind.Plain is (rw is refl)))
    go (kind.Pseudo pseudo) is = rw (is, is) (opaque_sized m)
    go (kind.Array element) is = rw (is, is) (opaque_sized m)
    go (kind.Range number) is = rw (is, is) (opaque_sized m)
    go (kind.Domain number) is =
        let domain : types.is_domain c target ≡ true = rw is refl in
        domain_sized c target (rep_of c target) m (domain_named c target well domain) (own (kind.Domain number) is (rw is refl))

or_left : (a b : Bool) → a ≡ true → (a || b) ≡ true
or_left a b is = rw is refl

-- a tree that may stand for the type takes the type's modifiers
pub takes_kept : (c : Contents) (target : TypeNo) (m : Modifier) (type : NodeType) → IsWellFormed c → takes_modifier c target m ≡ true → IsAlike c target type → typed.takes_modifier type m ≡ true
takes_kept c target m type well takes alike =
    let first : typed.is_sized type.rep m ≡ true = rw alike.kept.0 (kept_sized c target m well takes) in
    or_left (typed.is_sized type.rep m) (is_same_rep type.rep rep.Arr && typed.is_sized type.element m) first

-- ---- what each path says

pub fits_at : (c : Contents) (wanted : Context) (s t : TypeNo) (found : PathKind) → IsWellFormed c → IsFitted c → found ≡ types.path c s t wanted → PathFits (HaveElements c wanted s t) c s t found
fits_at c wanted s t found well fitted is = rw is (path_fits c wanted s t well fitted)

pub at_literal : (c : Contents) (s t : TypeNo) (found : PathKind) (E : Type 0) → found ≡ path.Literal → PathFits E c s t found → is_known s ≡ false
at_literal c s t found E is fits = rw is at fits

pub at_same : (c : Contents) (s t : TypeNo) (found : PathKind) (E : Type 0) → found ≡ path.Same → PathFits E c s t found → s ≡ t
at_same c s t found E is fits = rw is at fits

pub at_elements : (c : Contents) (s t : TypeNo) (found : PathKind) (E : Type 0) → found ≡ path.Elements → PathFits E c s t found → E
at_elements c s t found E is fits = rw is at fits

at_step : (c : Contents) (s t : TypeNo) (E : Type 0) (found : PathKind) → (found ≡ path.Literal → ⊥) → (found ≡ path.Same → ⊥) → (found ≡ path.Elements → ⊥) → (found ≡ path.NoPath → ⊥) → PathFits E c s t found → StepFits (way_of c found) (rep_of c s) (rep_of c t)
at_step c s t E path.Literal no_literal no_same no_elements no_none fits = absurd (no_literal refl)
at_step c s t E path.Same no_literal no_same no_elements no_none fits = absurd (no_same refl)
at_step c s t E path.Relabel no_literal no_same no_elements no_none fits = fits
at_step c s t E (path.Cast row) no_literal no_same no_elements no_none fits = fits
at_step c s t E path.Elements no_literal no_same no_elements no_none fits = absurd (no_elements refl)
at_step c s t E path.ByOutput no_literal no_same no_elements no_none fits = fits
at_step c s t E path.ByInput no_literal no_same no_elements no_none fits = fits
at_step c s t E path.NoPath no_literal no_same no_elements no_none fits = absurd (no_none refl)

-- the node along a path that is none of these
pub path_typed : (c : Contents) (wanted : Context) (t : Term) (target : TypeNo) (found : PathKind) → IsWellFormed c → IsFitted c → IsTyped t → IsTypeOf c (type_of t) → types.is_domain c (base c target) ≡ false → found ≡ types.path c (type_of t).no target wanted
    → (found ≡ path.Literal → ⊥) → (found ≡ path.Same → ⊥) → (found ≡ path.Elements → ⊥) → (found ≡ path.NoPath → ⊥) → IsTyped (converted_by (way_of c found) t (node_type c (base c target)))
path_typed c wanted t target found well fitted own source plain is no_literal no_same no_elements no_none =
    let s : TypeNo = (type_of t).no in
    let fits : StepFits (way_of c found) (rep_of c s) (rep_of c target) = at_step c s target (HaveElements c wanted s target) found no_literal no_same no_elements no_none (fits_at c wanted s target found well fitted is) in
    let from : (type_of t).rep ≡ rep_of c s = ap (λ ty. ty.rep) source.same in
    let to : rep_of c (base c target) ≡ rep_of c target = (let same : base c (base c target) ≡ base c target = base_of_plain c (base c target) plain in rw same refl) in
    step_typed (way_of c found) t (node_type c (base c target)) own (rw (from, to) fits)

-- the elements of an array along the path that goes by them
pub by_elements_typed : (c : Contents) (wanted : Context) (t : Term) (target : TypeNo) (found : PathKind) → IsWellFormed c → IsFitted c → IsTyped t → IsTypeOf c (type_of t) → types.is_domain c (base c target) ≡ false → found ≡ types.path c (type_of t).no target wanted → found ≡ path.Elements
    → IsTyped (one (elements (element_way c (type_of t).no (base c target) wanted)) t (node_type c (base c target)))
by_elements_typed c wanted t target found well fitted own source plain is at =
    let s : TypeNo = (type_of t).no in
    elements_typed c wanted t target well fitted own source.same plain (at_elements c s target found (HaveElements c wanted s target) at (fits_at c wanted s target found well fitted is))

-- a tree that has no type yet
pub is_unknown : (c : Contents) (type : NodeType) → IsTypeOf c type → is_known type.no ≡ false → type ≡ node_type c unknown
is_unknown c type source is = source.same ∙ ap (node_type c) (unknown_is type.no is)

-- ---- what is converted may stand for the target

pub alike_each : (c : Contents) (target : TypeNo) (r : Result Term CoerceFault) → types.is_domain c (base c target) ≡ false → IfOk r (λ a. type_of a ≡ node_type c (base c target)) → IfOk r (λ a. IsAlike c target (type_of a))
alike_each c target (Ok a) plain is = rw is (alike_base c target plain)
alike_each c target (Err fault) plain is = tt

pub alike_by : (c : Contents) (target : TypeNo) (way : Way) (t : Term) → types.is_domain c (base c target) ≡ false → IsAlike c target (type_of (converted_by way t (node_type c (base c target))))
alike_by c target (ByBody callee) t plain = alike_base c target plain
alike_by c target ByOutput t plain = alike_base c target plain
alike_by c target ByInput t plain = alike_base c target plain
alike_by c target ByRelabel t plain = alike_base c target plain
