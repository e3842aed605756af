-- What a path says of the two types, so that the node that is made along it has what it asks for.
use Rattle.std.proofs.Common.{◌≡◌, ℕ, [], ◌∷◌, Bool, true, false, ◌&&◌, ◌==◌, not, refl, ◌∙◌, ap, arith, Option, Some, None, slice_get, position, codes}
use Rattle.std.proofs.lemmas.Bool.{and_parts, not-true}
use Rattle.xp_base.specs.declared.numbers.RowNo.{RowNo}
use Rattle.xp_base.specs.declared.numbers.TypeNo.{TypeNo}
use Rattle.xp_value.specs.declared.value.Rep.{Rep}
use Rattle.xp_value.specs.declared.value.Rep.TheVariants as rep
use Rattle.xp_catalog.specs.declared.rows.CastMethod.{CastMethod}
use Rattle.xp_catalog.specs.declared.rows.CastMethod.TheVariants as method
use Rattle.xp_catalog.specs.declared.rows.CastRow.{CastRow}
use Rattle.xp_catalog.specs.declared.rows.Context.{Context}
use Rattle.xp_catalog.specs.declared.rows.Context.TheVariants as context
use Rattle.xp_catalog.specs.declared.rows.FuncRow.{FuncRow}
use Rattle.xp_catalog.specs.declared.rows.TypeKind.{TypeKind}
use Rattle.xp_catalog.specs.declared.rows.TypeKind.TheVariants as kind
use Rattle.xp_catalog.specs.Contents.{Contents, unknown_row}
use Rattle.xp_catalog.specs.Lookups.{is_between, row_number}
use Rattle.xp_catalog.specs.Rules.{casts_by, kind_of, name_of}
use Rattle.xp_catalog.specs.WellFormed.{IsWellFormed}
use Rattle.xp_bodies.specs.Fits.{IsFitted}
use Rattle.xp_types.specs.declared.paths.PathKind.{PathKind}
use Rattle.xp_types.specs.declared.paths.PathKind.TheVariants as path
use Rattle.xp_types.specs.Readers.{base, element, is_known, is_same, unknown}
use Rattle.xp_types.specs.Paths as types
use Rattle.xp_types.proofs.Built.{elements_flat}
use Rattle.xp_types.proofs.Places.{place_holds}
use Rattle.xp_tree.specs.declared.parts.NodeType.{NodeType}
use Rattle.xp_tree.specs.declared.parts.Way.{Way}
use Rattle.xp_tree.specs.declared.parts.Way.TheVariants.{ByBody, ByOutput, ByInput, ByRelabel}
use Rattle.xp_tree.specs.Rests.{Rests}
use Rattle.xp_tree.specs.Typed.{is_relabelled, may_be_text}
use Rattle.xp_io.specs.Representations.{rep_of}
use Rattle.xp_coerce.specs.Ways.{way_of, way_of_cast}
use Rattle.xp_coerce.proofs.Tests.{opaque_relabels, relabels_itself, same_number}
use Rattle.xp_coerce.proofs.Casts.{FitsMethod, IsFitCast, casts_fit}
use Rattle.xp_coerce.proofs.Growing.{all_at, kept, unknown_first}
use Rattle.xp_coerce.proofs.Rests.{func_rests}
use Rattle.xp_coerce.proofs.Strings.{string_kept}

-- the way is one from a type kept so to a type kept so
abbrev pub StepFits : Way → Rep → Rep → Type 0
StepFits (ByBody callee) a b = (ty : NodeType) → ty.rep ≡ a → Rests callee (ty ∷ [])
StepFits ByOutput a b = may_be_text b ≡ true
StepFits ByInput a b = may_be_text a ≡ true
StepFits ByRelabel a b = is_relabelled a b ≡ true

-- what the path says of its two types, and `E` where it goes by elements
abbrev pub PathFits : Type 0 → Contents → TypeNo → TypeNo → PathKind → Type 0
PathFits E c s t path.Literal = is_known s ≡ false
PathFits E c s t path.Same = s ≡ t
PathFits E c s t path.Elements = E
PathFits E c s t path.NoPath = Unit {0}
PathFits E c s t found = StepFits (way_of c found) (rep_of c s) (rep_of c t)

-- ---- casts

none_by : (c : Contents) (number : RowNo) (from to : TypeNo) → slice_get c.funcs number.0 ≡ None → casts_by c number from to ≡ true → ⊥
none_by c number from to at casts = let never : casts_by c number from to ≡ false = rw at refl in cc (never, casts)

method_way : (c : Contents) (row : RowNo) (cast : CastRow) → IsFitted c → (m : CastMethod) → FitsMethod c cast m → StepFits (way_of_cast c row m) (kept c cast.from) (kept c cast.to)
method_way c row cast fitted method.Binary fits = fits
method_way c row cast fitted method.None fits = λ ty is. tt
method_way c row cast fitted (method.Function number) fits = go (slice_get c.funcs number.0) refl
  where
    go : (o : Option FuncRow) → slice_get c.funcs number.0 ≡ o → StepFits (way_of_cast c row (method.Function number)) (kept c cast.from) (kept c cast.to)
    go None at = absurd (none_by c number cast.from cast.to at fits)
    go (Some func) at = rw at (λ ty is. func_rests c number func cast.from cast.to ty fitted at fits is)

-- the cast between two types is a way from the one to the other
cast_way : (c : Contents) (from to : TypeNo) (place : ℕ) → IsWellFormed c → IsFitted c → position (is_between from to) c.casts ≡ Some place → StepFits (way_of c (path.Cast (row_number place))) (kept c from) (kept c to)
cast_way c from to place well fitted at =
    let found = place_holds (is_between from to) c.casts place at in
    let cast : CastRow = found.0 in
    let ends = and_parts (cast.from.0 == from.0) (cast.to.0 == to.0) found.2 in
    let fit : IsFitCast c cast = all_at (IsFitCast c) c.casts place cast (casts_fit well.count c well.built) found.1 in
    let own : StepFits (way_of_cast c (row_number place) cast.method) (kept c cast.from) (kept c cast.to) = method_way c (row_number place) cast fitted cast.method fit.fits in
    let own_ends : StepFits (way_of_cast c (row_number place) cast.method) (kept c from) (kept c to) = rw (same_number cast.from from ends.0, same_number cast.to to ends.1) at own in
    rw found.1 own_ends

-- ---- the rules behind the third

abbrev SomeFits : Type 0 → Contents → TypeNo → TypeNo → Option PathKind → Type 0
SomeFits E c s t None = Unit {0}
SomeFits E c s t (Some found) = PathFits E c s t found

through_text : (E : Type 0) (c : Contents) (wanted : Context) (s t : TypeNo) → IsWellFormed c → PathFits E c s t (types.through_text c wanted (base c s) (base c t))
through_text E c wanted s t well = go (types.is_string c (base c t) && types.serves context.Assignment wanted) refl (types.is_string c (base c s) && types.serves context.Explicit wanted) refl
  where
    go : (out : Bool) → (types.is_string c (base c t) && types.serves context.Assignment wanted) ≡ out → (inward : Bool) → (types.is_string c (base c s) && types.serves context.Explicit wanted) ≡ inward → PathFits E c s t (types.through_text c wanted (base c s) (base c t))
    go true out b inward = rw out (string_kept c (base c t) well (and_parts (types.is_string c (base c t)) (types.serves context.Assignment wanted) out).0)
    go false out true inward = rw (out, inward) (string_kept c (base c s) well (and_parts (types.is_string c (base c s)) (types.serves context.Explicit wanted) inward).0)
    go false out false inward = rw (out, inward) tt

by_bases : (E : Type 0) (c : Contents) (wanted : Context) (s t : TypeNo) (elements : Option PathKind) → IsWellFormed c → IsFitted c → SomeFits E c s t elements → PathFits E c s t (types.path_of_bases c wanted (base c s) (base c t) elements)
by_bases E c wanted s t elements well fitted fits = go (position (is_between (base c s) (base c t)) c.casts) refl
  where
    allowed : (place : ℕ) → position (is_between (base c s) (base c t)) c.casts ≡ Some place → (b : Bool) → types.allowed_at c wanted (row_number place) ≡ b → PathFits E c s t (types.path_of_bases c wanted (base c s) (base c t) elements)
    allowed place at true is = rw (at, is) (cast_way c (base c s) (base c t) place well fitted at)
    allowed place at false is = rw (at, is) tt

    inner : (o : Option PathKind) → SomeFits E c s t o → position (is_between (base c s) (base c t)) c.casts ≡ None → PathFits E c s t (types.path_of_bases c wanted (base c s) (base c t) o)
    inner None own at = rw at (through_text E c wanted s t well)
    inner (Some found) own at = rw at own

    go : (o : Option ℕ) → position (is_between (base c s) (base c t)) c.casts ≡ o → PathFits E c s t (types.path_of_bases c wanted (base c s) (base c t) elements)
    go (Some place) at = allowed place at (types.allowed_at c wanted (row_number place)) refl
    go None at = inner elements fits at

-- ---- all rules

rule_fits : (E : Type 0) (c : Contents) (wanted : Context) (s t : TypeNo) (elements : Option PathKind) → IsWellFormed c → IsFitted c → SomeFits E c s t elements → PathFits E c s t (types.first_rule c wanted s t elements)
rule_fits E c wanted s t elements well fitted fits = go (is_known s) refl (is_same s t) refl (is_same (base c s) (base c t)) refl
  where
    go : (known : Bool) → is_known s ≡ known → (same : Bool) → is_same s t ≡ same → (alike : Bool) → is_same (base c s) (base c t) ≡ alike → PathFits E c s t (types.first_rule c wanted s t elements)
    go false known same is alike bases = rw known known
    go true known true is alike bases = rw (known, is) (same_number s t is)
    go true known false is true bases =
        let one : base c s ≡ base c t = same_number (base c s) (base c t) bases in
        let own : is_relabelled (kept c (base c s)) (kept c (base c t)) ≡ true = rw one (relabels_itself (kept c (base c t))) in
        rw (known, is, bases) own
    go true known false is false bases = rw (known, is, bases) (by_bases E c wanted s t elements well fitted fits)

-- ---- arrays

-- both are arrays, their elements are of no domain, and there is a path between these
pub record HaveElements (c : Contents) (wanted : Context) (s t : TypeNo) : Type 0 where
  pub from : TypeNo
  pub to : TypeNo
  pub at_source : element c (base c s) ≡ Some from
  pub at_target : element c (base c t) ≡ Some to
  pub plain_source : types.is_domain c from ≡ false
  pub plain_target : types.is_domain c to ≡ false
  pub is_there : types.is_path (types.first_rule c wanted from to None) ≡ true

between : (c : Contents) (wanted : Context) (s t : TypeNo) (a b : Option TypeNo) → element c (base c s) ≡ a → element c (base c t) ≡ b → SomeFits (HaveElements c wanted s t) c s t (types.by_elements c wanted a b)
between c wanted s t None None at_s at_t = tt
between c wanted s t None (Some to) at_s at_t = tt
between c wanted s t (Some from) None at_s at_t = tt
between c wanted s t (Some from) (Some to) at_s at_t = go (not (types.is_domain c from) && not (types.is_domain c to)) refl (types.is_path (types.first_rule c wanted from to None)) refl
  where
    go : (plain : Bool) → (not (types.is_domain c from) && not (types.is_domain c to)) ≡ plain → (there : Bool) → types.is_path (types.first_rule c wanted from to None) ≡ there → SomeFits (HaveElements c wanted s t) c s t (types.by_elements c wanted (Some from) (Some to))
    go false plain there is = rw plain tt
    go true plain false is = rw (plain, is) tt
    go true plain true is =
        let ends = and_parts (not (types.is_domain c from)) (not (types.is_domain c to)) plain in
        let own : HaveElements c wanted s t = record { from = from; to = to; at_source = at_s; at_target = at_t; plain_source = not-true (types.is_domain c from) ends.0; plain_target = not-true (types.is_domain c to) ends.1; is_there = is } in
        rw (plain, is) own

pub path_fits : (c : Contents) (wanted : Context) (s t : TypeNo) → IsWellFormed c → IsFitted c → PathFits (HaveElements c wanted s t) c s t (types.path c s t wanted)
path_fits c wanted s t well fitted =
    rule_fits (HaveElements c wanted s t) c wanted s t (types.by_elements c wanted (element c (base c s)) (element c (base c t))) well fitted (between c wanted s t (element c (base c s)) (element c (base c t)) refl refl)

-- ---- the way of elements

pub base_of_plain : (c : Contents) (t : TypeNo) → types.is_domain c t ≡ false → base c t ≡ t
base_of_plain c t plain = go (kind_of c t) refl
  where
    go : (k : TypeKind) → kind_of c t ≡ k → base c t ≡ t
    go kind.Plain is = rw is refl
    go (kind.Pseudo pseudo) is = rw is refl
    go (kind.Array element) is = rw is refl
    go (kind.Range number) is = rw is refl
    go (kind.Domain number) is = let never : types.is_domain c t ≡ true = rw is refl in cc (never, plain)

-- `unknown` is kept as its text
pub unknown_kept : (c : Contents) → IsWellFormed c → rep_of c unknown ≡ rep.Opaque
unknown_kept c well =
    let first : slice_get c.types 0 ≡ Some unknown_row = unknown_first well.count c well.built in
    let plain : kind_of c unknown ≡ kind.Plain = rw first refl in
    let name : name_of c unknown ≡ codes "unknown" = rw first refl in
    let own : base c unknown ≡ unknown = rw plain refl in
    rw (own, plain, name) refl

pub unknown_is : (s : TypeNo) → is_known s ≡ false → s ≡ unknown
unknown_is s is = let same : s.0 ≡ 0 = grind (arith, is) in ap (λ n. record { 0 = n }) same

way_fits : (c : Contents) (s t : TypeNo) → IsWellFormed c → (found : PathKind) → types.is_path found ≡ true → PathFits ⊥ c s t found → StepFits (way_of c found) (rep_of c s) (rep_of c t)
way_fits c s t well path.Literal is fits = let same : s ≡ unknown = unknown_is s fits in let none : rep_of c s ≡ rep.Opaque = ap (rep_of c) same ∙ unknown_kept c well in rw none (opaque_relabels (rep_of c t))
way_fits c s t well path.Same is fits = let one : rep_of c s ≡ rep_of c t = ap (rep_of c) fits in rw one (relabels_itself (rep_of c t))
way_fits c s t well path.Relabel is fits = fits
way_fits c s t well (path.Cast row) is fits = fits
way_fits c s t well path.Elements is fits = absurd fits
way_fits c s t well path.ByOutput is fits = fits
way_fits c s t well path.ByInput is fits = fits
way_fits c s t well path.NoPath is fits = cc is

-- the elements of arrays are no arrays, so that the first rule alone decides
path_of_flat : (c : Contents) (wanted : Context) (array from to : TypeNo) → IsWellFormed c → element c array ≡ Some from → types.is_domain c from ≡ false → types.path c from to wanted ≡ types.first_rule c wanted from to None
path_of_flat c wanted array from to well at plain = rw (base_of_plain c from plain, elements_flat c array from well at) refl

pub element_fits : (c : Contents) (wanted : Context) (s t : TypeNo) → IsWellFormed c → IsFitted c → (own : HaveElements c wanted s t) → StepFits (way_of c (types.path c own.from own.to wanted)) (rep_of c own.from) (rep_of c own.to)
element_fits c wanted s t well fitted own =
    let rule : types.path c own.from own.to wanted ≡ types.first_rule c wanted own.from own.to None = path_of_flat c wanted (base c s) own.from own.to well own.at_source own.plain_source in
    rw rule (way_fits c own.from own.to well (types.first_rule c wanted own.from own.to None) own.is_there (rule_fits ⊥ c wanted own.from own.to None well fitted tt))
