-- That a call of a cast's function rests on its body.
use Rattle.std.proofs.Common.{◌≡◌, ℕ, List, [], ◌∷◌, true, false, ◌&&◌, ◌==◌, refl, sym, ◌∙◌, ap, Option, Some, None, slice_get}
use Rattle.std.specs.List.{list_all, list_any}
use Rattle.std.specs.Str.{bytes_eq}
use Rattle.std.proofs.Math.Bool.{beq}
use Rattle.std.proofs.lemmas.Bool.{and_parts}
use Rattle.std.specs.Cmp.{booleans_Decides}
use Rattle.std.proofs.lemmas.Slice.Eq.{bytes_eq-Decides}
use Rattle.xp_base.specs.declared.numbers.BodyNo.{BodyNo}
use Rattle.xp_base.specs.declared.numbers.RowNo.{RowNo}
use Rattle.xp_base.specs.declared.numbers.TypeNo.{TypeNo}
use Rattle.xp_value.specs.declared.value.Rep.TheVariants as rep
use Rattle.xp_catalog.specs.declared.rows.FuncRow.{FuncRow}
use Rattle.xp_catalog.specs.declared.rows.TypeRow.{TypeRow}
use Rattle.xp_catalog.specs.declared.rows.TypeKind.{TypeKind}
use Rattle.xp_catalog.specs.declared.rows.TypeKind.TheVariants as kind
use Rattle.xp_catalog.specs.Contents.{Contents}
use Rattle.xp_catalog.specs.Lookups.{same_types}
use Rattle.xp_catalog.specs.Rules.{casts_by, kind_of, name_of}
use Rattle.xp_bodies.specs.Fits.{IsFitted, agrees, agrees_with, are_named, fits, fits_with, is_as_loose, is_named}
use Rattle.xp_bodies.specs.Row.{Row}
use Rattle.xp_bodies.specs.Table.{bodies}
use Rattle.xp_tree.specs.declared.parts.NodeType.{NodeType}
use Rattle.xp_tree.specs.Rests.{Rests, RestsOn, RestsOnBody, element_reps, fit_each, fit_row, is_represented}
use Rattle.xp_io.specs.Representations.{rep_by}
use Rattle.xp_value.specs.Names.{rep_named}
use Rattle.xp_coerce.specs.Ways.{func_callee}
use Rattle.xp_coerce.proofs.Growing.{all_at, kept}
use Rattle.xp_coerce.proofs.Tests.{same_number}
use Rattle.xp_coerce.proofs.Names.{of_name}

-- ---- a value of a type may stand where a body declares its name

abbrev FitsName : List ℕ → Type 0
FitsName name = (ty : NodeType) → ty.rep ≡ rep_named name → is_represented ty ≡ true → list_any (λ element. fit_each element (name ∷ []) (ty ∷ [])) element_reps ≡ true

fits_name : (name : List ℕ) → FitsName name
fits_name name = of_name FitsName name
    (record {
      bool = λ ty is some. rw is refl;
      int2 = λ ty is some. rw is refl;
      int4 = λ ty is some. rw is refl;
      int8 = λ ty is some. rw is refl;
      numeric = λ ty is some. rw is refl;
      text = λ ty is some. rw is refl;
      varchar = λ ty is some. rw is refl;
      bpchar = λ ty is some. rw is refl;
      bytea = λ ty is some. rw is refl;
      date = λ ty is some. rw is refl;
    })
    (λ opaque ty is some. let none : ty.rep ≡ rep.Opaque = is ∙ opaque in let never : false ≡ true = rw none at some in cc never)

pub not_shown : (ty : NodeType) → ty.rep ≡ rep.Opaque → is_represented ty ≡ true → ⊥
not_shown ty is some = let never : false ≡ true = rw is at some in cc never

fits_kind : (k : TypeKind) (name : List ℕ) (ty : NodeType) → ty.rep ≡ rep_by k name → is_represented ty ≡ true → list_any (λ element. fit_each element (name ∷ []) (ty ∷ [])) element_reps ≡ true
fits_kind kind.Plain name ty is some = fits_name name ty is some
fits_kind (kind.Pseudo pseudo) name ty is some = absurd (not_shown ty is some)
fits_kind (kind.Array element) name ty is some = absurd (not_shown ty is some)
fits_kind (kind.Range number) name ty is some = absurd (not_shown ty is some)
fits_kind (kind.Domain number) name ty is some = absurd (not_shown ty is some)

-- ---- a body that agrees with its function

pub record Agrees (c : Contents) (f : FuncRow) (body : Row) : Type 0 where
  pub strict : f.strict ≡ body.strict
  pub args : are_named c f.args body.args ≡ true

pub agreed : (c : Contents) (f : FuncRow) (body : Row) → agrees c f body ≡ true → Agrees c f body
agreed c f body is =
    let all = and_parts (beq f.variadic body.variadic && beq f.strict body.strict && is_as_loose f.volatility body.volatility && is_named c f.result body.result) (are_named c f.args body.args) is in
    let four = and_parts (beq f.variadic body.variadic && beq f.strict body.strict && is_as_loose f.volatility body.volatility) (is_named c f.result body.result) all.0 in
    let three = and_parts (beq f.variadic body.variadic && beq f.strict body.strict) (is_as_loose f.volatility body.volatility) four.0 in
    let two = and_parts (beq f.variadic body.variadic) (beq f.strict body.strict) three.0 in
    record { strict = (booleans_Decides f.strict body.strict).0 two.1; args = all.1 }

pub named_is : (c : Contents) (type : TypeNo) (name : List ℕ) → is_named c type name ≡ true → name_of c type ≡ name
named_is c type name is = go (slice_get c.types type.0) refl
  where
    go : (o : Option TypeRow) → slice_get c.types type.0 ≡ o → name_of c type ≡ name
    go None at = let never : is_named c type name ≡ false = rw at refl in cc (never, is)
    go (Some row) at =
        let own : bytes_eq row.name name ≡ true = (let shown : is_named c type name ≡ bytes_eq row.name name = rw at refl in sym shown ∙ is) in
        rw at ((bytes_eq-Decides row.name name).0 own)

-- the body of a function of one argument declares that argument's name
one_named : (c : Contents) (type : TypeNo) (names : List (List ℕ)) → are_named c (type ∷ []) names ≡ true → names ≡ name_of c type ∷ []
one_named c type [] is = cc is
one_named c type (name ∷ []) is = let own : is_named c type name ≡ true = (and_parts (is_named c type name) true is).0 in ap (λ n. n ∷ []) (sym (named_is c type name own))
one_named c type (name ∷ other ∷ names) is = let never : false ≡ true = (and_parts (is_named c type name) false is).1 in cc never

one_type : (types : List TypeNo) (type : TypeNo) → same_types types (type ∷ []) ≡ true → types ≡ type ∷ []
one_type [] type is = cc is
one_type (a ∷ []) type is = ap (λ t. t ∷ []) (same_number a type (and_parts (a.0 == type.0) true is).0)
one_type (a ∷ b ∷ types) type is = let never : false ≡ true = (and_parts (a.0 == type.0) false is).1 in cc never

-- ---- the call

row_takes : (c : Contents) (type : TypeNo) (row : Row) (ty : NodeType) → row.args ≡ name_of c type ∷ [] → ty.rep ≡ kept c type → list_all is_represented (ty ∷ []) ≡ true → fit_row row (ty ∷ []) ≡ true
row_takes c type row ty args is some =
    let own : is_represented ty ≡ true = (and_parts (is_represented ty) true some).0 in
    rw args (fits_kind (kind_of c type) (name_of c type) ty is own)

body_rests : (c : Contents) (f : FuncRow) (number : RowNo) (type : TypeNo) (ty : NodeType) → f.args ≡ type ∷ [] → ty.rep ≡ kept c type → (body : Option Row) → agrees_with c f body ≡ true → RestsOn (func_callee number f) (ty ∷ []) body
body_rests c f number type ty args is None agree = cc agree
body_rests c f number type ty args is (Some row) agree =
    let own = agreed c f row agree in
    let names : are_named c (type ∷ []) row.args ≡ true = rw args at own.args in
    (own.strict, λ some. row_takes c type row ty (one_named c type row.args names) is some)

number_rests : (c : Contents) (f : FuncRow) (number : RowNo) (type : TypeNo) (ty : NodeType) → f.args ≡ type ∷ [] → ty.rep ≡ kept c type → (body : Option BodyNo) → fits_with c f body ≡ true → RestsOnBody (func_callee number f) (ty ∷ []) body
number_rests c f number type ty args is None fit = tt
number_rests c f number type ty args is (Some body) fit = body_rests c f number type ty args is (slice_get bodies body.0) fit

-- a call of a cast's function on a value that is kept as the cast's source rests on its body
pub func_rests : (c : Contents) (number : RowNo) (f : FuncRow) (from to : TypeNo) (ty : NodeType) → IsFitted c → slice_get c.funcs number.0 ≡ Some f → casts_by c number from to ≡ true → ty.rep ≡ kept c from → Rests (func_callee number f) (ty ∷ [])
func_rests c number f from to ty fitted at casts is =
    let both : (same_types f.args (from ∷ []) && f.result.0 == to.0) ≡ true = (let shown : casts_by c number from to ≡ (same_types f.args (from ∷ []) && f.result.0 == to.0) = rw at refl in sym shown ∙ casts) in
    let args : f.args ≡ from ∷ [] = one_type f.args from (and_parts (same_types f.args (from ∷ [])) (f.result.0 == to.0) both).0 in
    number_rests c f number from ty args is f.body (all_at (λ func. fits c func ≡ true) c.funcs number.0 f fitted at)
