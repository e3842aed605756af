-- That a call over what its function declares rests on the function's body.
use Rattle.std.proofs.Common.{◌≡◌, inl, inr, ℕ, List, [], ◌∷◌, Bool, true, false, codes, refl, ◌∙◌, ap, lit<, Option, Some, None, option_map, slice_get}
use Rattle.std.specs.List.{list_all, list_any}
use Rattle.std.specs.Option.{option_map_or}
use Rattle.std.specs.Str.{bytes_eq}
use Rattle.std.proofs.lemmas.Bool.{and_parts}
use Rattle.std.proofs.lemmas.List.Folds.{list_any_at}
use Rattle.std.proofs.lemmas.Slice.Eq.{bytes_eq-Decides}
use Rattle.xp_base.specs.declared.numbers.BodyNo.{BodyNo}
use Rattle.xp_base.specs.declared.numbers.RowNo.{RowNo}
use Rattle.xp_base.specs.declared.numbers.TypeNo.{TypeNo}
use Rattle.xp_value.specs.Names.{rep_named}
use Rattle.xp_value.specs.declared.value.Rep.TheVariants as rep
use Rattle.xp_catalog.specs.declared.rows.FuncRow.{FuncRow}
use Rattle.xp_catalog.specs.Contents.{Contents}
use Rattle.xp_catalog.specs.Spelling as spelling
use Rattle.xp_catalog.specs.Spelling.{is_among, plain_names}
use Rattle.xp_catalog.specs.WellFormed.{IsWellFormed}
use Rattle.xp_bodies.specs.Fits.{IsFitted, agrees_with, are_named, fits, fits_with, is_named}
use Rattle.xp_bodies.specs.Row.{Row}
use Rattle.xp_bodies.specs.Table.{bodies}
use Rattle.xp_poly.specs.Roles.{role, role_by}
use Rattle.xp_tree.specs.declared.parts.NodeType.{NodeType}
use Rattle.xp_tree.specs.declared.parts.Callee.{Callee}
use Rattle.xp_tree.specs.Rests.{Rests, RestsOn, RestsOnBody, element_reps, fit_each, fit_row, fits_at, is_represented}
use Rattle.xp_io.specs.Representations.{rep_of}
use Rattle.xp_coerce.specs.Types.{node_type}
use Rattle.xp_coerce.specs.Ways.{func_callee}
use Rattle.xp_coerce.proofs.Growing.{all_at}
use Rattle.xp_coerce.proofs.Names.{OfEach, is_word}
use Rattle.xp_coerce.proofs.Rests.{agreed, named_is, not_shown}
use Rattle.xp_resolve.specs.declared.nodes.Taking.{Taking}
use Rattle.xp_resolve.specs.declared.nodes.Taking.TheVariants.{AsBound, AsText, ElementsAsText}
use Rattle.xp_resolve.specs.Nodes.{taking_named}
use Rattle.xp_resolve.specs.inner.Stands.{IsText, Stand, StandAt, StandIfBody, StandEach, StandsBy}
use Rattle.xp_resolve.proofs.PseudoNames.{role_called}
use Rattle.xp_resolve.proofs.SettledBodies.{bare_names, body_settled, is_settled, is_settled_at}
use Rattle.xp_resolve.proofs.TextTypes.{plain_kept, text_kept}

-- ---- plain names

-- what holds of each plain type's name
of_plain : (P : List ℕ → Type 0) (name : List ℕ) → OfEach P → is_among plain_names name ≡ true → P name
of_plain P name each among =
    is_word P name (codes "bool") each.bool (λ no_bool.
    is_word P name (codes "int2") each.int2 (λ no_int2.
    is_word P name (codes "int4") each.int4 (λ no_int4.
    is_word P name (codes "int8") each.int8 (λ no_int8.
    is_word P name (codes "numeric") each.numeric (λ no_numeric.
    is_word P name (codes "text") each.text (λ no_text.
    is_word P name (codes "varchar") each.varchar (λ no_varchar.
    is_word P name (codes "bpchar") each.bpchar (λ no_bpchar.
    is_word P name (codes "bytea") each.bytea (λ no_bytea.
    is_word P name (codes "date") each.date (λ no_date.
    let never : false ≡ true = rw (no_bool, no_int2, no_int4, no_int8, no_numeric, no_text, no_varchar, no_bpchar, no_bytea, no_date) at among in absurd (cc never)))))))))))

pub plain_is_no_pseudo : (name : List ℕ) → is_among plain_names name ≡ true → spelling.pseudo_type name ≡ None
plain_is_no_pseudo name = of_plain (λ n. spelling.pseudo_type n ≡ None) name
    (record { bool = refl; int2 = refl; int4 = refl; int8 = refl; numeric = refl; text = refl; varchar = refl; bpchar = refl; bytea = refl; date = refl })

abbrev FitsName : List ℕ → Type 0
FitsName name = (ty : NodeType) → ty.rep ≡ rep_named name → is_represented ty ≡ true → fits_at rep.Text name ty ≡ true

fits_name : (name : List ℕ) → is_among plain_names name ≡ true → FitsName name
fits_name name = of_plain FitsName name
    (record {
      bool = λ ty is some. rw is refl;
      int2 = λ ty is some. rw is refl;
      int4 = λ ty is some. rw is refl;
      int8 = λ ty is some. rw is refl;
      numeric = λ ty is some. rw is refl;
      text = λ ty is some. rw is refl;
      varchar = λ ty is some. rw is refl;
      bpchar = λ ty is some. rw is refl;
      bytea = λ ty is some. rw is refl;
      date = λ ty is some. rw is refl;
    })

-- ---- one argument

-- by the name that the body declares
by_name : (c : Contents) (taking : Taking) (declared : TypeNo) (name : List ℕ) (ty : NodeType) → IsWellFormed c → is_named c declared name ≡ true → StandsBy c taking declared (role c declared) ty → StandsBy c taking declared (role_by (spelling.pseudo_type name)) ty
by_name c taking declared name ty well named stands = rw (role_called c declared name well (named_is c declared name named)) at stands

bare_stands : (c : Contents) (taking : Taking) (declared : TypeNo) (ty : NodeType) (name : List ℕ) → StandsBy c taking declared (role_by (spelling.pseudo_type name)) ty → is_among bare_names name ≡ true → ⊥
bare_stands c taking declared ty name =
    let P : List ℕ → Type 0 = λ n. StandsBy c taking declared (role_by (spelling.pseudo_type n)) ty → is_among bare_names n ≡ true → ⊥ in
    is_word P name (codes "any") (λ stands is. stands) (λ no_any.
    is_word P name (codes "anyarray") (λ stands is. stands) (λ no_array.
    is_word P name (codes "anycompatiblearray") (λ stands is. stands) (λ no_compatible.
    is_word P name (codes "anyrange") (λ stands is. stands) (λ no_range stands is.
    let never : false ≡ true = rw (no_any, no_array, no_compatible, no_range) at is in cc never))))

plain_fits : (c : Contents) (taking : Taking) (declared : TypeNo) (name : List ℕ) (ty : NodeType) → IsWellFormed c → is_named c declared name ≡ true → StandsBy c taking declared (role c declared) ty → is_represented ty ≡ true → is_among plain_names name ≡ true → fits_at rep.Text name ty ≡ true
plain_fits c taking declared name ty well named stands some among =
    let here : StandsBy c taking declared (role_by (spelling.pseudo_type name)) ty = by_name c taking declared name ty well named stands in
    let same : ty ≡ node_type c declared = rw (plain_is_no_pseudo name among) at here in
    let kept : ty.rep ≡ rep_of c declared = ap (λ (t : NodeType). t.rep) same in
    elim (plain_kept c declared name well (named_is c declared name named) among) [
      | inl is ↦ fits_name name among ty (kept ∙ is) some
      | inr is ↦ absurd (not_shown ty (kept ∙ is) some)
    ]

text_fits : (c : Contents) (ty : NodeType) → IsWellFormed c → IsText c ty → is_represented ty ≡ true → fits_at rep.Text (codes "anynonarray") ty ≡ true
text_fits c ty well text some =
    let kept : ty.rep ≡ rep_of c ty.no = ap (λ (t : NodeType). t.rep) text.same in
    elim (text_kept c ty.no well text.named) [
      | inl is ↦ let own : ty.rep ≡ rep.Text = kept ∙ is in rw own refl
      | inr is ↦ absurd (not_shown ty (kept ∙ is) some)
    ]

nonarray_fits : (c : Contents) (declared : TypeNo) (name : List ℕ) (ty : NodeType) → IsWellFormed c → is_named c declared name ≡ true → StandsBy c AsText declared (role c declared) ty → is_represented ty ≡ true → bytes_eq name (codes "anynonarray") ≡ true → fits_at rep.Text name ty ≡ true
nonarray_fits c declared name ty well named stands some is =
    let word : name ≡ codes "anynonarray" = (bytes_eq-Decides name (codes "anynonarray")).0 is in
    let here : StandsBy c AsText declared (role_by (spelling.pseudo_type name)) ty = by_name c AsText declared name ty well named stands in
    let text : IsText c ty = rw word at here in
    rw word (text_fits c ty well text some)

settled_fits : (c : Contents) (taking : Taking) (declared : TypeNo) (name : List ℕ) (ty : NodeType) → IsWellFormed c → is_named c declared name ≡ true → StandsBy c taking declared (role c declared) ty → is_represented ty ≡ true → is_settled_at taking name ≡ true → fits_at rep.Text name ty ≡ true
settled_fits c AsBound declared name ty well named stands some is = plain_fits c AsBound declared name ty well named stands some is
settled_fits c ElementsAsText declared name ty well named stands some is = plain_fits c ElementsAsText declared name ty well named stands some is
settled_fits c AsText declared name ty well named stands some is = go (is_among plain_names name) refl
  where
    go : (b : Bool) → is_among plain_names name ≡ b → fits_at rep.Text name ty ≡ true
    go true among = plain_fits c AsText declared name ty well named stands some among
    go false among = let own : bytes_eq name (codes "anynonarray") ≡ true = rw among at is in nonarray_fits c declared name ty well named stands some own

-- ---- all of them

bare_never : (c : Contents) (taking : Taking) (args : List TypeNo) (names : List (List ℕ)) (types : List NodeType) → IsWellFormed c → are_named c args names ≡ true → StandEach c taking args types → list_all is_represented types ≡ true → list_any (is_among bare_names) names ≡ true → ⊥
bare_never c taking [] [] types well named stand some bare = cc bare
bare_never c taking [] (name ∷ names) types well named stand some bare = cc named
bare_never c taking (declared ∷ args) [] types well named stand some bare = cc named
bare_never c taking (declared ∷ args) (name ∷ names) [] well named stand some bare = stand
bare_never c taking (declared ∷ args) (name ∷ names) (ty ∷ types) well named stand some bare =
    let called = and_parts (is_named c declared name) (are_named c args names) named in
    let shown = and_parts (is_represented ty) (list_all is_represented types) some in
    go called.0 shown.0 (is_among bare_names name) refl (bare_never c taking args names types well called.1 stand.1 shown.1)
  where
    go : is_named c declared name ≡ true → is_represented ty ≡ true → (b : Bool) → is_among bare_names name ≡ b → (list_any (is_among bare_names) names ≡ true → ⊥) → ⊥
    go called shown true is rest = bare_stands c taking declared ty name (by_name c taking declared name ty well called (stand.0 shown)) is
    go called shown false is rest = rest (rw is at bare)

each_fits : (c : Contents) (taking : Taking) (args : List TypeNo) (names : List (List ℕ)) (types : List NodeType) → IsWellFormed c → are_named c args names ≡ true → StandEach c taking args types → list_all is_represented types ≡ true → list_all (is_settled_at taking) names ≡ true → fit_each rep.Text names types ≡ true
each_fits c taking [] [] [] well named stand some settled = refl
each_fits c taking [] [] (ty ∷ types) well named stand some settled = absurd stand
each_fits c taking [] (name ∷ names) types well named stand some settled = absurd (cc named)
each_fits c taking (declared ∷ args) [] types well named stand some settled = absurd (cc named)
each_fits c taking (declared ∷ args) (name ∷ names) [] well named stand some settled = absurd stand
each_fits c taking (declared ∷ args) (name ∷ names) (ty ∷ types) well named stand some settled =
    let called = and_parts (is_named c declared name) (are_named c args names) named in
    let shown = and_parts (is_represented ty) (list_all is_represented types) some in
    let fixed = and_parts (is_settled_at taking name) (list_all (is_settled_at taking) names) settled in
    let first : fits_at rep.Text name ty ≡ true = settled_fits c taking declared name ty well called.0 (stand.0 shown.0) shown.0 fixed.0 in
    rw first (each_fits c taking args names types well called.1 stand.1 shown.1 fixed.1)

row_takes : (c : Contents) (row : Row) (args : List TypeNo) (types : List NodeType) → IsWellFormed c → is_settled row ≡ true → are_named c args row.args ≡ true → StandEach c (taking_named row.name) args types → list_all is_represented types ≡ true → fit_row row types ≡ true
row_takes c row args types well settled named stand some = go (list_any (is_among bare_names) row.args) refl
  where
    go : (b : Bool) → list_any (is_among bare_names) row.args ≡ b → fit_row row types ≡ true
    go true bare = absurd (bare_never c (taking_named row.name) args row.args types well named stand some bare)
    go false bare =
        let all : list_all (is_settled_at (taking_named row.name)) row.args ≡ true = rw bare at settled in
        let fits : fit_each rep.Text row.args types ≡ true = each_fits c (taking_named row.name) args row.args types well named stand some all in
        list_any_at (λ element. fit_each element row.args types) element_reps 5 rep.Text (lit< tt) fits

-- ---- the call

body_rests : (c : Contents) (func : FuncRow) (number : RowNo) (types : List NodeType) (place : ℕ) (body : Option Row) → IsWellFormed c → slice_get bodies place ≡ body → agrees_with c func body ≡ true → StandEach c (option_map_or (λ row. taking_named row.name) body AsBound) func.args types → RestsOn (func_callee number func) types body
body_rests c func number types place None well at agree stand = cc agree
body_rests c func number types place (Some row) well at agree stand =
    let own = agreed c func row agree in
    (own.strict, λ some. row_takes c row func.args types well (body_settled place row at) own.args stand some)

number_rests : (c : Contents) (func : FuncRow) (number : RowNo) (types : List NodeType) (body : Option BodyNo) → IsWellFormed c → fits_with c func body ≡ true → StandIfBody c func.args body types → RestsOnBody (func_callee number func) types body
number_rests c func number types None well fit stand = tt
number_rests c func number types (Some body) well fit stand = body_rests c func number types body.0 (slice_get bodies body.0) well refl fit stand

pub call_rests : (c : Contents) (number : RowNo) (func : FuncRow) (types : List NodeType) → IsWellFormed c → IsFitted c → slice_get c.funcs number.0 ≡ Some func → Stand c func types → Rests (func_callee number func) types
call_rests c number func types well fitted at stand = number_rests c func number types func.body well (all_at (λ f. fits c f ≡ true) c.funcs number.0 func fitted at) stand

pub callee_rests : (c : Contents) (number : RowNo) (callee : Callee) (types : List NodeType) → IsWellFormed c → IsFitted c → option_map (func_callee number) (slice_get c.funcs number.0) ≡ Some callee → StandAt c number types → Rests callee types
callee_rests c number callee types well fitted found stand = go (slice_get c.funcs number.0) refl
  where
    go : (o : Option FuncRow) → slice_get c.funcs number.0 ≡ o → Rests callee types
    go None at = let never : None ≡ Some callee = rw at at found in absurd (cc never)
    go (Some func) at =
        let shown : Some (func_callee number func) ≡ Some callee = rw at at found in
        let same : func_callee number func ≡ callee = cc in
        let own : Stand c func types = rw at at stand in
        rw (← same) (call_rests c number func types well fitted at own)
