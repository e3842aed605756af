-- The arguments of a call stand where its function declares them.
use Rattle.std.proofs.Common.{◌≡◌, inl, inr, ℕ, zero, suc, append_assoc, ◌+◌, ◌-◌, ◌≤◌, ◌==◌, List, [], ◌∷◌, ◌++◌, Bool, true, false, length, map, take, drop, replicate, zip, refl, sym, ◌∙◌, ap, arith, Option, Some, None, slice_get}
use Rattle.std.specs.List.{All}
use Rattle.std.proofs.Math.Seq.{drop-append_seam, get_or-append_seam, take-append_seam}
use Rattle.std.proofs.lemmas.List.{drop-map, length-append, length-map, length-replicate, length-take-le, map-append, replicate-append-replicate, take-map}
use Rattle.std.proofs.lemmas.Option.{get_or_from_slice_get}
use Rattle.std.proofs.lemmas.List.Elements.{All-cons, All-nil}
use Rattle.xp_base.specs.declared.numbers.BodyNo.{BodyNo}
use Rattle.xp_base.specs.declared.numbers.TypeNo.{TypeNo}
use Rattle.xp_bodies.specs.Fits.{IsFitted, fits, fits_with}
use Rattle.xp_catalog.specs.declared.rows.FuncRow.{FuncRow}
use Rattle.xp_catalog.specs.Contents.{Contents}
use Rattle.xp_catalog.specs.WellFormed.{IsWellFormed}
use Rattle.xp_types.specs.Readers.{element}
use Rattle.xp_poly.specs.Bound.{bonds, concrete_at}
use Rattle.xp_poly.specs.declared.bound.Bonds.{Bonds}
use Rattle.xp_candidates.specs.declared.candidate.Candidate.{Candidate}
use Rattle.xp_tree.specs.declared.parts.NodeType.{NodeType}
use Rattle.xp_tree.specs.Term.{Term, array, many, terms, type_of}
use Rattle.xp_tree.specs.Typed.{types_of}
use Rattle.xp_coerce.specs.Types.{node_type}
use Rattle.xp_coerce.proofs.Growing.{all_at}
use Rattle.xp_resolve.specs.declared.choice.Choice.{Choice}
use Rattle.xp_resolve.specs.declared.nodes.Taking.{Taking}
use Rattle.xp_resolve.specs.declared.targets.Target.{Target}
use Rattle.xp_resolve.specs.Calls.{bound_pairs, spread}
use Rattle.xp_resolve.specs.Nodes.{taking_of}
use Rattle.xp_resolve.specs.Targets.{target_of, targets, targets_of, type_at}
use Rattle.xp_resolve.specs.inner.Choices.{IsChoice, IsForm, IsSpread}
use Rattle.xp_resolve.specs.inner.Sources.{AreOf, target_type}
use Rattle.xp_resolve.specs.inner.Stands.{IsElementOf, StandAt, StandIfBody, StandEach, StandsFor}
use Rattle.xp_resolve.proofs.AnyLast.{AnyIsLast, bodies_any_last, front_any_last}
use Rattle.xp_resolve.proofs.Standing.{array_not_shown, each_stands, pairs_of}

types_are : (trees : List Term) → types_of (terms trees) ≡ map type_of trees
types_are [] = refl
types_are (t ∷ trees) = ap (λ types. type_of t ∷ types) (types_are trees)

-- ---- parameters as they stand

whole_each : (c : Contents) (taking : Taking) (variadic : Bool) (declared inputs : List TypeNo) (list : List Target) (trees : List Term) → IsWellFormed c → AnyIsLast c variadic declared → length declared ≡ length inputs → targets_of taking c variadic 0 (bound_pairs c declared inputs) ≡ Some list → AreOf c list trees → StandEach c taking declared (types_of (terms trees))
whole_each c taking variadic declared inputs list trees well any same is of =
    let own = each_stands c taking variadic (bonds c (zip declared inputs)) declared inputs [] list well any same is in
    rw (types_are trees, of, own.is) own.stand

-- ---- a parameter that stands for several arguments

pub record Spread (c : Contents) (taking : Taking) (extra : ℕ) (pairs : List (TypeNo × TypeNo)) (list : List Target) : Type 0 where
  pub front : List Target
  pub each : Target
  pub is : list ≡ front ++ replicate extra each
  pub targeted : targets taking c false [] (take (length pairs - extra) pairs) ≡ Some front

pub spread_is : (c : Contents) (taking : Taking) (variadic : Bool) (extra : ℕ) (pairs : List (TypeNo × TypeNo)) (list : List Target) → (extra == 0) ≡ false → targets_of taking c variadic extra pairs ≡ Some list → Spread c taking extra pairs list
spread_is c taking variadic extra pairs list some is = first (targets taking c false [] (take (length pairs - extra) pairs)) refl
  where
    each : (front : List Target) → targets taking c false [] (take (length pairs - extra) pairs) ≡ Some front → (last : TypeNo × TypeNo) → slice_get pairs (length pairs - 1) ≡ Some last → (o : Option Target) → target_of taking c false last ≡ o → Spread c taking extra pairs list
    each front before last at None none = let never : None ≡ Some list = rw (some, before, at, none) at is in absurd (cc never)
    each front before last at (Some t) found =
        let shown : Some (front ++ replicate extra t) ≡ Some list = rw (some, before, at, found) at is in
        record { front = front; each = t; is = cc; targeted = before }

    final : (front : List Target) → targets taking c false [] (take (length pairs - extra) pairs) ≡ Some front → (o : Option (TypeNo × TypeNo)) → slice_get pairs (length pairs - 1) ≡ o → Spread c taking extra pairs list
    final front before None none = let never : None ≡ Some list = rw (some, before, none) at is in absurd (cc never)
    final front before (Some last) at = each front before last at (target_of taking c false last) refl

    first : (o : Option (List Target)) → targets taking c false [] (take (length pairs - extra) pairs) ≡ o → Spread c taking extra pairs list
    first None none = let never : None ≡ Some list = rw (some, none) at is in absurd (cc never)
    first (Some front) before = final front before (slice_get pairs (length pairs - 1)) refl

pub length_pairs : (c : Contents) (both : Bonds) (xs ys : List TypeNo) → length xs ≡ length ys → length (pairs_of c both xs ys) ≡ length ys
length_pairs c both [] [] same = refl
length_pairs c both [] (y ∷ ys) same = absurd (cc same)
length_pairs c both (x ∷ xs) [] same = absurd (cc same)
length_pairs c both (x ∷ xs) (y ∷ ys) same = ap (λ n. suc n) (length_pairs c both xs ys (cc same))

front_pairs : (c : Contents) (both : Bonds) (front more inputs : List TypeNo) → take (length front) (pairs_of c both (front ++ more) inputs) ≡ pairs_of c both front (take (length front) inputs)
front_pairs c both [] more inputs = refl
front_pairs c both (x ∷ front) more [] = refl
front_pairs c both (x ∷ front) more (y ∷ inputs) = ap (λ pairs. (x, concrete_at c both (x, y)) ∷ pairs) (front_pairs c both front more inputs)

-- the types that stand in front of those that are spread
front_stands : (c : Contents) (taking : Taking) (variadic : Bool) (front : List TypeNo) (last type : TypeNo) (extra : ℕ) (inputs : List TypeNo) (new : List Target) → IsWellFormed c → AnyIsLast c variadic (front ++ last ∷ []) → length front + extra ≡ length inputs → targets taking c false [] (take (length (bound_pairs c (front ++ replicate extra type) inputs) - extra) (bound_pairs c (front ++ replicate extra type) inputs)) ≡ Some new → StandEach c taking front (map (target_type c) new)
front_stands c taking variadic front last type extra inputs new well any same is =
    let both : Bonds = bonds c (zip (front ++ replicate extra type) inputs) in
    let arity : length (front ++ replicate extra type) ≡ length inputs = length-append front (replicate extra type) ∙ ap (λ n. length front + n) (length-replicate extra type) ∙ same in
    let counted : length (pairs_of c both (front ++ replicate extra type) inputs) ≡ length inputs = length_pairs c both (front ++ replicate extra type) inputs arity in
    let place : length (pairs_of c both (front ++ replicate extra type) inputs) - extra ≡ length front = omega (arith, counted, same) in
    let few : length (take (length front) inputs) ≡ length front = length-take-le (length front) inputs (omega (arith, same)) in
    let own : targets taking c false [] (pairs_of c both front (take (length front) inputs)) ≡ Some new = rw (place, front_pairs c both front (replicate extra type) inputs) at is in
    let stands = each_stands c taking false both front (take (length front) inputs) [] new well (front_any_last c variadic front last any) (sym few) own in
    rw stands.is stands.stand

length_each : (c : Contents) (taking : Taking) (args : List TypeNo) (types : List NodeType) → StandEach c taking args types → length types ≡ length args
length_each c taking [] [] stand = refl
length_each c taking [] (ty ∷ types) stand = absurd stand
length_each c taking (declared ∷ args) [] stand = absurd stand
length_each c taking (declared ∷ args) (ty ∷ types) stand = ap (λ n. suc n) (length_each c taking args types stand.1)

stand_more : (c : Contents) (taking : Taking) (args : List TypeNo) (types : List NodeType) (last : TypeNo) (ty : NodeType) → StandEach c taking args types → StandsFor c taking last ty → StandEach c taking (args ++ last ∷ []) (types ++ ty ∷ [])
stand_more c taking [] [] last ty stand one = (one, tt)
stand_more c taking [] (other ∷ types) last ty stand one = absurd stand
stand_more c taking (declared ∷ args) [] last ty stand one = absurd stand
stand_more c taking (declared ∷ args) (other ∷ types) last ty stand one = (stand.0, stand_more c taking args types last ty stand.1 one)

-- ---- the trees that are spread

length_of : (c : Contents) (front : List Target) (each : Target) (extra : ℕ) (trees : List Term) → AreOf c (front ++ replicate extra each) trees → length trees - extra ≡ length (map (target_type c) front)
length_of c front each extra trees of =
    let counted : length trees ≡ length front + extra = sym (length-map trees type_of) ∙ ap length of ∙ length-map (front ++ replicate extra each) (target_type c) ∙ length-append front (replicate extra each) ∙ ap (λ n. length front + n) (length-replicate extra each) in
    let own : length (map (target_type c) front) ≡ length front = length-map front (target_type c) in
    omega (arith, counted, own)

in_two : (c : Contents) (front : List Target) (each : Target) (extra : ℕ) (trees : List Term) → AreOf c (front ++ replicate extra each) trees → map type_of trees ≡ map (target_type c) front ++ map (target_type c) (replicate extra each)
in_two c front each extra trees of = of ∙ map-append (target_type c) front (replicate extra each)

front_types : (c : Contents) (front : List Target) (each : Target) (extra : ℕ) (trees : List Term) → AreOf c (front ++ replicate extra each) trees → map type_of (take (length trees - extra) trees) ≡ map (target_type c) front
front_types c front each extra trees of =
    sym (take-map type_of (length trees - extra) trees) ∙ (rw (length_of c front each extra trees of, in_two c front each extra trees of) (take-append_seam (map (target_type c) front) (map (target_type c) (replicate extra each))))

rest_types : (c : Contents) (front : List Target) (each : Target) (extra : ℕ) (trees : List Term) → AreOf c (front ++ replicate extra each) trees → map type_of (drop (length trees - extra) trees) ≡ map (target_type c) (replicate extra each)
rest_types c front each extra trees of =
    sym (drop-map type_of (length trees - extra) trees) ∙ (rw (length_of c front each extra trees of, in_two c front each extra trees of) (drop-append_seam (map (target_type c) front) (map (target_type c) (replicate extra each))))

all_alike : (c : Contents) (array_type : TypeNo) (each : Target) (extra : ℕ) (trees : List Term) → element c array_type ≡ Some (type_at c each) → map type_of trees ≡ map (target_type c) (replicate extra each) → All (λ t. IsElementOf c array_type (type_of t)) trees
all_alike c array_type each extra [] over of = All-nil (λ t. IsElementOf c array_type (type_of t))
all_alike c array_type each zero (t ∷ trees) over of = absurd (cc of)
all_alike c array_type each (suc extra) (t ∷ trees) over of =
    let own : type_of t ≡ target_type c each = cc of in
    let more : map type_of trees ≡ map (target_type c) (replicate extra each) = cc of in
    let first : IsElementOf c array_type (type_of t) = rw (over, own) refl in
    All-cons (λ a. IsElementOf c array_type (type_of a)) t trees first (all_alike c array_type each extra trees over more)

spread_types : (c : Contents) (array_type : TypeNo) (extra : ℕ) (trees : List Term) → types_of (terms (spread c array_type extra trees)) ≡ map type_of (take (length trees - extra) trees) ++ node_type c array_type ∷ []
spread_types c array_type extra trees =
    types_are (spread c array_type extra trees) ∙ map-append type_of (take (length trees - extra) trees) (many array (terms (drop (length trees - extra) trees)) (node_type c array_type) ∷ [])

spread_each : (c : Contents) (taking : Taking) (variadic : Bool) (front : List TypeNo) (last type : TypeNo) (extra : ℕ) (inputs : List TypeNo) (list : List Target) (trees : List Term) (array_type inner : TypeNo) → IsWellFormed c → AnyIsLast c variadic (front ++ last ∷ []) → length front + extra ≡ length inputs → Spread c taking extra (bound_pairs c (front ++ replicate extra type) inputs) list → AreOf c list trees → element c array_type ≡ Some inner → StandEach c taking (front ++ last ∷ []) (types_of (terms (spread c array_type extra trees)))
spread_each c taking variadic front last type extra inputs list trees array_type inner well any same own of over =
    let here : AreOf c (own.front ++ replicate extra own.each) trees = rw own.is at of in
    let stands : StandEach c taking front (map (target_type c) own.front) = front_stands c taking variadic front last type extra inputs own.front well any same own.targeted in
    rw (spread_types c array_type extra trees, front_types c own.front own.each extra trees here)
    (stand_more c taking front (map (target_type c) own.front) last (node_type c array_type) stands (λ some. absurd (array_not_shown c array_type inner over some)))

-- ---- the call that is chosen

fitted_body : (c : Contents) (func : FuncRow) (row : ℕ) (body : BodyNo) → IsWellFormed c → IsFitted c → slice_get c.funcs row ≡ Some func → func.body ≡ Some body → AnyIsLast c func.variadic func.args
fitted_body c func row body well fitted there is =
    let own : fits_with c func func.body ≡ true = all_at (λ f. fits c f ≡ true) c.funcs row func fitted there in
    bodies_any_last c func body well (rw is at own)

pub whole_stands : (c : Contents) (choice : Choice) (trees : List Term) → IsWellFormed c → IsFitted c → IsChoice c choice → choice.extra ≡ 0 → AreOf c choice.targets trees → StandAt c choice.row (types_of (terms trees))
whole_stands c choice trees well fitted own none of = rw own.there (go own.func.body refl)
  where
    formed : (body : BodyNo) → own.func.body ≡ Some body → IsForm own.func (length own.inputs) own.candidate → StandEach c (taking_of (Some body)) own.func.args (types_of (terms trees))
    formed body is (inl form) =
        let any : AnyIsLast c own.func.variadic own.func.args = fitted_body c own.func choice.row.0 body well fitted own.there is in
        let targeted : targets_of (taking_of (Some body)) c own.func.variadic 0 (bound_pairs c own.func.args own.inputs) ≡ Some choice.targets = rw (is, none, form.declared) at own.targeted in
        whole_each c (taking_of (Some body)) own.func.variadic own.func.args own.inputs choice.targets trees well any form.count targeted of
    formed body is (inr form) = absurd (omega (arith, form.some, own.extra, none))

    go : (o : Option BodyNo) → own.func.body ≡ o → StandIfBody c own.func.args own.func.body (types_of (terms trees))
    go None is = rw is tt
    go (Some body) is = rw is (formed body is own.stands)

-- what is known where arguments are spread
pub record IsSpreadCall (c : Contents) (choice : Choice) (func : FuncRow) (inputs : List TypeNo) (candidate : Candidate) (taking : Taking) : Type 0 where
  pub form : IsSpread func (length inputs) candidate
  pub targets : Spread c taking choice.extra (bound_pairs c (form.front ++ replicate choice.extra form.type) inputs) choice.targets

pub spread_call : (c : Contents) (choice : Choice) (own : IsChoice c choice) → (choice.extra == 0) ≡ false → IsSpreadCall c choice own.func own.inputs own.candidate (taking_of own.func.body)
spread_call c choice own some = go own.stands
  where
    go : IsForm own.func (length own.inputs) own.candidate → IsSpreadCall c choice own.func own.inputs own.candidate (taking_of own.func.body)
    go (inl form) = let never : choice.extra ≡ 0 = own.extra ∙ form.expanded in let no : true ≡ false = rw never at some in absurd (cc no)
    go (inr form) =
        let declared : own.candidate.declared ≡ form.front ++ replicate choice.extra form.type = form.declared ∙ ap (λ n. form.front ++ replicate n form.type) (sym own.extra) in
        let targeted : targets_of (taking_of own.func.body) c own.func.variadic choice.extra (bound_pairs c (form.front ++ replicate choice.extra form.type) own.inputs) ≡ Some choice.targets = rw declared at own.targeted in
        record { form = form; targets = spread_is c (taking_of own.func.body) own.func.variadic choice.extra (bound_pairs c (form.front ++ replicate choice.extra form.type) own.inputs) choice.targets some targeted }

spread_body : (c : Contents) (choice : Choice) (func : FuncRow) (inputs : List TypeNo) (candidate : Candidate) (taking : Taking) (trees : List Term) (array_type inner : TypeNo) → IsWellFormed c → AnyIsLast c func.variadic func.args → IsSpreadCall c choice func inputs candidate taking → choice.extra ≡ candidate.expanded → AreOf c choice.targets trees → element c array_type ≡ Some inner → StandEach c taking func.args (types_of (terms (spread c array_type choice.extra trees)))
spread_body c choice func inputs candidate taking trees array_type inner well any call extra of over =
    let any_here : AnyIsLast c func.variadic (call.form.front ++ call.form.last ∷ []) = rw call.form.args at any in
    let count : length call.form.front + choice.extra ≡ length inputs = ap (λ n. length call.form.front + n) extra ∙ call.form.count in
    rw call.form.args (spread_each c taking func.variadic call.form.front call.form.last call.form.type choice.extra inputs choice.targets trees array_type inner well any_here count call.targets of over)

pub spread_stands : (c : Contents) (choice : Choice) (trees : List Term) (array_type inner : TypeNo) → IsWellFormed c → IsFitted c → IsChoice c choice → (choice.extra == 0) ≡ false → AreOf c choice.targets trees → element c array_type ≡ Some inner → StandAt c choice.row (types_of (terms (spread c array_type choice.extra trees)))
spread_stands c choice trees array_type inner well fitted own some of over = rw own.there (go own.func.body refl)
  where
    go : (o : Option BodyNo) → own.func.body ≡ o → StandIfBody c own.func.args own.func.body (types_of (terms (spread c array_type choice.extra trees)))
    go None is = rw is tt
    go (Some body) is =
        let any : AnyIsLast c own.func.variadic own.func.args = fitted_body c own.func choice.row.0 body well fitted own.there is in
        let stands = spread_body c choice own.func own.inputs own.candidate (taking_of own.func.body) trees array_type inner well any (spread_call c choice own some) own.extra of over in
        rw is (rw is at stands)

-- the last trees are values of the element type of an array type over what the last target asks for
last_pushed : {A : Type 0} (xs : List A) (x y : A) → slice_get (xs ++ x ∷ []) (length (xs ++ x ∷ []) - 1) ≡ Some y → x ≡ y
last_pushed xs x y is =
    let counted : length (xs ++ x ∷ []) ≡ length xs + 1 = length-append xs (x ∷ []) in
    let place : length (xs ++ x ∷ []) - 1 ≡ length xs = omega (arith, counted) in
    let here : slice_get (xs ++ x ∷ []) (length xs) ≡ Some y = rw place at is in
    sym (get_or-append_seam xs x [] x) ∙ get_or_from_slice_get (xs ++ x ∷ []) (length xs) y x here

last_target : (front : List Target) (each last : Target) (extra : ℕ) → (extra == 0) ≡ false → slice_get (front ++ replicate extra each) (length (front ++ replicate extra each) - 1) ≡ Some last → each ≡ last
last_target front each last zero some at = absurd (cc some)
last_target front each last (suc extra) some at =
    let more : suc extra ≡ extra + 1 = omega arith in
    let copies : replicate (suc extra) each ≡ replicate extra each ++ each ∷ [] = ap (λ n. replicate n each) more ∙ sym (replicate-append-replicate extra 1 each) in
    let whole : front ++ replicate (suc extra) each ≡ (front ++ replicate extra each) ++ each ∷ [] = ap (λ list. front ++ list) copies ∙ sym (append_assoc front (replicate extra each) (each ∷ [])) in
    last_pushed (front ++ replicate extra each) each last (rw whole at at)

pub spread_alike : (c : Contents) (choice : Choice) (trees : List Term) (array_type : TypeNo) (last : Target) → IsChoice c choice → (choice.extra == 0) ≡ false → AreOf c choice.targets trees → slice_get choice.targets (length choice.targets - 1) ≡ Some last → element c array_type ≡ Some (type_at c last) → All (λ t. IsElementOf c array_type (type_of t)) (drop (length trees - choice.extra) trees)
spread_alike c choice trees array_type last own some of at over =
    let call = spread_call c choice own some in
    let here : AreOf c (call.targets.front ++ replicate choice.extra call.targets.each) trees = rw call.targets.is at of in
    let same : call.targets.each ≡ last = last_target call.targets.front call.targets.each last choice.extra some (rw call.targets.is at at) in
    let over_each : element c array_type ≡ Some (type_at c call.targets.each) = rw (← same) at over in
    all_alike c array_type call.targets.each choice.extra (drop (length trees - choice.extra) trees) over_each (rest_types c call.targets.front call.targets.each choice.extra trees here)

-- what is taken off the end of a list
pub taken_off : {A : Type 0} (front rest list : List A) (count : ℕ) → front ++ rest ≡ list → length rest ≡ count → drop (length list - count) list ≡ rest
taken_off front rest list count whole same =
    let counted : length list ≡ length front + length rest = sym (ap length whole) ∙ length-append front rest in
    let place : length list - count ≡ length front = omega (arith, counted, same) in
    rw (place, ← whole) (drop-append_seam front rest)

pub left_over : {A : Type 0} (front rest list : List A) (count : ℕ) → front ++ rest ≡ list → length rest ≡ count → take (length list - count) list ≡ front
left_over front rest list count whole same =
    let counted : length list ≡ length front + length rest = sym (ap length whole) ∙ length-append front rest in
    let place : length list - count ≡ length front = omega (arith, counted, same) in
    rw (place, ← whole) (take-append_seam front rest)

-- there are as many trees as are spread
pub few_spread_trees : (c : Contents) (choice : Choice) (trees : List Term) → IsChoice c choice → (choice.extra == 0) ≡ false → AreOf c choice.targets trees → choice.extra ≤ length trees
few_spread_trees c choice trees own some of =
    let call = spread_call c choice own some in
    let counted : length trees ≡ length call.targets.front + choice.extra = sym (length-map trees type_of) ∙ ap length of ∙ length-map choice.targets (target_type c) ∙ ap length call.targets.is ∙ length-append call.targets.front (replicate choice.extra call.targets.each) ∙ ap (λ n. length call.targets.front + n) (length-replicate choice.extra call.targets.each) in
    omega (arith, counted)
