-- Where the outcome from left to right is a value, no other value is permitted.
use Rattle.std.proofs.Common.{◌≡◌, ◌⊎◌, inl, inr, List, [], ◌∷◌, Bool, true, false, ◌||◌, Result, Ok, Err, refl, sym, ap, ◌∙◌, subst, suc, pos}
use Rattle.std.specs.Prelude.{if◌then◌else◌}
use Rattle.xp_base.specs.FromLeft.{and_then, joined}
use Rattle.xp_base.specs.declared.codes.EvalError.{EvalError}
use Rattle.xp_value.specs.Null.{is_null}
use Rattle.xp_value.specs.declared.value.Value.{Value}
use Rattle.xp_value.specs.declared.value.Value.TheVariants as value
use Rattle.xp_tree.specs.declared.parts.Callee.{Callee}
use Rattle.xp_tree.specs.Term.{Term, Terms, Arms, conjunction, disjunction, null_if, distinct, subscript, call, coalesce, greatest, least, array, leaf, one, two, many, case, domain, checked, none, more, no_arm, arm}
use Rattle.xp_meaning.specs.Meaning.{arm_outcome, first_outcome, leaf_outcome, outcome, outcomes}
use Rattle.xp_meaning.specs.Nodes.{array_of, call_of, checked_by, distinct_of, greatest_of, kept_not_null, least_of, null_if_of, one_step, subscripted}
use Rattle.xp_meaning.specs.Permits.{ArmPermits, CheckPermits, EachPermits, FirstPermits, ManyPermit, Permits, SomePermits, TwoPermits, Within}
use Rattle.xp_meaning.specs.Primitives.{Primitives}
use Rattle.xp_meaning.specs.Sets.{Choice, Decided, Errors, InTurn, Is, OfMany, OfOne, OfTwo, Outcomes, Raises}
use Rattle.xp_meaning.specs.Truth.{Outcome, and_of, has_null, is_false, is_true, or_of}
use Rattle.xp_meaning.proofs.Itself.{false_one, true_one}

-- the set has no other value than the outcome's
abbrev pub Only : {T : Type 0} → (Result T EvalError → Type 0) → Result T EvalError → Type 0
Only {T = T} part (Ok v) = (w : T) → part (Ok w) → w ≡ v
Only part (Err e) = Unit {0}

-- a set whose values are in the other
smaller : {T : Type 0} (part whole : Result T EvalError → Type 0) (o : Result T EvalError) → ((w : T) → part (Ok w) → whole (Ok w)) → Only whole o → Only part o
smaller part whole (Ok v) h k = λ w d. k w (h w d)
smaller part whole (Err e) h k = tt

is_only : (o : Outcome) → Only (Is o) o
is_only (Ok v) = λ w e. cc
is_only (Err e) = tt

-- the errors of constant parts are no values
pub beside : (errors : Errors) (part : Outcomes) (o : Outcome) → Only part o → Only (λ u. Raises errors u ⊎ part u) o
beside errors part o h = smaller (λ u. Raises errors u ⊎ part u) part o (value_of errors part) h
  where
    value_of : (errors : Errors) (part : Outcomes) (w : Value) → Raises errors (Ok w) ⊎ part (Ok w) → part (Ok w)
    value_of errors part w (inl d) = absurd d
    value_of errors part w (inr d) = d

in_turn : (part : Outcomes) (next : Value → Outcomes) (o : Outcome) (f : Value → Outcome) → Only part o → ((x : Value) → Only (next x) (f x)) → Only (InTurn part next) (and_then o f)
in_turn part next (Err e) f h k = tt
in_turn part next (Ok x) f h k = smaller (InTurn part next) (next x) (f x) (reached part next x h) (k x)
  where
    reached : (part : Outcomes) (next : Value → Outcomes) (x : Value) → ((w : Value) → part (Ok w) → w ≡ x) → (w : Value) → InTurn part next (Ok w) → next x (Ok w)
    reached part next x h w (inl d) = absurd d
    reached part next x h w (inr d) = subst (λ y. next y (Ok w)) (h d.0 d.1) d.2

of_one : (part : Outcomes) (step : Value → Outcome) (o : Outcome) → Only part o → Only (OfOne part step) (and_then o step)
of_one part step o h = in_turn part (λ x. Is (step x)) o step h (λ x. is_only (step x))

two_value : (first second : Outcomes) (step : Value → Value → Outcome) (x y : Value) → ((w : Value) → first (Ok w) → w ≡ x) → ((w : Value) → second (Ok w) → w ≡ y) → (w : Value) → OfTwo first second step (Ok w) → Ok w ≡ step x y
two_value first second step x y h k w (inl d) = absurd d
two_value first second step x y h k w (inr (inl d)) = absurd d
two_value first second step x y h k w (inr (inr d)) = d.4 ∙ ap (λ z. step z d.1) (h d.0 d.2) ∙ ap (step x) (k d.1 d.3)

of_two : (first second : Outcomes) (step : Value → Value → Outcome) (o u : Outcome) → Only first o → Only second u → Only (OfTwo first second step) (and_then o (λ x. and_then u (step x)))
of_two first second step (Err e) u h k = tt
of_two first second step (Ok x) (Err e) h k = tt
of_two first second step (Ok x) (Ok y) h k = smaller (OfTwo first second step) (Is (step x y)) (step x y) (two_value first second step x y h k) (is_only (step x y))

many_value : (some : Outcomes) (each : List Value → Type 0) (step : List Value → Outcome) (xs : List Value) → ((ys : List Value) → each ys → ys ≡ xs) → (w : Value) → OfMany some each step (Ok w) → Ok w ≡ step xs
many_value some each step xs h w (inl d) = absurd d
many_value some each step xs h w (inr d) = d.2 ∙ ap step (h d.0 d.1)

-- of each part a value is the only one
abbrev pub OnlyEach : (List Value → Type 0) → Result (List Value) EvalError → Type 0
OnlyEach each (Ok xs) = (ys : List Value) → each ys → ys ≡ xs
OnlyEach each (Err e) = Unit {0}

of_many : (some : Outcomes) (each : List Value → Type 0) (step : List Value → Outcome) (o : Result (List Value) EvalError) → OnlyEach each o → Only (OfMany some each step) (and_then o step)
of_many some each step (Err e) h = tt
of_many some each step (Ok xs) h = smaller (OfMany some each step) (Is (step xs)) (step xs) (many_value some each step xs h) (is_only (step xs))

-- where a part permits null, so do the values have one
abbrev NullAmong : Type 0 → Result (List Value) EvalError → Type 0
NullAmong some (Ok xs) = some → has_null xs ≡ true
NullAmong some (Err e) = Unit {0}

or_right : (a b : Bool) → b ≡ true → (a || b) ≡ true
or_right true b h = refl
or_right false b h = h

null_among : (part : Outcomes) (some : Type 0) (o : Outcome) (os : Result (List Value) EvalError) → Only part o → NullAmong some os → NullAmong (part (Ok value.Null) ⊎ some) (joined o os)
null_among part some (Err e) os h k = tt
null_among part some (Ok x) (Err e) h k = tt
null_among part some (Ok x) (Ok xs) h k = λ d. by d
  where
    by : part (Ok value.Null) ⊎ some → (is_null x || has_null xs) ≡ true
    by (inl d) = subst (λ y. (is_null y || has_null xs) ≡ true) (h value.Null d) refl
    by (inr d) = or_right (is_null x) (has_null xs) (k d)

call_value : (p : Primitives) (callee : Callee) (some : Outcomes) (each : List Value → Type 0) (in_order : Outcomes) (xs : List Value) → (some (Ok value.Null) → has_null xs ≡ true) → ((ys : List Value) → each ys → ys ≡ xs) → (w : Value)
    → ManyPermit p (call callee) some each in_order (Ok w) → Ok w ≡ call_of p callee xs
call_value p callee some each in_order xs n h w (inl d) = rw (d.0, n d.2) d.1
call_value p callee some each in_order xs n h w (inr d) = many_value some each (call_of p callee) xs h w d

of_call : (p : Primitives) (callee : Callee) (some : Outcomes) (each : List Value → Type 0) (in_order : Outcomes) (o : Result (List Value) EvalError) → NullAmong (some (Ok value.Null)) o → OnlyEach each o → Only (ManyPermit p (call callee) some each in_order) (and_then o (call_of p callee))
of_call p callee some each in_order (Err e) n h = tt
of_call p callee some each in_order (Ok xs) n h = smaller (ManyPermit p (call callee) some each in_order) (Is (call_of p callee xs)) (call_of p callee xs) (call_value p callee some each in_order xs n h) (is_only (call_of p callee xs))

choice : (b : Bool) (this that : Outcomes) (o u : Outcome) → Only this o → Only that u → Only (Choice b this that) (if b then o else u)
choice true this that o u h k = h
choice false this that o u h k = k

-- AND and OR: what decides alone, and what comes of a value beside it
pub record Decides (by : Value) (decides : Value → Bool) (combined : Value → Value → Value) : Type 0 where
  pub one_value : (x : Value) → decides x ≡ true → x ≡ by
  pub itself : decides by ≡ true
  pub first : (x y : Value) → decides x ≡ true → combined x y ≡ x
  pub second : (x y : Value) → decides x ≡ false → decides y ≡ true → combined x y ≡ y

and_decides : Decides (value.Bool false) is_false and_of
and_decides = record { one_value = false_one; itself = refl; first = λ x y h. rw h refl; second = λ x y h k. rw (h, k) refl }

or_decides : Decides (value.Bool true) is_true or_of
or_decides = record { one_value = true_one; itself = refl; first = λ x y h. rw h refl; second = λ x y h k. rw (h, k) refl }

abbrev OfArms : Value → (Value → Value → Value) → Outcomes → Outcomes → Outcomes
OfArms by combined first second u = Decided by first second u ⊎ OfTwo first second (λ x y. Ok (combined x y)) u

ok_value : (w x : Value) → Is (Ok x) (Ok w) → w ≡ x
ok_value w x e = cc

first_decides : (by : Value) (decides : Value → Bool) (combined : Value → Value → Value) (first second : Outcomes) (x : Value) → Decides by decides combined → decides x ≡ true → ((w : Value) → first (Ok w) → w ≡ x) → (w : Value)
    → OfArms by combined first second (Ok w) → w ≡ x
first_decides by decides combined first second x law e h w (inl d) = ok_value w by d.0 ∙ sym (law.one_value x e)
first_decides by decides combined first second x law e h w (inr (inl d)) = absurd d
first_decides by decides combined first second x law e h w (inr (inr (inl d))) = absurd d
first_decides by decides combined first second x law e h w (inr (inr (inr d))) =
    ok_value w (combined d.0 d.1) d.4 ∙ ap (λ z. combined z d.1) (h d.0 d.2) ∙ law.first x d.1 e

false_true : false ≡ true → ⊥
false_true e = absurd cc

both_count : (by : Value) (decides : Value → Bool) (combined : Value → Value → Value) (first second : Outcomes) (x y : Value) → Decides by decides combined → decides x ≡ false → ((w : Value) → first (Ok w) → w ≡ x) → ((w : Value) → second (Ok w) → w ≡ y)
    → (w : Value) → OfArms by combined first second (Ok w) → Is (Ok (combined x y)) (Ok w)
both_count by decides combined first second x y law e h k w (inl d) = by_arm d.0 d.1
  where
    by_arm : Is (Ok by) (Ok w) → first (Ok by) ⊎ second (Ok by) → Is (Ok (combined x y)) (Ok w)
    by_arm said (inl c) = absurd (false_true (sym e ∙ ap decides (sym (h by c)) ∙ law.itself))
    by_arm said (inr c) = said ∙ ap Ok (k by c ∙ sym (law.second x y e (ap decides (sym (k by c)) ∙ law.itself)))
both_count by decides combined first second x y law e h k w (inr d) = two_value first second (λ x y. Ok (combined x y)) x y h k w d

arms : (by : Value) (decides : Value → Bool) (combined : Value → Value → Value) (first second : Outcomes) (o u : Outcome) → Decides by decides combined → Only first o → Only second u
    → Only (OfArms by combined first second) (and_then o (λ x. if decides x then Ok x else and_then u (λ y. Ok (combined x y))))
arms by decides combined first second (Err e) u law h k = tt
arms by decides combined first second (Ok x) u law h k = test (decides x) refl
  where
    second_arm : (u : Outcome) → decides x ≡ false → Only second u → Only (OfArms by combined first second) (and_then u (λ y. Ok (combined x y)))
    second_arm (Err e) said k = tt
    second_arm (Ok y) said k = smaller (OfArms by combined first second) (Is (Ok (combined x y))) (Ok (combined x y)) (both_count by decides combined first second x y law said h k) (is_only (Ok (combined x y)))

    test : (b : Bool) → decides x ≡ b → Only (OfArms by combined first second) (if decides x then Ok x else and_then u (λ y. Ok (combined x y)))
    test true e = rw e (first_decides by decides combined first second x law e h)
    test false e = rw e (second_arm u e k)

-- a null array or index gives null
no_array : (index : Value) → subscripted value.Null index ≡ value.Null
no_array (value.Int (pos (suc n))) = refl
no_array index = refl

no_element : (x index : Value) → (x ≡ value.Null) ⊎ (index ≡ value.Null) → subscripted x index ≡ value.Null
no_element x index (inl h) = ap (λ y. subscripted y index) h ∙ no_array index
no_element x index (inr h) = ap (subscripted x) h

subscript_value : (first second : Outcomes) (x index : Value) → ((w : Value) → first (Ok w) → w ≡ x) → ((w : Value) → second (Ok w) → w ≡ index) → (w : Value)
    → Decided value.Null first second (Ok w) ⊎ OfTwo first second (λ x index. Ok (subscripted x index)) (Ok w) → Is (Ok (subscripted x index)) (Ok w)
subscript_value first second x index h k w (inl d) = d.0 ∙ ap Ok (sym (no_element x index (by d.1)))
  where
    by : first (Ok value.Null) ⊎ second (Ok value.Null) → (x ≡ value.Null) ⊎ (index ≡ value.Null)
    by (inl c) = inl (sym (h value.Null c))
    by (inr c) = inr (sym (k value.Null c))
subscript_value first second x index h k w (inr d) = two_value first second (λ x index. Ok (subscripted x index)) x index h k w d

of_subscript : (first second : Outcomes) (o u : Outcome) → Only first o → Only second u
    → Only (λ r. Decided value.Null first second r ⊎ OfTwo first second (λ x index. Ok (subscripted x index)) r) (and_then o (λ x. and_then u (λ index. Ok (subscripted x index))))
of_subscript first second (Err e) u h k = tt
of_subscript first second (Ok x) (Err e) h k = tt
of_subscript first second (Ok x) (Ok index) h k = λ w d. ok_value w (subscripted x index) (subscript_value first second x index h k w d)

-- a value that isn't refused as null
kept_value : (x : Value) (check : Outcomes) (w : Value) → Raises (λ e. Is (Err e) (Ok x)) (Ok w) ⊎ OfOne check (checked_by x) (Ok w) → OfOne check (checked_by x) (Ok w)
kept_value x check w (inl d) = absurd d
kept_value x check w (inr d) = d

kept_check : (x : Value) (check : Outcomes) (run : Value → Outcome) → Only check (run x) → Only (λ u. Raises (λ e. Is (Err e) (Ok x)) u ⊎ OfOne check (checked_by x) u) (and_then (run x) (checked_by x))
kept_check x check run h = smaller (λ u. Raises (λ e. Is (Err e) (Ok x)) u ⊎ OfOne check (checked_by x) u) (OfOne check (checked_by x)) (and_then (run x) (checked_by x)) (kept_value x check) (of_one check (checked_by x) (run x) h)

check_value : (not_null : Bool) (x : Value) (check : Outcomes) (run : Value → Outcome) → Only check (run x) → Only (CheckPermits not_null x check) (and_then (kept_not_null not_null x) (λ z. and_then (run z) (checked_by z)))
check_value false x check run h = kept_check x check run h
check_value true value.Null check run h = tt
check_value true x check run h = kept_check x check run h

check_in_turn : (part : Outcomes) (o : Outcome) (not_null : Bool) (check : Value → Outcomes) (run : Value → Outcome) → Only part o → ((x : Value) → Only (check x) (run x))
    → Only (InTurn part (λ x. CheckPermits not_null x (check x))) (and_then (and_then o (kept_not_null not_null)) (λ x. and_then (run x) (checked_by x)))
check_in_turn part (Err e) not_null check run h k = tt
check_in_turn part (Ok x) not_null check run h k =
    in_turn part (λ x. CheckPermits not_null x (check x)) (Ok x) (λ x. and_then (kept_not_null not_null x) (λ z. and_then (run z) (checked_by z))) h (λ x. check_value not_null x (check x) run (k x))

each_of : (part : Outcomes) (each both : List Value → Type 0) (o : Outcome) (os : Result (List Value) EvalError) → (both [] → ⊥) → ((y : Value) (ys : List Value) → both (y ∷ ys) → part (Ok y) × each ys) → Only part o → OnlyEach each os
    → OnlyEach both (joined o os)
each_of part each both (Err e) os empty parts h k = tt
each_of part each both (Ok x) (Err e) empty parts h k = tt
each_of part each both (Ok x) (Ok xs) empty parts h k = by
  where
    by : (ys : List Value) → both ys → ys ≡ x ∷ xs
    by [] d = absurd (empty d)
    by (y ∷ ys) d = ap (λ z. z ∷ ys) (h y (parts y ys d).0) ∙ ap (λ zs. x ∷ zs) (k ys (parts y ys d).1)

module _ (p : Primitives) (row : List Value) where
  mutual
    pub only : (v : Value) (t : Term) → Only (Permits p row v t) (outcome p row v t)
    only v (leaf l ty) = beside (Within p row (leaf l ty)) (Is (leaf_outcome row v l)) (leaf_outcome row v l) (is_only (leaf_outcome row v l))
    only v (one step a ty) = beside (Within p row (one step a ty)) (OfOne (Permits p row v a) (one_step p step ty)) (outcome p row v (one step a ty))
        (of_one (Permits p row v a) (one_step p step ty) (outcome p row v a) (only v a))
    only v (two conjunction a b ty) = beside (Within p row (two conjunction a b ty)) (TwoPermits p conjunction (Permits p row v a) (Permits p row v b)) (outcome p row v (two conjunction a b ty))
        (arms (value.Bool false) is_false and_of (Permits p row v a) (Permits p row v b) (outcome p row v a) (outcome p row v b) and_decides (only v a) (only v b))
    only v (two disjunction a b ty) = beside (Within p row (two disjunction a b ty)) (TwoPermits p disjunction (Permits p row v a) (Permits p row v b)) (outcome p row v (two disjunction a b ty))
        (arms (value.Bool true) is_true or_of (Permits p row v a) (Permits p row v b) (outcome p row v a) (outcome p row v b) or_decides (only v a) (only v b))
    only v (two (null_if callee) a b ty) = beside (Within p row (two (null_if callee) a b ty)) (TwoPermits p (null_if callee) (Permits p row v a) (Permits p row v b)) (outcome p row v (two (null_if callee) a b ty))
        (of_two (Permits p row v a) (Permits p row v b) (null_if_of p callee) (outcome p row v a) (outcome p row v b) (only v a) (only v b))
    only v (two (distinct callee) a b ty) = beside (Within p row (two (distinct callee) a b ty)) (TwoPermits p (distinct callee) (Permits p row v a) (Permits p row v b)) (outcome p row v (two (distinct callee) a b ty))
        (of_two (Permits p row v a) (Permits p row v b) (distinct_of p callee) (outcome p row v a) (outcome p row v b) (only v a) (only v b))
    only v (two subscript a b ty) = beside (Within p row (two subscript a b ty)) (TwoPermits p subscript (Permits p row v a) (Permits p row v b)) (outcome p row v (two subscript a b ty))
        (of_subscript (Permits p row v a) (Permits p row v b) (outcome p row v a) (outcome p row v b) (only v a) (only v b))
    only v (many (call callee) args ty) = beside (Within p row (many (call callee) args ty)) (ManyPermit p (call callee) (SomePermits p row v args) (EachPermits p row v args) (FirstPermits p row v args)) (outcome p row v (many (call callee) args ty))
        (of_call p callee (SomePermits p row v args) (EachPermits p row v args) (FirstPermits p row v args) (outcomes p row v args) (null_in v args) (only_each v args))
    only v (many coalesce args ty) = beside (Within p row (many coalesce args ty)) (ManyPermit p coalesce (SomePermits p row v args) (EachPermits p row v args) (FirstPermits p row v args)) (outcome p row v (many coalesce args ty))
        (only_first v args)
    only v (many greatest args ty) = beside (Within p row (many greatest args ty)) (ManyPermit p greatest (SomePermits p row v args) (EachPermits p row v args) (FirstPermits p row v args)) (outcome p row v (many greatest args ty))
        (of_many (SomePermits p row v args) (EachPermits p row v args) (λ values. Ok (greatest_of values)) (outcomes p row v args) (only_each v args))
    only v (many least args ty) = beside (Within p row (many least args ty)) (ManyPermit p least (SomePermits p row v args) (EachPermits p row v args) (FirstPermits p row v args)) (outcome p row v (many least args ty))
        (of_many (SomePermits p row v args) (EachPermits p row v args) (λ values. Ok (least_of values)) (outcomes p row v args) (only_each v args))
    only v (many array args ty) = beside (Within p row (many array args ty)) (ManyPermit p array (SomePermits p row v args) (EachPermits p row v args) (FirstPermits p row v args)) (outcome p row v (many array args ty))
        (of_many (SomePermits p row v args) (EachPermits p row v args) array_of (outcomes p row v args) (only_each v args))
    only v (case arms other ty) = beside (Within p row (case arms other ty)) (ArmPermits p row v arms (Permits p row v other)) (outcome p row v (case arms other ty))
        (only_arm v arms other (only v other))
    only v (domain a number not_null ty) = beside (Within p row (domain a number not_null ty)) (OfOne (Permits p row v a) (kept_not_null not_null)) (outcome p row v (domain a number not_null ty))
        (of_one (Permits p row v a) (kept_not_null not_null) (outcome p row v a) (only v a))
    only v (checked a number not_null check ty) = beside (Within p row (checked a number not_null check ty)) (InTurn (Permits p row v a) (λ x. CheckPermits not_null x (Permits p row x check))) (outcome p row v (checked a number not_null check ty))
        (check_in_turn (Permits p row v a) (outcome p row v a) not_null (λ x. Permits p row x check) (λ x. outcome p row x check) (only v a) (λ x. only x check))

    pub only_each : (v : Value) (ts : Terms) → OnlyEach (EachPermits p row v ts) (outcomes p row v ts)
    only_each v none = λ ys h. h
    only_each v (more a rest) = each_of (Permits p row v a) (EachPermits p row v rest) (EachPermits p row v (more a rest)) (outcome p row v a) (outcomes p row v rest) (λ h. h) (λ y ys h. h) (only v a) (only_each v rest)

    null_in : (v : Value) (ts : Terms) → NullAmong (SomePermits p row v ts (Ok value.Null)) (outcomes p row v ts)
    null_in v none = λ h. absurd h
    null_in v (more a rest) = null_among (Permits p row v a) (SomePermits p row v rest (Ok value.Null)) (outcome p row v a) (outcomes p row v rest) (only v a) (null_in v rest)

    only_first : (v : Value) (ts : Terms) → Only (FirstPermits p row v ts) (first_outcome p row v ts)
    only_first v none = is_only (Ok value.Null)
    only_first v (more a rest) =
        in_turn (Permits p row v a) (λ x. Choice (is_null x) (FirstPermits p row v rest) (Is (Ok x))) (outcome p row v a) (λ x. if is_null x then first_outcome p row v rest else Ok x) (only v a)
        (λ x. choice (is_null x) (FirstPermits p row v rest) (Is (Ok x)) (first_outcome p row v rest) (Ok x) (only_first v rest) (is_only (Ok x)))

    only_arm : (v : Value) (arms : Arms) (other : Term) → Only (Permits p row v other) (outcome p row v other) → Only (ArmPermits p row v arms (Permits p row v other)) (arm_outcome p row v arms (outcome p row v other))
    only_arm v no_arm other h = h
    only_arm v (arm c r rest) other h =
        in_turn (Permits p row v c) (λ x. Choice (is_true x) (Permits p row v r) (ArmPermits p row v rest (Permits p row v other))) (outcome p row v c) (λ x. if is_true x then outcome p row v r else arm_outcome p row v rest (outcome p row v other)) (only v c)
        (λ x. choice (is_true x) (Permits p row v r) (ArmPermits p row v rest (Permits p row v other)) (outcome p row v r) (arm_outcome p row v rest (outcome p row v other)) (only v r) (only_arm v rest other h))
