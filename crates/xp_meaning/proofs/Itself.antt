-- The outcome from left to right is permitted.
use Rattle.std.proofs.Common.{◌≡◌, ◌⊎◌, inl, inr, List, ◌∷◌, Bool, true, false, Result, Ok, Err, refl, ap, subst, ◌&&◌}
use Rattle.std.specs.Prelude.{if◌then◌else◌}
use Rattle.xp_base.specs.FromLeft.{and_then, joined}
use Rattle.xp_base.specs.declared.codes.EvalError.{EvalError}
use Rattle.xp_value.specs.Null.{is_null}
use Rattle.xp_value.specs.declared.value.Value.{Value}
use Rattle.xp_value.specs.declared.value.Value.TheVariants as value
use Rattle.xp_tree.specs.Term.{Term, Terms, Arms, conjunction, disjunction, null_if, distinct, subscript, call, coalesce, greatest, least, array, leaf, one, two, many, case, domain, checked, none, more, no_arm, arm}
use Rattle.xp_meaning.specs.Meaning.{arm_outcome, first_outcome, outcome, outcomes}
use Rattle.xp_meaning.specs.Nodes.{array_of, call_of, checked_by, distinct_of, greatest_of, kept_not_null, least_of, null_if_of, one_step, subscripted}
use Rattle.xp_meaning.specs.Permits.{ArmPermits, CheckPermits, EachPermits, FirstPermits, Permits, PermitsAll, SomePermits}
use Rattle.xp_meaning.specs.Primitives.{Primitives}
use Rattle.xp_meaning.specs.Sets.{AllOf, Choice, Decided, InTurn, Is, OfMany, OfOne, OfTwo, Outcomes}
use Rattle.xp_meaning.specs.Truth.{Outcome, and_of, is_false, is_true, or_of}

in_turn : (part : Outcomes) (next : Value → Outcomes) (o : Outcome) (f : Value → Outcome) → part o → ((x : Value) → next x (f x)) → InTurn part next (and_then o f)
in_turn part next (Ok x) f h k = inr (x, h, k x)
in_turn part next (Err e) f h k = inl h

of_one : (part : Outcomes) (step : Value → Outcome) (o : Outcome) → part o → OfOne part step (and_then o step)
of_one part step o h = in_turn part (λ x. Is (step x)) o step h (λ x. refl)

of_two : (first second : Outcomes) (step : Value → Value → Outcome) (o u : Outcome) → first o → second u → OfTwo first second step (and_then o (λ x. and_then u (step x)))
of_two first second step (Ok x) (Ok y) h k = inr (inr (x, y, h, k, refl))
of_two first second step (Ok x) (Err e) h k = inr (inl k)
of_two first second step (Err e) u h k = inl h

of_many : (some : Outcomes) (each : List Value → Type 0) (step : List Value → Outcome) (o : Result (List Value) EvalError) → AllOf some each o → OfMany some each step (and_then o step)
of_many some each step (Ok xs) h = inr (xs, h, refl)
of_many some each step (Err e) h = inl h

choice : (b : Bool) (this that : Outcomes) (o u : Outcome) → this o → that u → Choice b this that (if b then o else u)
choice true this that o u h k = h
choice false this that o u h k = k

-- a first value that decides is the outcome, and else both are combined
decided : (by : Value) (decides : Value → Bool) (combined : Value → Value → Value) (first second : Outcomes) (o u : Outcome) → ((x : Value) → decides x ≡ true → x ≡ by) → first o → second u
    → Decided by first second (and_then o (λ x. if decides x then Ok x else and_then u (λ y. Ok (combined x y))))
    ⊎ OfTwo first second (λ x y. Ok (combined x y)) (and_then o (λ x. if decides x then Ok x else and_then u (λ y. Ok (combined x y))))
decided by decides combined first second (Err e) u only h k = inr (inl h)
decided by decides combined first second (Ok x) u only h k = test (decides x) refl
  where
    test : (b : Bool) → decides x ≡ b → Decided by first second (if decides x then Ok x else and_then u (λ y. Ok (combined x y))) ⊎ OfTwo first second (λ x y. Ok (combined x y)) (if decides x then Ok x else and_then u (λ y. Ok (combined x y)))
    test true e = rw e (inl (ap Ok (only x e), inl (subst (λ y. first (Ok y)) (only x e) h)))
    test false e = rw e (inr (of_two first second (λ x y. Ok (combined x y)) (Ok x) u h k))

pub false_one : (x : Value) → is_false x ≡ true → x ≡ value.Bool false
false_one (value.Bool false) h = refl
false_one x h = absurd cc

pub true_one : (x : Value) → is_true x ≡ true → x ≡ value.Bool true
true_one (value.Bool true) h = refl
true_one x h = absurd cc

check_permits : (not_null : Bool) (x : Value) (check : Outcomes) (run : Value → Outcome) → check (run x) → CheckPermits not_null x check (and_then (kept_not_null not_null x) (λ z. and_then (run z) (checked_by z)))
check_permits not_null x check run h = test (not_null && is_null x) refl
  where
    test : (b : Bool) → (not_null && is_null x) ≡ b → CheckPermits not_null x check (and_then (kept_not_null not_null x) (λ z. and_then (run z) (checked_by z)))
    test true e = rw e (inl refl)
    test false e = rw e (inr (of_one check (checked_by x) (run x) h))

check_in_turn : (part : Outcomes) (o : Outcome) (not_null : Bool) (check : Value → Outcomes) (run : Value → Outcome) → part o → ((x : Value) → check x (run x))
    → InTurn part (λ x. CheckPermits not_null x (check x)) (and_then (and_then o (kept_not_null not_null)) (λ x. and_then (run x) (checked_by x)))
check_in_turn part (Ok x) not_null check run h k = inr (x, h, check_permits not_null x (check x) run (k x))
check_in_turn part (Err e) not_null check run h k = inl h

joined_all : (part some : Outcomes) (each both : List Value → Type 0) (o : Outcome) (os : Result (List Value) EvalError) → ((x : Value) (xs : List Value) → part (Ok x) → each xs → both (x ∷ xs)) → part o → AllOf some each os
    → AllOf (λ u. part u ⊎ some u) both (joined o os)
joined_all part some each both (Ok x) (Ok xs) make h k = make x xs h k
joined_all part some each both (Ok x) (Err e) make h k = inr k
joined_all part some each both (Err e) os make h k = inl h

module _ (p : Primitives) (row : List Value) where
  mutual
    pub itself : (v : Value) (t : Term) → Permits p row v t (outcome p row v t)
    itself v (leaf l ty) = inr refl
    itself v (one step a ty) = inr (of_one (Permits p row v a) (one_step p step ty) (outcome p row v a) (itself v a))
    itself v (two conjunction a b ty) = inr (decided (value.Bool false) is_false and_of (Permits p row v a) (Permits p row v b) (outcome p row v a) (outcome p row v b) false_one (itself v a) (itself v b))
    itself v (two disjunction a b ty) = inr (decided (value.Bool true) is_true or_of (Permits p row v a) (Permits p row v b) (outcome p row v a) (outcome p row v b) true_one (itself v a) (itself v b))
    itself v (two (null_if callee) a b ty) = inr (of_two (Permits p row v a) (Permits p row v b) (null_if_of p callee) (outcome p row v a) (outcome p row v b) (itself v a) (itself v b))
    itself v (two (distinct callee) a b ty) = inr (of_two (Permits p row v a) (Permits p row v b) (distinct_of p callee) (outcome p row v a) (outcome p row v b) (itself v a) (itself v b))
    itself v (two subscript a b ty) = inr (inr (of_two (Permits p row v a) (Permits p row v b) (λ x index. Ok (subscripted x index)) (outcome p row v a) (outcome p row v b) (itself v a) (itself v b)))
    itself v (many (call callee) args ty) = inr (inr (of_many (SomePermits p row v args) (EachPermits p row v args) (call_of p callee) (outcomes p row v args) (all_itself v args)))
    itself v (many coalesce args ty) = inr (first_itself v args)
    itself v (many greatest args ty) = inr (of_many (SomePermits p row v args) (EachPermits p row v args) (λ values. Ok (greatest_of values)) (outcomes p row v args) (all_itself v args))
    itself v (many least args ty) = inr (of_many (SomePermits p row v args) (EachPermits p row v args) (λ values. Ok (least_of values)) (outcomes p row v args) (all_itself v args))
    itself v (many array args ty) = inr (of_many (SomePermits p row v args) (EachPermits p row v args) array_of (outcomes p row v args) (all_itself v args))
    itself v (case arms other ty) = inr (arm_itself v arms other (itself v other))
    itself v (domain a number not_null ty) = inr (of_one (Permits p row v a) (kept_not_null not_null) (outcome p row v a) (itself v a))
    itself v (checked a number not_null check ty) = inr (check_in_turn (Permits p row v a) (outcome p row v a) not_null (λ x. Permits p row x check) (λ x. outcome p row x check) (itself v a) (λ x. itself x check))

    pub all_itself : (v : Value) (ts : Terms) → PermitsAll p row v ts (outcomes p row v ts)
    all_itself v none = refl
    all_itself v (more a rest) =
        joined_all (Permits p row v a) (SomePermits p row v rest) (EachPermits p row v rest) (EachPermits p row v (more a rest)) (outcome p row v a) (outcomes p row v rest) (λ x xs h k. (h, k)) (itself v a) (all_itself v rest)

    first_itself : (v : Value) (ts : Terms) → FirstPermits p row v ts (first_outcome p row v ts)
    first_itself v none = refl
    first_itself v (more a rest) =
        in_turn (Permits p row v a) (λ x. Choice (is_null x) (FirstPermits p row v rest) (Is (Ok x))) (outcome p row v a) (λ x. if is_null x then first_outcome p row v rest else Ok x) (itself v a)
        (λ x. choice (is_null x) (FirstPermits p row v rest) (Is (Ok x)) (first_outcome p row v rest) (Ok x) (first_itself v rest) refl)

    arm_itself : (v : Value) (arms : Arms) (other : Term) → Permits p row v other (outcome p row v other) → ArmPermits p row v arms (Permits p row v other) (arm_outcome p row v arms (outcome p row v other))
    arm_itself v no_arm other h = h
    arm_itself v (arm c r rest) other h =
        in_turn (Permits p row v c) (λ x. Choice (is_true x) (Permits p row v r) (ArmPermits p row v rest (Permits p row v other))) (outcome p row v c) (λ x. if is_true x then outcome p row v r else arm_outcome p row v rest (outcome p row v other)) (itself v c)
        (λ x. choice (is_true x) (Permits p row v r) (ArmPermits p row v rest (Permits p row v other)) (outcome p row v r) (arm_outcome p row v rest (outcome p row v other)) (itself v r) (arm_itself v rest other h))
