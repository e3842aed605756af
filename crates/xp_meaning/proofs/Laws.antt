-- What the outcome from left to right and the early errors are among those that are permitted.
use Rattle.std.proofs.Common.{◌≡◌, ◌⊎◌, inl, inr, List, [], ◌∷◌, ◌++◌, Bool, true, false, ◌&&◌, not, map, IfSome, Option, Some, None, Result, Ok, Err, refl, sym, ap, ◌∙◌, subst}
use Rattle.std.specs.Prelude.{if◌then◌else◌}
use Rattle.std.proofs.lemmas.Bool.{and_parts}
use Rattle.xp_base.specs.FromLeft.{and_then}
use Rattle.xp_base.specs.declared.codes.EvalError.{EvalError}
use Rattle.xp_value.specs.Null.{is_null}
use Rattle.xp_value.specs.declared.value.Value.{Value}
use Rattle.xp_value.specs.declared.value.Value.TheVariants as value
use Rattle.xp_tree.specs.Term.{Leaf, Term, Terms, Arms, constant, column, given, conjunction, disjunction, null_if, distinct, subscript, call, coalesce, greatest, least, array, leaf, one, two, many, case, domain, checked, none, more, no_arm, arm, is_const, is_fixed, all_fixed, arms_fixed, is_fixed_leaf, is_fixed_one, is_fixed_two, is_fixed_many, is_open}
use Rattle.xp_meaning.specs.Early.{at_once, early, early_all, early_arms, early_first, first_error, settles, whole_or}
use Rattle.xp_meaning.specs.Meaning.{arm_outcome, first_outcome, leaf_outcome, outcome, outcomes}
use Rattle.xp_meaning.specs.Nodes.{array_of, call_of, checked_by, distinct_of, greatest_of, kept_not_null, least_of, null_if_of, one_step, subscripted}
use Rattle.xp_meaning.specs.Permits.{OfConstant, OfNode, Permits, PermitsAll, SomePermits, Within, WithinAll, WithinArms}
use Rattle.xp_meaning.specs.Permitted.{EarlyIsPermitted, EarlyOfAllIsPermitted, IsPermitted, LeftIsPermitted, LeftOfAllIsPermitted}
use Rattle.xp_meaning.specs.Primitives.{Primitives}
use Rattle.xp_meaning.specs.Sets.{Errors}
use Rattle.xp_meaning.specs.Truth.{Outcome, and_of, is_false, is_true, or_of}
use Rattle.xp_meaning.proofs.Itself.{all_itself, itself}
use Rattle.xp_meaning.proofs.Only.{Only, OnlyEach, only, only_each}

-- ---- the outcome from left to right

both : (permits : Outcome → Type 0) (o : Outcome) → permits o → Only permits o → IsPermitted permits o
both permits (Ok v) h k = record { permitted = h; only = k }
both permits (Err e) h k = h

both_all : (p : Primitives) (row : List Value) (v : Value) (ts : Terms) (o : Result (List Value) EvalError) → PermitsAll p row v ts o → OnlyEach (λ xs. PermitsAll p row v ts (Ok xs)) o → IsPermitted (PermitsAll p row v ts) o
both_all p row v ts (Ok xs) h k = record { permitted = h; only = k }
both_all p row v ts (Err e) h k = h

pub left_permitted : LeftIsPermitted
left_permitted p row v t = both (Permits p row v t) (outcome p row v t) (itself p row v t) (only p row v t)

pub left_of_all_permitted : LeftOfAllIsPermitted
left_of_all_permitted p row v ts = both_all p row v ts (outcomes p row v ts) (all_itself p row v ts) (only_each p row v ts)

-- ---- no row changes a tree without columns

then_same : {T U : Type 0} (o u : Result T EvalError) (f g : T → Result U EvalError) → o ≡ u → ((x : T) → f x ≡ g x) → and_then o f ≡ and_then u g
then_same (Ok x) u f g e same = same x ∙ ap (λ r. and_then r g) e
then_same (Err d) u f g e same = ap (λ r. and_then r g) e

if_same : (b : Bool) (o o' u u' : Outcome) → o ≡ o' → u ≡ u' → (if b then o else u) ≡ (if b then o' else u')
if_same true o o' u u' e d = e
if_same false o o' u u' e d = d

leaf_same : (row : List Value) (v : Value) (l : Leaf) → is_fixed_leaf l ≡ true → leaf_outcome row v l ≡ leaf_outcome [] v l
leaf_same row v (constant c) h = refl
leaf_same row v (column number name) h = absurd cc
leaf_same row v given h = refl

both_same : {T U : Type 0} (o o' : Outcome) (us us' : Result T EvalError) (f : Value → T → Result U EvalError) → o ≡ o' → us ≡ us' → and_then o (λ x. and_then us (f x)) ≡ and_then o' (λ x. and_then us' (f x))
both_same o o' us us' f e d = then_same o o' (λ x. and_then us (f x)) (λ x. and_then us' (f x)) e (λ x. ap (λ r. and_then r (f x)) d)

module _ (p : Primitives) (row : List Value) where
  mutual
    no_row : (v : Value) (t : Term) → is_fixed t ≡ true → outcome p row v t ≡ outcome p [] v t
    no_row v (leaf l ty) h = leaf_same row v l h
    no_row v (one step a ty) h = ap (λ r. and_then r (one_step p step ty)) (no_row v a (and_parts (is_fixed_one step) (is_fixed a) h).1)
    no_row v (two conjunction a b ty) h =
        let parts = and_parts (is_fixed a) (is_fixed b) h in
        then_same (outcome p row v a) (outcome p [] v a) (λ x. if is_false x then Ok x else and_then (outcome p row v b) (λ y. Ok (and_of x y))) (λ x. if is_false x then Ok x else and_then (outcome p [] v b) (λ y. Ok (and_of x y))) (no_row v a parts.0)
        (λ x. if_same (is_false x) (Ok x) (Ok x) (and_then (outcome p row v b) (λ y. Ok (and_of x y))) (and_then (outcome p [] v b) (λ y. Ok (and_of x y))) refl (ap (λ r. and_then r (λ y. Ok (and_of x y))) (no_row v b parts.1)))
    no_row v (two disjunction a b ty) h =
        let parts = and_parts (is_fixed a) (is_fixed b) h in
        then_same (outcome p row v a) (outcome p [] v a) (λ x. if is_true x then Ok x else and_then (outcome p row v b) (λ y. Ok (or_of x y))) (λ x. if is_true x then Ok x else and_then (outcome p [] v b) (λ y. Ok (or_of x y))) (no_row v a parts.0)
        (λ x. if_same (is_true x) (Ok x) (Ok x) (and_then (outcome p row v b) (λ y. Ok (or_of x y))) (and_then (outcome p [] v b) (λ y. Ok (or_of x y))) refl (ap (λ r. and_then r (λ y. Ok (or_of x y))) (no_row v b parts.1)))
    no_row v (two (null_if callee) a b ty) h =
        let parts = and_parts (is_fixed a) (is_fixed b) (and_parts (is_fixed_two (null_if callee)) (is_fixed a && is_fixed b) h).1 in
        both_same (outcome p row v a) (outcome p [] v a) (outcome p row v b) (outcome p [] v b) (null_if_of p callee) (no_row v a parts.0) (no_row v b parts.1)
    no_row v (two (distinct callee) a b ty) h =
        let parts = and_parts (is_fixed a) (is_fixed b) (and_parts (is_fixed_two (distinct callee)) (is_fixed a && is_fixed b) h).1 in
        both_same (outcome p row v a) (outcome p [] v a) (outcome p row v b) (outcome p [] v b) (distinct_of p callee) (no_row v a parts.0) (no_row v b parts.1)
    no_row v (two subscript a b ty) h =
        let parts = and_parts (is_fixed a) (is_fixed b) h in
        both_same (outcome p row v a) (outcome p [] v a) (outcome p row v b) (outcome p [] v b) (λ x index. Ok (subscripted x index)) (no_row v a parts.0) (no_row v b parts.1)
    no_row v (many (call callee) args ty) h = ap (λ r. and_then r (call_of p callee)) (no_row_all v args (and_parts (is_fixed_many (call callee)) (all_fixed args) h).1)
    no_row v (many coalesce args ty) h = no_row_first v args h
    no_row v (many greatest args ty) h = ap (λ r. and_then r (λ values. Ok (greatest_of values))) (no_row_all v args h)
    no_row v (many least args ty) h = ap (λ r. and_then r (λ values. Ok (least_of values))) (no_row_all v args h)
    no_row v (many array args ty) h = ap (λ r. and_then r array_of) (no_row_all v args h)
    no_row v (case arms other ty) h =
        let parts = and_parts (arms_fixed arms) (is_fixed other) h in
        no_row_arms v arms (outcome p row v other) (outcome p [] v other) parts.0 (no_row v other parts.1)
    no_row v (domain a number not_null ty) h = ap (λ r. and_then r (kept_not_null not_null)) (no_row v a h)
    no_row v (checked a number not_null check ty) h =
        let parts = and_parts (is_fixed a) (is_fixed check) h in
        then_same (and_then (outcome p row v a) (kept_not_null not_null)) (and_then (outcome p [] v a) (kept_not_null not_null)) (λ x. and_then (outcome p row x check) (checked_by x)) (λ x. and_then (outcome p [] x check) (checked_by x))
        (ap (λ r. and_then r (kept_not_null not_null)) (no_row v a parts.0)) (λ x. ap (λ r. and_then r (checked_by x)) (no_row x check parts.1))

    no_row_all : (v : Value) (ts : Terms) → all_fixed ts ≡ true → outcomes p row v ts ≡ outcomes p [] v ts
    no_row_all v none h = refl
    no_row_all v (more a rest) h =
        let parts = and_parts (is_fixed a) (all_fixed rest) h in
        both_same (outcome p row v a) (outcome p [] v a) (outcomes p row v rest) (outcomes p [] v rest) (λ x xs. Ok (x ∷ xs)) (no_row v a parts.0) (no_row_all v rest parts.1)

    no_row_first : (v : Value) (ts : Terms) → all_fixed ts ≡ true → first_outcome p row v ts ≡ first_outcome p [] v ts
    no_row_first v none h = refl
    no_row_first v (more a rest) h =
        let parts = and_parts (is_fixed a) (all_fixed rest) h in
        then_same (outcome p row v a) (outcome p [] v a) (λ x. if is_null x then first_outcome p row v rest else Ok x) (λ x. if is_null x then first_outcome p [] v rest else Ok x) (no_row v a parts.0)
        (λ x. if_same (is_null x) (first_outcome p row v rest) (first_outcome p [] v rest) (Ok x) (Ok x) (no_row_first v rest parts.1) refl)

    no_row_arms : (v : Value) (arms : Arms) (o o' : Outcome) → arms_fixed arms ≡ true → o ≡ o' → arm_outcome p row v arms o ≡ arm_outcome p [] v arms o'
    no_row_arms v no_arm o o' h e = e
    no_row_arms v (arm c r rest) o o' h e =
        let parts = and_parts (is_fixed c && is_fixed r) (arms_fixed rest) h in
        let front = and_parts (is_fixed c) (is_fixed r) parts.0 in
        then_same (outcome p row v c) (outcome p [] v c) (λ x. if is_true x then outcome p row v r else arm_outcome p row v rest o) (λ x. if is_true x then outcome p [] v r else arm_outcome p [] v rest o') (no_row v c front.0)
        (λ x. if_same (is_true x) (outcome p row v r) (outcome p [] v r) (arm_outcome p row v rest o) (arm_outcome p [] v rest o') (no_row v r front.1) (no_row_arms v rest o o' parts.1 e))

-- ---- early errors

split : (xs ys : List Outcome) (e : EvalError) → first_error (xs ++ ys) ≡ Some e → (first_error xs ≡ Some e) ⊎ (first_error ys ≡ Some e)
split [] ys e h = inr h
split (Ok v ∷ xs) ys e h = split xs ys e h
split (Err d ∷ xs) ys e h = inl h

pub mapped : (f : Term → Outcome) (ts us : List Term) → map f (ts ++ us) ≡ map f ts ++ map f us
mapped f [] us = refl
mapped f (t ∷ ts) us = ap (λ rest. f t ∷ rest) (mapped f ts us)

module _ (p : Primitives) where
  -- the first error of the trees is among these
  abbrev RaiseIn : List Term → Errors → Type 0
  RaiseIn ts errors = (e : EvalError) → first_error (map (at_once p) ts) ≡ Some e → errors e

  nothing : (errors : Errors) → RaiseIn [] errors
  nothing errors e h = absurd cc

  behind : (ts us : List Term) (first second : Errors) → RaiseIn ts first → RaiseIn us second → RaiseIn (ts ++ us) (λ e. first e ⊎ second e)
  behind ts us first second h k e is = by (split (map (at_once p) ts) (map (at_once p) us) e (ap first_error (sym (mapped (at_once p) ts us)) ∙ is))
    where
      by : (first_error (map (at_once p) ts) ≡ Some e) ⊎ (first_error (map (at_once p) us) ≡ Some e) → first e ⊎ second e
      by (inl d) = inl (h e d)
      by (inr d) = inr (k e d)

  unless : (b : Bool) (ts : List Term) (errors : Errors) → RaiseIn ts errors → RaiseIn (if b then [] else ts) errors
  unless true ts errors h = nothing errors
  unless false ts errors h = h

module _ (p : Primitives) (row : List Value) where
  constant_permits : (t : Term) (e : EvalError) → is_const t ≡ true → first_error (at_once p t ∷ []) ≡ Some e → Permits p row value.Null t (Err e)
  constant_permits t e h is =
      subst (Permits p row value.Null t) (no_row p row value.Null t (and_parts (is_fixed t) (not (is_open t)) h).0 ∙ raised (at_once p t) is) (itself p row value.Null t)
    where
      raised : (o : Outcome) → first_error (o ∷ []) ≡ Some e → o ≡ Err e
      raised (Ok v) is = absurd cc
      raised (Err d) is = cc

  -- the errors of the tree where it is constant, and of its constant parts
  abbrev Constant : Term → EvalError → Type 0
  Constant t = OfConstant t (OfNode p row value.Null t) (Within p row t)

  whole : (t : Term) (parts : List Term) → RaiseIn p parts (Within p row t) → RaiseIn p (whole_or p t parts) (Constant t)
  whole t parts h = by (is_const t) refl
    where
      by : (b : Bool) → is_const t ≡ b → RaiseIn p (whole_or p t parts) (Constant t)
      by true is e = rw is (λ raised. inl (refl, constant_permits t e is raised))
      by false is e = rw is (λ raised. inr (h e raised))

  regroup : {A B C D : Type 0} → A ⊎ (B ⊎ (C ⊎ D)) → (A ⊎ (B ⊎ C)) ⊎ D
  regroup (inl a) = inl (inl a)
  regroup (inr (inl b)) = inl (inr (inl b))
  regroup (inr (inr (inl c))) = inl (inr (inr c))
  regroup (inr (inr (inr d))) = inr d

  mutual
    early_in : (t : Term) → RaiseIn p (early p t) (Constant t)
    early_in (leaf l ty) = whole (leaf l ty) [] (nothing p (Within p row (leaf l ty)))
    early_in (one step a ty) = whole (one step a ty) (early p a) (early_in a)
    early_in (two conjunction a b ty) =
        whole (two conjunction a b ty) (early p a ++ (if settles p is_false a then [] else early p b))
        (behind p (early p a) (if settles p is_false a then [] else early p b) (Constant a) (Constant b) (early_in a) (unless p (settles p is_false a) (early p b) (Constant b) (early_in b)))
    early_in (two disjunction a b ty) =
        whole (two disjunction a b ty) (early p a ++ (if settles p is_true a then [] else early p b))
        (behind p (early p a) (if settles p is_true a then [] else early p b) (Constant a) (Constant b) (early_in a) (unless p (settles p is_true a) (early p b) (Constant b) (early_in b)))
    early_in (two (null_if callee) a b ty) = whole (two (null_if callee) a b ty) (early p a ++ early p b) (behind p (early p a) (early p b) (Constant a) (Constant b) (early_in a) (early_in b))
    early_in (two (distinct callee) a b ty) = whole (two (distinct callee) a b ty) (early p a ++ early p b) (behind p (early p a) (early p b) (Constant a) (Constant b) (early_in a) (early_in b))
    early_in (two subscript a b ty) = whole (two subscript a b ty) (early p a ++ early p b) (behind p (early p a) (early p b) (Constant a) (Constant b) (early_in a) (early_in b))
    early_in (many (call callee) args ty) = whole (many (call callee) args ty) (early_all p args) (early_all_in args)
    early_in (many coalesce args ty) = whole (many coalesce args ty) (early_first p args) (early_first_in args)
    early_in (many greatest args ty) = whole (many greatest args ty) (early_all p args) (early_all_in args)
    early_in (many least args ty) = whole (many least args ty) (early_all p args) (early_all_in args)
    early_in (many array args ty) = whole (many array args ty) (early_all p args) (early_all_in args)
    early_in (case arms other ty) = whole (case arms other ty) (early_arms p arms (early p other)) (early_arms_in arms other (early_in other))
    early_in (domain a number not_null ty) = whole (domain a number not_null ty) (early p a) (early_in a)
    early_in (checked a number not_null check ty) = whole (checked a number not_null check ty) (early p a ++ early p check) (behind p (early p a) (early p check) (Constant a) (Constant check) (early_in a) (early_in check))

    early_all_in : (ts : Terms) → RaiseIn p (early_all p ts) (WithinAll p row ts)
    early_all_in none = nothing p (WithinAll p row none)
    early_all_in (more a rest) = behind p (early p a) (early_all p rest) (Constant a) (WithinAll p row rest) (early_in a) (early_all_in rest)

    early_first_in : (ts : Terms) → RaiseIn p (early_first p ts) (WithinAll p row ts)
    early_first_in none = nothing p (WithinAll p row none)
    early_first_in (more a rest) =
        behind p (early p a) (if settles p (λ v. not (is_null v)) a then [] else early_first p rest) (Constant a) (WithinAll p row rest) (early_in a) (unless p (settles p (λ v. not (is_null v)) a) (early_first p rest) (WithinAll p row rest) (early_first_in rest))

    early_arms_in : (arms : Arms) (other : Term) → RaiseIn p (early p other) (Constant other) → RaiseIn p (early_arms p arms (early p other)) (λ e. WithinArms p row arms e ⊎ Constant other e)
    early_arms_in no_arm other h e is = inr (h e is)
    early_arms_in (arm c r rest) other h e is =
        regroup (behind p (early p c) ((if settles p (λ v. not (is_true v)) c then [] else early p r) ++ (if settles p is_true c then [] else early_arms p rest (early p other))) (Constant c) (λ e. Constant r e ⊎ (WithinArms p row rest e ⊎ Constant other e)) (early_in c)
        (behind p (if settles p (λ v. not (is_true v)) c then [] else early p r) (if settles p is_true c then [] else early_arms p rest (early p other)) (Constant r) (λ e. WithinArms p row rest e ⊎ Constant other e)
        (unless p (settles p (λ v. not (is_true v)) c) (early p r) (Constant r) (early_in r))
        (unless p (settles p is_true c) (early_arms p rest (early p other)) (λ e. WithinArms p row rest e ⊎ Constant other e) (early_arms_in rest other h))) e is)

  of_constant : (t : Term) (e : EvalError) → Constant t e → Permits p row value.Null t (Err e)
  of_constant t e (inl h) = h.1
  of_constant t e (inr h) = inl h

  some_permits : (ts : Terms) (e : EvalError) → WithinAll p row ts e → SomePermits p row value.Null ts (Err e)
  some_permits none e h = absurd h
  some_permits (more a rest) e (inl h) = inl (of_constant a e h)
  some_permits (more a rest) e (inr h) = inr (some_permits rest e h)

if_some : (o : Option EvalError) (errors : Errors) → ((e : EvalError) → o ≡ Some e → errors e) → IfSome o errors
if_some (Some e) errors h = h e refl
if_some None errors h = tt

pub early_permitted : EarlyIsPermitted
early_permitted p row t = if_some (first_error (map (at_once p) (early p t))) (λ e. Permits p row value.Null t (Err e)) (λ e is. of_constant p row t e (early_in p row t e is))

pub early_of_all_permitted : EarlyOfAllIsPermitted
early_of_all_permitted p row ts = if_some (first_error (map (at_once p) (early_all p ts))) (λ e. SomePermits p row value.Null ts (Err e)) (λ e is. some_permits p row ts e (early_all_in p row ts e is))
