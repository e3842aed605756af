-- The parts of a tree that are evaluated before any row is looked at, in order (manual 4.2.14; which parts is this project's own).
use Rattle.std.specs.Prelude.{Bool, ◌&&◌, not, List, [], ◌∷◌, ◌++◌, Option, Some, None, Ok, Err, if◌then◌else◌}
use Rattle.xp_base.specs.declared.codes.EvalError.{EvalError}
use Rattle.xp_value.specs.Null.{is_null}
use Rattle.xp_value.specs.declared.value.Value.{Value}
use Rattle.xp_value.specs.declared.value.Value.TheVariants as value
use Rattle.xp_tree.specs.Term.{Term, Terms, Arms, conjunction, disjunction, null_if, distinct, subscript, call, coalesce, greatest, least, array, leaf, one, two, many, case, domain, checked, none, more, no_arm, arm, is_const}
use Rattle.xp_meaning.specs.Meaning.{outcome}
use Rattle.xp_meaning.specs.Primitives.{Primitives}
use Rattle.xp_meaning.specs.Truth.{Outcome, is_false, is_true}

abbrev pub holds : (Value → Bool) → Outcome → Bool
holds test (Ok v) = test v
holds test (Err e) = Bool.false

-- the first error, of outcomes in order
abbrev pub first_error : List Outcome → Option EvalError
first_error [] = None
first_error (Ok v ∷ later) = first_error later
first_error (Err e ∷ later) = Some e

module _ (p : Primitives) where
  -- the outcome of a constant tree, which no row changes
  abbrev pub at_once : Term → Outcome
  at_once t = outcome p [] value.Null t

  -- it is constant, and its value is so
  abbrev pub settles : (Value → Bool) → Term → Bool
  settles test t = is_const t && holds test (at_once t)

  -- the tree itself where it is constant, and else these parts
  abbrev pub whole_or : Term → List Term → List Term
  whole_or t parts = if is_const t then t ∷ [] else parts

  abbrev mutual
    pub early : Term → List Term
    early (leaf l ty) = whole_or (leaf l ty) []
    early (one o a ty) = whole_or (one o a ty) (early a)
    -- an arm behind a constant one that decides is never reached
    early (two conjunction a b ty) = whole_or (two conjunction a b ty) (early a ++ (if settles is_false a then [] else early b))
    early (two disjunction a b ty) = whole_or (two disjunction a b ty) (early a ++ (if settles is_true a then [] else early b))
    early (two (null_if callee) a b ty) = whole_or (two (null_if callee) a b ty) (early a ++ early b)
    early (two (distinct callee) a b ty) = whole_or (two (distinct callee) a b ty) (early a ++ early b)
    early (two subscript a b ty) = whole_or (two subscript a b ty) (early a ++ early b)
    early (many (call callee) args ty) = whole_or (many (call callee) args ty) (early_all args)
    early (many coalesce args ty) = whole_or (many coalesce args ty) (early_first args)
    early (many greatest args ty) = whole_or (many greatest args ty) (early_all args)
    early (many least args ty) = whole_or (many least args ty) (early_all args)
    early (many array args ty) = whole_or (many array args ty) (early_all args)
    early (case arms other ty) = whole_or (case arms other ty) (early_arms arms (early other))
    early (domain a number not_null ty) = whole_or (domain a number not_null ty) (early a)
    -- the check is the last part
    early (checked a number not_null check ty) = whole_or (checked a number not_null check ty) (early a ++ early check)

    pub early_all : Terms → List Term
    early_all none = []
    early_all (more a rest) = early a ++ early_all rest

    -- up to a constant argument that isn't null
    pub early_first : Terms → List Term
    early_first none = []
    early_first (more a rest) = early a ++ (if settles (λ v. not (is_null v)) a then [] else early_first rest)

    -- a result behind a constant condition that isn't true is never reached, nor is what stands behind a constant true one
    pub early_arms : Arms → List Term → List Term
    early_arms no_arm other = other
    early_arms (arm c r rest) other = early c ++ ((if settles (λ v. not (is_true v)) c then [] else early r) ++ (if settles is_true c then [] else early_arms rest other))
