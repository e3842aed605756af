-- What a tree gives at a row, from left to right (manual 4.2.14, 9.1, 9.2, 9.18; the order is this project's own).
use Rattle.std.specs.Prelude.{List, [], Result, Ok, slice_get, unwrap_or, if◌then◌else◌}
use Rattle.xp_base.specs.FromLeft.{and_then, joined}
use Rattle.xp_base.specs.declared.codes.EvalError.{EvalError}
use Rattle.xp_value.specs.Null.{is_null}
use Rattle.xp_value.specs.declared.value.Value.{Value}
use Rattle.xp_value.specs.declared.value.Value.TheVariants as value
use Rattle.xp_tree.specs.Term.{Leaf, Term, Terms, Arms, constant, column, given, conjunction, disjunction, null_if, distinct, subscript, call, coalesce, greatest, least, array, leaf, one, two, many, case, domain, checked, none, more, no_arm, arm}
use Rattle.xp_meaning.specs.Nodes.{array_of, call_of, checked_by, distinct_of, greatest_of, kept_not_null, least_of, null_if_of, one_step, subscripted}
use Rattle.xp_meaning.specs.Primitives.{Primitives}
use Rattle.xp_meaning.specs.Truth.{Outcome, and_of, is_false, is_true, or_of}

-- a column's value; VALUE is v
abbrev pub leaf_outcome : List Value → Value → Leaf → Outcome
leaf_outcome row v (constant c) = Ok c
leaf_outcome row v (column number name) = Ok (unwrap_or (slice_get row number) value.Null)
leaf_outcome row v given = Ok v

module _ (p : Primitives) (row : List Value) where
  abbrev mutual
    -- an error of a part that is evaluated is the outcome
    pub outcome : Value → Term → Outcome
    outcome v (leaf l ty) = leaf_outcome row v l
    outcome v (one step a ty) = and_then (outcome v a) (one_step p step ty)
    -- AND stops at false, and OR at true
    outcome v (two conjunction a b ty) = and_then (outcome v a) (λ x. if is_false x then Ok x else and_then (outcome v b) (λ y. Ok (and_of x y)))
    outcome v (two disjunction a b ty) = and_then (outcome v a) (λ x. if is_true x then Ok x else and_then (outcome v b) (λ y. Ok (or_of x y)))
    outcome v (two (null_if callee) a b ty) = and_then (outcome v a) (λ x. and_then (outcome v b) (null_if_of p callee x))
    outcome v (two (distinct callee) a b ty) = and_then (outcome v a) (λ x. and_then (outcome v b) (distinct_of p callee x))
    outcome v (two subscript a b ty) = and_then (outcome v a) (λ x. and_then (outcome v b) (λ index. Ok (subscripted x index)))
    outcome v (many (call callee) args ty) = and_then (outcomes v args) (call_of p callee)
    -- COALESCE stops at its choice
    outcome v (many coalesce args ty) = first_outcome v args
    outcome v (many greatest args ty) = and_then (outcomes v args) (λ values. Ok (greatest_of values))
    outcome v (many least args ty) = and_then (outcomes v args) (λ values. Ok (least_of values))
    outcome v (many array args ty) = and_then (outcomes v args) array_of
    outcome v (case arms other ty) = arm_outcome v arms (outcome v other)
    outcome v (domain a number not_null ty) = and_then (outcome v a) (kept_not_null not_null)
    -- NOT NULL comes before the check, in which VALUE is the argument's value
    outcome v (checked a number not_null check ty) = and_then (and_then (outcome v a) (kept_not_null not_null)) (λ x. and_then (outcome x check) (checked_by x))

    -- all of them, from left to right
    pub outcomes : Value → Terms → Result (List Value) EvalError
    outcomes v none = Ok []
    outcomes v (more a rest) = joined (outcome v a) (outcomes v rest)

    -- the first that isn't null
    pub first_outcome : Value → Terms → Outcome
    first_outcome v none = Ok value.Null
    first_outcome v (more a rest) = and_then (outcome v a) (λ x. if is_null x then first_outcome v rest else Ok x)

    -- the result of the first arm whose condition is true, or else ELSE's
    pub arm_outcome : Value → Arms → Outcome → Outcome
    arm_outcome v no_arm other = other
    arm_outcome v (arm c r rest) other = and_then (outcome v c) (λ x. if is_true x then outcome v r else arm_outcome v rest other)
