-- Which outcomes of a tree are permitted at a row. Parts are evaluated in any order, and none that another part has decided need be: so one that raises may raise or not. Only CASE and COALESCE keep to their order, but their constant parts may be evaluated beforehand all the same (manual 4.2.14).
use Rattle.std.specs.Prelude.{◌≡◌, ◌⊎◌, List, [], ◌∷◌, Bool, true, Result, Ok, Err}
use Rattle.xp_base.specs.FromLeft.{and_then}
use Rattle.xp_base.specs.declared.codes.EvalError.{EvalError}
use Rattle.xp_value.specs.Null.{is_null}
use Rattle.xp_value.specs.declared.value.Value.{Value}
use Rattle.xp_value.specs.declared.value.Value.TheVariants as value
use Rattle.xp_tree.specs.Term.{Two, Many, Term, Terms, Arms, conjunction, disjunction, null_if, distinct, subscript, call, coalesce, greatest, least, array, leaf, one, two, many, case, domain, checked, none, more, no_arm, arm, is_const}
use Rattle.xp_meaning.specs.Meaning.{leaf_outcome}
use Rattle.xp_meaning.specs.Nodes.{array_of, call_of, checked_by, distinct_of, greatest_of, kept_not_null, least_of, null_if_of, one_step, subscripted}
use Rattle.xp_meaning.specs.Primitives.{Primitives}
use Rattle.xp_meaning.specs.Sets.{AllOf, Choice, Decided, Errors, InTurn, Is, OfMany, OfOne, OfTwo, Outcomes, Raises}
use Rattle.xp_meaning.specs.Truth.{Outcome, and_of, is_true, or_of}

-- AND is false where an arm is, OR true where one is, and a subscript null where the array or the index is
abbrev pub TwoPermits : Primitives → Two → Outcomes → Outcomes → Outcomes
TwoPermits p conjunction first second o = Decided (value.Bool Bool.false) first second o ⊎ OfTwo first second (λ x y. Ok (and_of x y)) o
TwoPermits p disjunction first second o = Decided (value.Bool Bool.true) first second o ⊎ OfTwo first second (λ x y. Ok (or_of x y)) o
TwoPermits p (null_if callee) first second o = OfTwo first second (null_if_of p callee) o
TwoPermits p (distinct callee) first second o = OfTwo first second (distinct_of p callee) o
TwoPermits p subscript first second o = Decided value.Null first second o ⊎ OfTwo first second (λ x index. Ok (subscripted x index)) o

-- of what some argument permits, of the values that each permits, and of what they permit in order; a strict call is null where an argument is
abbrev pub ManyPermit : Primitives → Many → Outcomes → (List Value → Type 0) → Outcomes → Outcomes
ManyPermit p (call callee) some each in_order o = ((callee.strict ≡ true) × (o ≡ Ok value.Null) × some (Ok value.Null)) ⊎ OfMany some each (call_of p callee) o
ManyPermit p coalesce some each in_order o = in_order o
ManyPermit p greatest some each in_order o = OfMany some each (λ values. Ok (greatest_of values)) o
ManyPermit p least some each in_order o = OfMany some each (λ values. Ok (least_of values)) o
ManyPermit p array some each in_order o = OfMany some each array_of o

-- a domain that is NOT NULL may refuse null before its check is looked at, or behind it
abbrev pub CheckPermits : Bool → Value → Outcomes → Outcomes
CheckPermits not_null x check o = Raises (λ e. kept_not_null not_null x ≡ Err e) o ⊎ OfOne check (λ y. and_then (kept_not_null not_null x) (λ z. checked_by z y)) o

-- any node permits each error that a constant part of it, anywhere, permits
abbrev pub OrEarly : Outcomes → Errors → Outcomes
OrEarly node within o = Raises within o ⊎ node o

-- an error of the tree, where it is constant, or of what is within it
abbrev pub OfConstant : Term → Outcomes → Errors → Errors
OfConstant t node within e = ((is_const t ≡ true) × OrEarly node within (Err e)) ⊎ within e

module _ (p : Primitives) (row : List Value) where
  abbrev mutual
    -- what the node makes of what its parts permit, where VALUE is v
    pub OfNode : Value → Term → Outcome → Type 0
    OfNode v (leaf l ty) o = o ≡ leaf_outcome row v l
    OfNode v (one step a ty) o = OfOne (OrEarly (OfNode v a) (Within a)) (one_step p step ty) o
    OfNode v (two step a b ty) o = TwoPermits p step (OrEarly (OfNode v a) (Within a)) (OrEarly (OfNode v b) (Within b)) o
    OfNode v (many step args ty) o = ManyPermit p step (SomePermits v args) (EachPermits v args) (FirstPermits v args) o
    OfNode v (case arms other ty) o = ArmPermits v arms (OrEarly (OfNode v other) (Within other)) o
    OfNode v (domain a number not_null ty) o = OfOne (OrEarly (OfNode v a) (Within a)) (kept_not_null not_null) o
    -- in the check VALUE is a value that the argument permits
    OfNode v (checked a number not_null check ty) o = InTurn (OrEarly (OfNode v a) (Within a)) (λ x. CheckPermits not_null x (OrEarly (OfNode x check) (Within check))) o

    -- one of the trees permits it
    pub SomePermits : Value → Terms → Outcome → Type 0
    SomePermits v none o = ⊥
    SomePermits v (more a rest) o = OrEarly (OfNode v a) (Within a) o ⊎ SomePermits v rest o

    -- each of the trees permits the value at its place
    pub EachPermits : Value → Terms → List Value → Type 0
    EachPermits v none xs = xs ≡ []
    EachPermits v (more a rest) [] = ⊥
    EachPermits v (more a rest) (x ∷ xs) = OrEarly (OfNode v a) (Within a) (Ok x) × EachPermits v rest xs

    -- the first that isn't null; a later one counts only behind nulls
    pub FirstPermits : Value → Terms → Outcome → Type 0
    FirstPermits v none o = o ≡ Ok value.Null
    FirstPermits v (more a rest) o = InTurn (OrEarly (OfNode v a) (Within a)) (λ x. Choice (is_null x) (FirstPermits v rest) (Is (Ok x))) o

    -- a result counts only behind a true condition, and a later arm only behind another
    pub ArmPermits : Value → Arms → Outcomes → Outcome → Type 0
    ArmPermits v no_arm other o = other o
    ArmPermits v (arm c r rest) other o = InTurn (OrEarly (OfNode v c) (Within c)) (λ x. Choice (is_true x) (OrEarly (OfNode v r) (Within r)) (ArmPermits v rest other)) o

    -- an error that a constant part permits, the tree itself left out; VALUE is no matter in a constant tree
    pub Within : Term → EvalError → Type 0
    Within (leaf l ty) e = ⊥
    Within (one step a ty) e = OfConstant a (OfNode value.Null a) (Within a) e
    Within (two step a b ty) e = OfConstant a (OfNode value.Null a) (Within a) e ⊎ OfConstant b (OfNode value.Null b) (Within b) e
    Within (many step args ty) e = WithinAll args e
    Within (case arms other ty) e = WithinArms arms e ⊎ OfConstant other (OfNode value.Null other) (Within other) e
    Within (domain a number not_null ty) e = OfConstant a (OfNode value.Null a) (Within a) e
    Within (checked a number not_null check ty) e = OfConstant a (OfNode value.Null a) (Within a) e ⊎ OfConstant check (OfNode value.Null check) (Within check) e

    pub WithinAll : Terms → EvalError → Type 0
    WithinAll none e = ⊥
    WithinAll (more a rest) e = OfConstant a (OfNode value.Null a) (Within a) e ⊎ WithinAll rest e

    pub WithinArms : Arms → EvalError → Type 0
    WithinArms no_arm e = ⊥
    WithinArms (arm c r rest) e = OfConstant c (OfNode value.Null c) (Within c) e ⊎ (OfConstant r (OfNode value.Null r) (Within r) e ⊎ WithinArms rest e)

  -- which outcomes are permitted of the tree, where VALUE is v
  abbrev pub Permits : Value → Term → Outcome → Type 0
  Permits v t o = OrEarly (OfNode v t) (Within t) o

  -- several trees: a value of each, or an error of one of them
  abbrev pub PermitsAll : Value → Terms → Result (List Value) EvalError → Type 0
  PermitsAll v trees = AllOf (SomePermits v trees) (EachPermits v trees)
