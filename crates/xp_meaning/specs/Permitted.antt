-- What is said is permitted, and a value is the only one that is (manual 4.2.14).
use Rattle.std.specs.Prelude.{◌≡◌, List, IfSome, Result, Ok, Err, map}
use Rattle.xp_base.specs.declared.codes.EvalError.{EvalError}
use Rattle.xp_value.specs.declared.value.Value.{Value}
use Rattle.xp_value.specs.declared.value.Value.TheVariants as value
use Rattle.xp_tree.specs.Term.{Term, Terms}
use Rattle.xp_meaning.specs.Early.{at_once, early, early_all, first_error}
use Rattle.xp_meaning.specs.Meaning.{outcome, outcomes}
use Rattle.xp_meaning.specs.Permits.{Permits, PermitsAll, SomePermits}
use Rattle.xp_meaning.specs.Primitives.{Primitives}

-- the value, and no other, is permitted; errors may be beside it
pub record IsOnlyValue {T : Type 0} (permits : Result T EvalError → Type 0) (v : T) : Type 0 where
  pub permitted : permits (Ok v)
  pub only : (w : T) → permits (Ok w) → w ≡ v

abbrev pub IsPermitted : {T : Type 0} → (Result T EvalError → Type 0) → Result T EvalError → Type 0
IsPermitted permits (Ok v) = IsOnlyValue permits v
IsPermitted permits (Err e) = permits (Err e)

-- the outcome from left to right, of a tree and of several
abbrev pub LeftIsPermitted : Type 0
LeftIsPermitted = (p : Primitives) (row : List Value) (v : Value) (t : Term) → IsPermitted (Permits p row v t) (outcome p row v t)

abbrev pub LeftOfAllIsPermitted : Type 0
LeftOfAllIsPermitted = (p : Primitives) (row : List Value) (v : Value) (ts : Terms) → IsPermitted (PermitsAll p row v ts) (outcomes p row v ts)

-- the first error of the early parts, which no row changes, is permitted at each
abbrev pub EarlyIsPermitted : Type 0
EarlyIsPermitted = (p : Primitives) (row : List Value) (t : Term) → IfSome (first_error (map (at_once p) (early p t))) (λ e. Permits p row value.Null t (Err e))

abbrev pub EarlyOfAllIsPermitted : Type 0
EarlyOfAllIsPermitted = (p : Primitives) (row : List Value) (ts : Terms) → IfSome (first_error (map (at_once p) (early_all p ts))) (λ e. SomePermits p row value.Null ts (Err e))
