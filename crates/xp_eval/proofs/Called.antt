-- Outcomes one after the other, and what is answered of them.
use Rattle.std.proofs.Common.{◌≡◌, ◌⊎◌, inl, inr, ◌<◌, ◌≤◌, [], ◌∷◌, length, get_or, Bool, refl, sym, ap, Option, Some, None, Result, Ok, Err, arith}
use Rattle.xp_base.specs.declared.codes.EvalError.{EvalError}
use Rattle.std.specs.Prelude.{List}
use Rattle.xp_value.specs.declared.value.Value.{Value}
use Rattle.xp_tree.specs.declared.node.Node.{Node}
use Rattle.xp_tree.specs.declared.node.Node.TheVariants as node
use Rattle.xp_tree.specs.declared.parts.Callee.{Callee}
use Rattle.xp_tree.specs.declared.parts.Modifier.{Modifier}
use Rattle.xp_base.specs.FromLeft.{and_then}
use Rattle.xp_base.specs.declared.numbers.RowNo.{RowNo}
use Rattle.xp_tree.specs.declared.parts.NodeType.{NodeType}
use Rattle.xp_tree.specs.Term.{One, Term, input, is_false, is_null, is_true, is_unknown, negation, one, output, relabel, sizing, terms}
use Rattle.xp_tree.specs.View.{checked_by, term_of}
use Rattle.xp_meaning.specs.Meaning.{outcome, outcomes}
use Rattle.xp_meaning.specs.Nodes as nodes
use Rattle.xp_meaning.specs.Nodes.{call_of, kept_not_null, one_step}
use Rattle.xp_meaning.specs.Truth.{Outcome}
use Rattle.xp_eval.specs.Real.{real}
use Rattle.xp_eval.specs.inner.Steps.{Steps}
use Rattle.xp_call.specs.Calls.{Calls, answered}
use Rattle.xp_call.specs.declared.fault.CallFault.{CallFault}
use Rattle.xp_call.specs.declared.fault.CallFault.TheVariants as fault

pub answered_ok : {T : Type 0} (o : Result T EvalError) (v : T) → answered o ≡ Ok v → o ≡ Ok v
answered_ok (Ok w) v h = cc
answered_ok (Err e) v h = absurd cc

pub answered_err : {T : Type 0} (o : Result T EvalError) (e : EvalError) → answered o ≡ Err (fault.Raised e) → o ≡ Err e
answered_err (Ok w) e h = absurd cc
answered_err (Err d) e h = cc

-- the next step, of a value
pub calls_then : {T U : Type 0} (o : Result T EvalError) (f : T → Result U EvalError) (v : T) (r : Result U CallFault) → Calls o (Ok v) → Calls (f v) r → Calls (and_then o f) r
calls_then o f v r h k = rw (answered_ok o v h) k

-- no step behind a fault
pub calls_stop : {T U : Type 0} (o : Result T EvalError) (f : T → Result U EvalError) (e : CallFault) → Calls o (Err e) → Calls (and_then o f) (Err e)
calls_stop o f fault.Memory h = tt
calls_stop o f (fault.Raised e) h = rw (answered_err o e h) refl

-- a node over one tree
step_answer : (row : List Value) (v : Value) (o : One) (a : Term) (ty : NodeType) (x : Value) (r : Result Value CallFault) → Calls (outcome real row v a) (Ok x) → Steps (one o a ty) x r → Calls (outcome real row v (one o a ty)) r
step_answer row v o a ty x r h said = calls_then (outcome real row v a) (one_step real o ty) x r h said

abbrev pub IsOver : Node → Term → Type 0
IsOver n a = ((ty : NodeType) × (n ≡ node.Output a ty)) ⊎ (((ty : NodeType) × (n ≡ node.Input a ty)) ⊎ (((ty : NodeType) × (n ≡ node.Relabel a ty)) ⊎ (((m : Modifier) × (cut : Bool) × (ty : NodeType) × (n ≡ node.Sizing a m cut ty)) ⊎ (((ty : NodeType) × (n ≡ node.Not a ty)) ⊎ (((ty : NodeType) × (n ≡ node.IsNull a ty)) ⊎ (((ty : NodeType) × (n ≡ node.IsTrue a ty)) ⊎ (((ty : NodeType) × (n ≡ node.IsFalse a ty)) ⊎ (((ty : NodeType) × (n ≡ node.IsUnknown a ty))))))))))

pub over_answer : (row : List Value) (v : Value) (n : Node) (a : Term) (x : Value) (r : Result Value CallFault) → IsOver n a → Calls (outcome real row v a) (Ok x) → Steps (term_of n) x r → Calls (outcome real row v (term_of n)) r
over_answer row v n a x r (inl (ty, is)) h said = let stepped = rw is at said in rw is (step_answer row v output a ty x r h stepped)
over_answer row v n a x r (inr (inl (ty, is))) h said = let stepped = rw is at said in rw is (step_answer row v input a ty x r h stepped)
over_answer row v n a x r (inr (inr (inl (ty, is)))) h said = let stepped = rw is at said in rw is (step_answer row v relabel a ty x r h stepped)
over_answer row v n a x r (inr (inr (inr (inl (m, cut, ty, is))))) h said = let stepped = rw is at said in rw is (step_answer row v (sizing m cut) a ty x r h stepped)
over_answer row v n a x r (inr (inr (inr (inr (inl (ty, is)))))) h said = let stepped = rw is at said in rw is (step_answer row v negation a ty x r h stepped)
over_answer row v n a x r (inr (inr (inr (inr (inr (inl (ty, is))))))) h said = let stepped = rw is at said in rw is (step_answer row v is_null a ty x r h stepped)
over_answer row v n a x r (inr (inr (inr (inr (inr (inr (inl (ty, is)))))))) h said = let stepped = rw is at said in rw is (step_answer row v is_true a ty x r h stepped)
over_answer row v n a x r (inr (inr (inr (inr (inr (inr (inr (inl (ty, is))))))))) h said = let stepped = rw is at said in rw is (step_answer row v is_false a ty x r h stepped)
over_answer row v n a x r (inr (inr (inr (inr (inr (inr (inr (inr (ty, is))))))))) h said = let stepped = rw is at said in rw is (step_answer row v is_unknown a ty x r h stepped)

-- a call of the values of its arguments
pub call_answer : (o : Result (List Value) EvalError) (callee : Callee) (vs : List Value) (r : Result Value CallFault) → answered o ≡ Ok vs → Calls (call_of real callee vs) r → Calls (and_then o (call_of real callee)) r
call_answer o callee vs r h k = calls_then o (call_of real callee) vs r h k

-- a domain doesn't take the value of its argument
pub domain_stop : (row : List Value) (v : Value) (a : Term) (number : RowNo) (not_null : Bool) (check : Option Term) (ty : NodeType) (x : Value) (e : CallFault)
    → Calls (outcome real row v a) (Ok x) → Calls (kept_not_null not_null x) (Err e) → Calls (outcome real row v (checked_by a number not_null check ty)) (Err e)
domain_stop row v a number not_null None ty x e h k = calls_then (outcome real row v a) (kept_not_null not_null) x (Err e) h k
domain_stop row v a number not_null (Some c) ty x e h k =
    calls_stop (and_then (outcome real row v a) (kept_not_null not_null)) (λ y. and_then (outcome real row y c) (nodes.checked_by y)) e (calls_then (outcome real row v a) (kept_not_null not_null) x (Err e) h k)

-- the check of the value
pub check_said : (o : Outcome) (x y : Value) (r : Result Value CallFault) → Calls o (Ok y) → Calls (nodes.checked_by x y) r → Calls (and_then o (nodes.checked_by x)) r
check_said o x y r h said = calls_then o (nodes.checked_by x) y r h said

-- it has one
pub check_answer : (row : List Value) (v : Value) (a : Term) (number : RowNo) (not_null : Bool) (check : Option Term) (ty : NodeType) (k : Term) (x y : Value) (r : Result Value CallFault)
    → check ≡ Some k → Calls (outcome real row v a) (Ok x) → Calls (kept_not_null not_null x) (Ok y) → Calls (and_then (outcome real row y k) (nodes.checked_by y)) r
    → Calls (outcome real row v (checked_by a number not_null check ty)) r
check_answer row v a number not_null check ty k x y r is h kept said =
    rw is (calls_then (and_then (outcome real row v a) (kept_not_null not_null)) (λ y. and_then (outcome real row y k) (nodes.checked_by y)) y r
    (calls_then (outcome real row v a) (kept_not_null not_null) x (Ok y) h kept) said)

-- ---- calls of one argument or two

one_of : (ts : List Term) (a : Term) → 1 ≤ length ts → length ts < 2 → a ≡ get_or ts 0 a → ts ≡ a ∷ []
one_of [] a h k e = absurd (omega arith)
one_of (t ∷ []) a h k e = ap (λ u. u ∷ []) (sym e)
one_of (t ∷ u ∷ ts) a h k e = absurd (omega arith)

two_of : (ts : List Term) (a b : Term) → 2 ≤ length ts → length ts < 3 → a ≡ get_or ts 0 a → b ≡ get_or ts 1 b → ts ≡ a ∷ b ∷ []
two_of [] a b h k e f = absurd (omega arith)
two_of (t ∷ []) a b h k e f = absurd (omega arith)
two_of (t ∷ u ∷ []) a b h k e f = cc
two_of (t ∷ u ∷ w ∷ ts) a b h k e f = absurd (omega arith)

pub one_answer : (row : List Value) (v : Value) (ts : List Term) (callee : Callee) (a : Term) (x : Value) (r : Result Value CallFault) → 1 ≤ length ts → length ts < 2 → a ≡ get_or ts 0 a
    → Calls (outcome real row v a) (Ok x) → Calls (call_of real callee (x ∷ [])) r → Calls (and_then (outcomes real row v (terms ts)) (call_of real callee)) r
one_answer row v ts callee a x r least most at h said = rw (one_of ts a least most at, answered_ok (outcome real row v a) x h) said

pub one_stop : (row : List Value) (v : Value) (ts : List Term) (callee : Callee) (a : Term) (e : CallFault) → 1 ≤ length ts → length ts < 2 → a ≡ get_or ts 0 a
    → Calls (outcome real row v a) (Err e) → Calls (and_then (outcomes real row v (terms ts)) (call_of real callee)) (Err e)
one_stop row v ts callee a fault.Memory least most at h = tt
one_stop row v ts callee a (fault.Raised e) least most at h = rw (one_of ts a least most at, answered_err (outcome real row v a) e h) refl

pub two_answer : (row : List Value) (v : Value) (ts : List Term) (callee : Callee) (a b : Term) (x y : Value) (r : Result Value CallFault) → 2 ≤ length ts → length ts < 3 → a ≡ get_or ts 0 a → b ≡ get_or ts 1 b
    → Calls (outcome real row v a) (Ok x) → Calls (outcome real row v b) (Ok y) → Calls (call_of real callee (x ∷ y ∷ [])) r → Calls (and_then (outcomes real row v (terms ts)) (call_of real callee)) r
two_answer row v ts callee a b x y r least most at at' h k said = rw (two_of ts a b least most at at', answered_ok (outcome real row v a) x h, answered_ok (outcome real row v b) y k) said

pub first_stop : (row : List Value) (v : Value) (ts : List Term) (callee : Callee) (a b : Term) (e : CallFault) → 2 ≤ length ts → length ts < 3 → a ≡ get_or ts 0 a → b ≡ get_or ts 1 b
    → Calls (outcome real row v a) (Err e) → Calls (and_then (outcomes real row v (terms ts)) (call_of real callee)) (Err e)
first_stop row v ts callee a b fault.Memory least most at at' h = tt
first_stop row v ts callee a b (fault.Raised e) least most at at' h = rw (two_of ts a b least most at at', answered_err (outcome real row v a) e h) refl

pub second_stop : (row : List Value) (v : Value) (ts : List Term) (callee : Callee) (a b : Term) (x : Value) (e : CallFault) → 2 ≤ length ts → length ts < 3 → a ≡ get_or ts 0 a → b ≡ get_or ts 1 b
    → Calls (outcome real row v a) (Ok x) → Calls (outcome real row v b) (Err e) → Calls (and_then (outcomes real row v (terms ts)) (call_of real callee)) (Err e)
second_stop row v ts callee a b x fault.Memory least most at at' h k = tt
second_stop row v ts callee a b x (fault.Raised e) least most at at' h k = rw (two_of ts a b least most at at', answered_ok (outcome real row v a) x h, answered_err (outcome real row v b) e k) refl
