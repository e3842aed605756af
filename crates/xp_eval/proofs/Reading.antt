-- Values read from texts.
use Rattle.std.proofs.Common.{◌≡◌, ℕ, List, false, Ok, Err, refl, sym, ap, ◌∙◌}
use Rattle.xp_base.specs.declared.codes.EvalError.{EvalError}
use Rattle.xp_value.specs.declared.value.Rep.{Rep}
use Rattle.xp_value.specs.declared.value.Rep.TheVariants as rep
use Rattle.xp_value.specs.declared.value.Value.{Value}
use Rattle.xp_value.specs.Null.{is_null}
use Rattle.xp_value.specs.Representation.{plain}
use Rattle.xp_tree.specs.declared.parts.NodeType.{NodeType}
use Rattle.xp_tree.specs.Typed.{shape_of, shape_with}
use Rattle.xp_call.specs.Calls.{answered}
use Rattle.xp_call.specs.declared.fault.CallFault.TheVariants as fault
use Rattle.xp_io.specs.Forms.{Reads, input}
use Rattle.xp_io.specs.Forms as forms
use Rattle.xp_io.specs.declared.reading.InFault.TheVariants as want
use Rattle.xp_meaning.specs.Nodes.{characters, unless_null}
use Rattle.xp_meaning.specs.Truth.{Outcome}
use Rattle.xp_eval.specs.Real.{real}

-- no text form looks at the elements of a type yet
shape_input : (element r : Rep) (text : List ℕ) → input (shape_with element r) text ≡ input (plain r) text
shape_input element rep.Bool text = refl
shape_input element rep.Int2 text = refl
shape_input element rep.Int4 text = refl
shape_input element rep.Int8 text = refl
shape_input element rep.Num text = refl
shape_input element rep.Text text = refl
shape_input element rep.Pad text = refl
shape_input element rep.Bytes text = refl
shape_input element rep.Day text = refl
shape_input element rep.Arr text = refl
shape_input element rep.Int4Range text = refl
shape_input element rep.Int8Range text = refl
shape_input element rep.DateRange text = refl
shape_input element rep.Opaque text = refl

relay_ok : (o : Outcome) (w : Value) → forms.answered o ≡ Ok w → answered o ≡ Ok w
relay_ok (Ok x) w h = cc
relay_ok (Err e) w h = absurd cc

relay_err : (o : Outcome) (e : EvalError) → forms.answered o ≡ Err (want.Bad e) → answered o ≡ Err (fault.Raised e)
relay_err (Ok x) e h = absurd cc
relay_err (Err d) e h = cc

read_said : (ty : NodeType) (v : Value) → is_null v ≡ false → unless_null (λ x. real.read (shape_of ty) (characters x)) v ≡ input (plain ty.rep) (characters v)
unfolding real
read_said ty v h = rw h (shape_input ty.element ty.rep (characters v))

pub read_ok : (ty : NodeType) (v w : Value) (text : List ℕ) → is_null v ≡ false → text ≡ characters v → forms.answered (input (plain ty.rep) text) ≡ Ok w
    → answered (unless_null (λ x. real.read (shape_of ty) (characters x)) v) ≡ Ok w
read_ok ty v w text h is e =
    let said : forms.answered (input (plain ty.rep) (characters v)) ≡ Ok w = ap (λ t. forms.answered (input (plain ty.rep) t)) (sym is) ∙ e in
    ap answered (read_said ty v h) ∙ relay_ok (input (plain ty.rep) (characters v)) w said

pub read_err : (ty : NodeType) (v : Value) (e : EvalError) (text : List ℕ) → is_null v ≡ false → text ≡ characters v → forms.answered (input (plain ty.rep) text) ≡ Err (want.Bad e)
    → answered (unless_null (λ x. real.read (shape_of ty) (characters x)) v) ≡ Err (fault.Raised e)
read_err ty v e text h is said =
    let found : forms.answered (input (plain ty.rep) (characters v)) ≡ Err (want.Bad e) = ap (λ t. forms.answered (input (plain ty.rep) t)) (sym is) ∙ said in
    ap answered (read_said ty v h) ∙ relay_err (input (plain ty.rep) (characters v)) e found
