-- Arms of CASE that are converted one after the other.
use Rattle.std.proofs.Common.{◌≡◌, ℕ, List, [], ◌∷◌, ◌++◌, reverse, refl, ◌∙◌, ap, Ok, Err}
use Rattle.xp_base.specs.OrMemory.{OrMemory}
use Rattle.xp_base.specs.declared.numbers.TypeNo.{TypeNo}
use Rattle.xp_named.specs.declared.refusal.Refusal.{Refusal}
use Rattle.xp_tree.specs.declared.node.CaseArm.{CaseArm}
use Rattle.xp_tree.specs.declared.parts.NodeType.{NodeType}
use Rattle.xp_tree.specs.Term.{type_of}
use Rattle.xp_tree.specs.Typed.{ArmsTyped, IsBool, IsTyped}
use Rattle.xp_tree.specs.View.{arms_of}
use Rattle.xp_resolve.specs.Made.{is_memory}
use Rattle.xp_resolve.specs.Scene.{Scene}
use Rattle.xp_resolve.proofs.Queues.{popped}
use Rattle.xp_resolve.proofs.Steps.{then_err}
use Rattle.xp_forms.specs.declared.cases.ArmsMade.{ArmsMade}
use Rattle.xp_forms.specs.declared.cases.When.{When}
use Rattle.xp_forms.specs.Cases.{arm_made, arms_made}

-- one arm more
pub arms_typed : (ty : NodeType) (arms : List CaseArm) (arm : CaseArm) → ArmsTyped ty (arms_of arms) → IsBool (type_of arm.condition) → type_of arm.result ≡ ty → IsTyped arm.condition → IsTyped arm.result → ArmsTyped ty (arms_of (arms ++ arm ∷ []))
arms_typed ty [] arm before truth same condition gives = (truth, same, condition, gives, tt)
arms_typed ty (first ∷ arms) arm before truth same condition gives = (before.0, before.1, before.2, before.3, arms_typed ty arms arm before.4 truth same condition gives)

-- the arms that are left, the next one last
pub left_is : {A : Type 0} (old new : List A) (x : A) → old ≡ new ++ x ∷ [] → reverse old ≡ x ∷ reverse new
left_is old new x is = ap reverse is ∙ popped new x

pub arms_more : (scene : Scene) (at : ℕ) (bool type : TypeNo) (before next : ArmsMade) (left rest : List When) (when : When)
    → left ≡ when ∷ rest → OrMemory is_memory (arm_made scene at bool type before when) (Ok next)
    → arms_made scene at bool type next rest ≡ arms_made scene at bool type before left
arms_more scene at bool type before next left rest when e is = rw (e, is) refl

pub arms_fault : (scene : Scene) (at : ℕ) (bool type : TypeNo) (before : ArmsMade) (left rest : List When) (when : When) (fault : Refusal)
    → left ≡ when ∷ rest → OrMemory is_memory (arm_made scene at bool type before when) (Err fault)
    → OrMemory is_memory (arms_made scene at bool type before left) (Err fault)
arms_fault scene at bool type before left rest when fault e is =
    rw e (then_err (arm_made scene at bool type before when) (λ next. arms_made scene at bool type next rest) fault is)

pub arms_out : (scene : Scene) (at : ℕ) (bool type : TypeNo) (before : ArmsMade) (left : List When) → left ≡ [] → arms_made scene at bool type before left ≡ Ok before
arms_out scene at bool type before left e = rw e refl
