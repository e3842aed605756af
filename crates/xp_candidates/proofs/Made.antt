-- A refusal of the choice is the refusal of what is made of it.
use Rattle.std.proofs.Common.{◌≡◌, refl, subst, sym, ap, Result, Ok, Err}
use Rattle.std.specs.Result.{IsErrAnd}
use Rattle.xp_candidates.specs.Chosen.{Answers, IfAmbiguous, made_of}
use Rattle.xp_base.specs.declared.numbers.RowNo.{RowNo}
use Rattle.xp_candidates.specs.declared.pick.Pick.{Pick}
use Rattle.xp_candidates.specs.declared.pick.Pick.TheVariants.{Undefined, Ambiguous, Memory}
use Rattle.xp_candidates.specs.declared.pick.Picked.{Picked}

Answers-made : {A : Type 0} (make : Picked → A) (said : Result Picked Pick) (pick : Pick) → Answers said (Err pick) → Answers (made_of make said) (Err pick)
Answers-made make said Undefined is = ap (made_of make) is
Answers-made make said (Ambiguous first second) is = ap (made_of make) is
Answers-made make said Memory is = tt

pub Answers-err : {A : Type 0} (make : Picked → A) (said : Result Picked Pick) (result : Result A Pick) (pick : Pick) → IsErrAnd result (λ other. other ≡ pick) → Answers said (Err pick) → Answers (made_of make said) result
Answers-err make said (Ok value) pick same is = absurd same
Answers-err make said (Err other) pick same is = Answers-made make said other (subst (λ it. Answers said (Err it)) (sym same) is)

-- what is said of the two that are told holds of what is made of the choice, and of what is answered
pub made-ambiguous : {A : Type 0} (make : Picked → A) (choice : Result Picked Pick) (P : RowNo → RowNo → Type 0) → IfAmbiguous choice P → IfAmbiguous (made_of make choice) P
made-ambiguous make (Ok picked) P is = tt
made-ambiguous make (Err Undefined) P is = tt
made-ambiguous make (Err (Ambiguous first second)) P is = is
made-ambiguous make (Err Memory) P is = tt

pub Answers-ambiguous : {A : Type 0} (said result : Result A Pick) (P : RowNo → RowNo → Type 0) → IfAmbiguous said P → Answers said result → IfAmbiguous result P
Answers-ambiguous said (Ok value) P is answers = tt
Answers-ambiguous said (Err Undefined) P is answers = tt
Answers-ambiguous said (Err (Ambiguous first second)) P is answers = subst (λ it. IfAmbiguous it P) answers is
Answers-ambiguous said (Err Memory) P is answers = tt

Answers-own : {A : Type 0} (said : Result A Pick) → Answers said said
Answers-own (Ok value) = refl
Answers-own (Err Undefined) = refl
Answers-own (Err (Ambiguous first second)) = refl
Answers-own (Err Memory) = tt

pub Answers-same : {A : Type 0} (said result : Result A Pick) → result ≡ said → Answers said result
Answers-same said result is = subst (λ it. Answers said it) (sym is) (Answers-own said)
