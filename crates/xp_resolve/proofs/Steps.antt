-- Results one after the other, any of which may be want of memory.
use Rattle.std.proofs.Common.{◌≡◌, refl, sym, Result, Ok, Err}
use Rattle.xp_base.specs.FromLeft.{and_then}
use Rattle.xp_base.specs.OrMemory.{OrMemory}
use Rattle.xp_named.specs.declared.refusal.Refusal.{Refusal}
use Rattle.xp_named.specs.declared.refusal.Refusal.TheVariants.{At, Memory}
use Rattle.xp_resolve.specs.Made.{is_memory}

-- the answer itself
pub same : {A : Type 0} (said r : Result A Refusal) → r ≡ said → OrMemory is_memory said r
same said (Ok x) is = cc is
same said (Err Memory) is = tt
same said (Err (At code at)) is = cc is

-- the next step, of a value
pub then_ok : {A B : Type 0} (said : Result A Refusal) (f : A → Result B Refusal) (x : A) (r : Result B Refusal) → OrMemory is_memory said (Ok x) → OrMemory is_memory (f x) r → OrMemory is_memory (and_then said f) r
then_ok said f x r is next = rw is next

-- no step behind a refusal
pub then_err : {A B : Type 0} (said : Result A Refusal) (f : A → Result B Refusal) (e : Refusal) → OrMemory is_memory said (Err e) → OrMemory is_memory (and_then said f) (Err e)
then_err said f Memory is = tt
then_err said f (At code at) is = rw is refl

pub then_is : {A B : Type 0} (said : Result A Refusal) (f : A → Result B Refusal) (e : Refusal) → said ≡ Err e → OrMemory is_memory (and_then said f) (Err e)
then_is said f e is = then_err said f e (same said (Err e) (sym is))
