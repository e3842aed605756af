-- Expressions that are gathered one after the other, any of which may be want of memory.
use Rattle.std.proofs.Common.{◌≡◌, ℕ, ◌+◌, ◌<◌, ◌≤◌, List, [], ◌∷◌, drop, get_or, length, map, refl, Result}
use Rattle.xp_base.proofs.Lists.{drop_none, drop_one}
use Rattle.xp_base.specs.FromLeft.{and_then}
use Rattle.xp_base.specs.OrMemory.{OrMemory}
use Rattle.xp_named.specs.declared.refusal.Refusal.{Refusal}
use Rattle.xp_resolve.specs.declared.made.Gathered.{Gathered}
use Rattle.xp_resolve.specs.Made.{is_memory}
use Rattle.xp_expressions.specs.Operands.{Resolution, gathered, with_operand}

-- what is made of the operand, behind those that are said
abbrev pub Follows : Resolution → Result Gathered Refusal → Result Gathered Refusal → Type 0
Follows operand before after = (said : Result Gathered Refusal) → OrMemory is_memory said before → OrMemory is_memory (and_then said (with_operand operand)) after

-- what is gathered so far, and what it comes to with the rest
pub record Behind (said all : Result Gathered Refusal) (rest operands : List Resolution) : Type 0 where
  pub here : Result Gathered Refusal
  pub says : OrMemory is_memory here all
  pub same : gathered here rest ≡ gathered said operands

pub behind_none : (said all : Result Gathered Refusal) (operands : List Resolution) → OrMemory is_memory said all → Behind said all operands operands
behind_none said all operands is = record { here = said; says = is; same = refl }

behind_more : (said all next : Result Gathered Refusal) (operand : Resolution) (rest operands : List Resolution)
    → Behind said all (operand ∷ rest) operands → Follows operand all next → Behind said next rest operands
behind_more said all next operand rest operands behind follows = record {
  here = and_then behind.here (with_operand operand);
  says = follows behind.here behind.says;
  same = behind.same;
}

behind_all : (said all : Result Gathered Refusal) (operands : List Resolution) → Behind said all [] operands → OrMemory is_memory (gathered said operands) all
behind_all said all operands behind = rw (← behind.same) behind.says

-- one more of what a loop goes over
pub behind_next : {A : Type 0} (f : A → Resolution) (said all next : Result Gathered Refusal) (xs : List A) (i : ℕ) (x : A)
    → i < length xs → x ≡ get_or xs i x → Behind said all (map f (drop i xs)) (map f xs) → Follows (f x) all next
    → Behind said next (map f (drop (i + 1) xs)) (map f xs)
behind_next f said all next xs i x few at behind follows =
    let own : Behind said all (f x ∷ map f (drop (i + 1) xs)) (map f xs) = rw (drop_one xs i x few at) at behind in
    behind_more said all next (f x) (map f (drop (i + 1) xs)) (map f xs) own follows

-- the loop is at its end
pub behind_end : {A : Type 0} (f : A → Resolution) (said all : Result Gathered Refusal) (xs : List A) (i : ℕ)
    → length xs ≤ i → Behind said all (map f (drop i xs)) (map f xs) → OrMemory is_memory (gathered said (map f xs)) all
behind_end f said all xs i out behind =
    let own : Behind said all [] (map f xs) = rw (drop_none xs i out) at behind in
    behind_all said all (map f xs) own
