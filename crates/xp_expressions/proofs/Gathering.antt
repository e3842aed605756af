-- Results that are gathered one after the other, any of which may be want of memory.
use Rattle.std.proofs.Common.{◌≡◌, ℕ, ◌+◌, ◌<◌, ◌≤◌, List, [], ◌∷◌, ◌++◌, drop, get_or, length, map, refl, Result, Ok, Err}
use Rattle.std.specs.Prelude.{IfOk}
use Rattle.xp_base.proofs.Lists.{drop_none, drop_one}
use Rattle.xp_base.specs.FromLeft.{and_then}
use Rattle.xp_base.specs.OrMemory.{OrMemory}
use Rattle.xp_named.specs.declared.refusal.Refusal.{Refusal}
use Rattle.xp_resolve.specs.Made.{is_memory}
use Rattle.xp_expressions.specs.Operands.{each}

-- what is made of the next one, behind those that are said
abbrev pub Follows : {A B : Type 0} → (A → Result B Refusal) → Result A Refusal → Result B Refusal → Type 0
Follows f before after = (said : Result _ Refusal) → OrMemory is_memory said before → OrMemory is_memory (and_then said f) after

-- what is gathered so far, and what it comes to with the rest
pub record Behind {A X : Type 0} (f : X → A → Result A Refusal) (whole : Result A Refusal) (all : Result A Refusal) (rest : List X) : Type 0 where
  pub here : Result A Refusal
  pub says : OrMemory is_memory here all
  pub same : each f here rest ≡ whole

pub behind_none : {A X : Type 0} (f : X → A → Result A Refusal) (said all : Result A Refusal) (xs : List X) → OrMemory is_memory said all → Behind f (each f said xs) all xs
behind_none f said all xs is = record { here = said; says = is; same = refl }

pub behind_more : {A X : Type 0} (f : X → A → Result A Refusal) (whole all next : Result A Refusal) (x : X) (rest : List X)
    → Behind f whole all (x ∷ rest) → Follows (f x) all next → Behind f whole next rest
behind_more f whole all next x rest behind follows = record {
  here = and_then behind.here (f x);
  says = follows behind.here behind.says;
  same = behind.same;
}

pub behind_all : {A X : Type 0} (f : X → A → Result A Refusal) (whole all : Result A Refusal) → Behind f whole all [] → OrMemory is_memory whole all
behind_all f whole all behind = rw (← behind.same) behind.says

-- one more of what a loop goes over
pub behind_next : {A X Y : Type 0} (f : X → A → Result A Refusal) (g : Y → X) (whole all next : Result A Refusal) (ys : List Y) (i : ℕ) (y : Y)
    → i < length ys → y ≡ get_or ys i y → Behind f whole all (map g (drop i ys)) → Follows (f (g y)) all next
    → Behind f whole next (map g (drop (i + 1) ys))
behind_next f g whole all next ys i y few at behind follows =
    let own : Behind f whole all (g y ∷ map g (drop (i + 1) ys)) = rw (drop_one ys i y few at) at behind in
    behind_more f whole all next (g y) (map g (drop (i + 1) ys)) own follows

-- the loop is at its end
pub behind_end : {A X Y : Type 0} (f : X → A → Result A Refusal) (g : Y → X) (whole all : Result A Refusal) (ys : List Y) (i : ℕ)
    → length ys ≤ i → Behind f whole all (map g (drop i ys)) → OrMemory is_memory whole all
behind_end f g whole all ys i out behind =
    let own : Behind f whole all [] = rw (drop_none ys i out) at behind in
    behind_all f whole all own

-- those that are gathered first, and the others
pub each_behind : {A X : Type 0} (f : X → A → Result A Refusal) (before : Result A Refusal) (first more : List X) → each f before (first ++ more) ≡ each f (each f before first) more
each_behind f before [] more = refl
each_behind f before (x ∷ first) more = each_behind f (and_then before (f x)) first more
