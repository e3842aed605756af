-- IN by halves.
use Rattle.std.proofs.Common.{◌≡◌, ℕ, zero, suc, ◌+◌, ◌-◌, ◌/◌, ◌<◌, ◌≤◌, List, [], ◌∷◌, Bool, drop, get_or, length, map, take, arith, refl, Result}
use Rattle.std.proofs.lemmas.List.{drop-map, length-map, take-map}
use Rattle.xp_base.specs.OrMemory.{OrMemory}
use Rattle.xp_forms.specs.declared.operands.Both.{Both}
use Rattle.xp_resolve.specs.declared.made.Made.{Made}
use Rattle.xp_resolve.specs.Made.{is_memory}
use Rattle.xp_base.specs.FromLeft.{and_then}
use Rattle.xp_base.specs.declared.numbers.Span.{Span}
use Rattle.xp_named.specs.declared.refusal.Refusal.{Refusal}
use Rattle.xp_forms.specs.Connectives.{connected}
use Rattle.xp_forms.specs.Rewritten.{first_half, in_connective}
use Rattle.xp_resolve.specs.declared.made.Progress.{Progress}
use Rattle.xp_resolve.specs.Scene.{Scene}
use Rattle.xp_expressions.specs.Composed.{among, halved}
use Rattle.xp_expressions.specs.Operands.{Resolution, both}
use Rattle.xp_expressions.proofs.Gathering.{Follows}
use Rattle.xp_expressions.specs.inner.Halves.{both_halved}

-- several pairs are their halves, connected
pub halves_are : (scene : Scene) (at : Span) (not : Bool) (depth : ℕ) (pairs : List Resolution) (progress : Progress) → 1 < length pairs
    → halved scene at not (suc depth) pairs progress ≡ and_then (both_halved scene at not depth pairs progress) (connected scene (in_connective not) at.start progress.nodes)
halves_are scene at not depth [] progress several = absurd (omega arith)
halves_are scene at not depth (only ∷ []) progress several = absurd (omega arith)
halves_are scene at not depth (first ∷ second ∷ others) progress several = refl

-- several pairs stand by halves
pub several : (scene : Scene) (at : Span) (not : Bool) (pairs : List Resolution) → 1 < length pairs → among scene at not pairs ≡ halved scene at not (length pairs) pairs
several scene at not [] many = absurd (omega arith)
several scene at not (only ∷ []) many = absurd (omega arith)
several scene at not (first ∷ second ∷ others) many = refl

-- the halves of what stands for each member are what stands for the members of each half
pub both_halved_are : {X : Type 0} (scene : Scene) (at : Span) (not : Bool) (depth : ℕ) (f : Resolution → Resolution) (g : X → Resolution) (list : List X) (progress : Progress)
    → both_halved scene at not depth (map f (map g list)) progress ≡ both (halved scene at not depth (map f (map g (take (first_half (length list)) list)))) (halved scene at not depth (map f (map g (drop (first_half (length list)) list)))) progress
both_halved_are scene at not depth f g list progress =
    let own : length (map f (map g list)) ≡ length list = omega (arith, length-map (map g list) f, length-map list g) in
    rw (own, take-map f (first_half (length list)) (map g list), take-map g (first_half (length list)) list, drop-map f (first_half (length list)) (map g list), drop-map g (first_half (length list)) list) refl

-- what is made of both halves, for any depth that is enough, and then connected
pub halved_over : (scene : Scene) (at : Span) (not : Bool) (depth : ℕ) (pairs : List Resolution) (progress : Progress) (b : Result Both Refusal) (r : Result Made Refusal)
    → 1 < length pairs → length pairs ≤ depth → ((d : ℕ) → length pairs ≤ d + 1 → OrMemory is_memory (both_halved scene at not d pairs progress) b)
    → Follows (connected scene (in_connective not) at.start progress.nodes) b r → OrMemory is_memory (halved scene at not depth pairs progress) r
halved_over scene at not zero pairs progress b r many enough made follows = absurd (omega (arith, many, enough))
halved_over scene at not (suc d) pairs progress b r many enough made follows =
    rw (halves_are scene at not d pairs progress many) (follows (both_halved scene at not d pairs progress) (made d (omega (arith, enough))))

-- each half is shorter than the list
pub first_fewer : (n : ℕ) → 1 < n → first_half n < n
first_fewer n many = omega (arith, many)

pub rest_fewer : (n : ℕ) → 1 < n → n - first_half n < n
rest_fewer n many = omega (arith, many)

pub one_item : {X : Type 0} (xs : List X) (x : X) → 1 ≤ length xs → length xs < 2 → x ≡ get_or xs 0 x → xs ≡ x ∷ []
one_item [] x some few at = absurd (omega arith)
one_item (y ∷ []) x some few at = rw at refl
one_item (y ∷ z ∷ xs) x some few at = absurd (omega arith)
