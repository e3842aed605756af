-- What a loop over trees has left: the next one, and what is behind it.
use Rattle.std.proofs.Common.{◌≡◌, ℕ, ◌+◌, ◌<◌, ◌≤◌, List, [], ◌∷◌, ◌++◌, Bool, true, false, ◌&&◌, ◌||◌, length, get_or, drop, ap, zero, suc, max, arith}
use Rattle.xp_base.proofs.Lists.{drop_one, drop_none}
use Rattle.xp_tree.specs.declared.node.CaseArm.{CaseArm}
use Rattle.xp_tree.specs.Term.{Term, size, size_all, size_arms, is_fixed, all_fixed, arms_fixed, is_open, some_open, arms_open, terms}
use Rattle.xp_tree.specs.View.{arms_of}
use Rattle.xp_tree.specs.inner.Heights.{height, height_all, height_arms}

pub sizes_step : (ts : List Term) (i : ℕ) (t : Term) → i < length ts → t ≡ get_or ts i t → size_all (terms (drop i ts)) ≡ size t + size_all (terms (drop (i + 1) ts))
sizes_step ts i t h e = ap (λ rest. size_all (terms rest)) (drop_one ts i t h e)

pub sizes_end : (ts : List Term) (i : ℕ) → length ts ≤ i → size_all (terms (drop i ts)) ≡ 0
sizes_end ts i h = ap (λ rest. size_all (terms rest)) (drop_none ts i h)

pub arms_size_step : (arms : List CaseArm) (i : ℕ) (a : CaseArm) → i < length arms → a ≡ get_or arms i a → size_arms (arms_of (drop i arms)) ≡ size a.condition + size a.result + size_arms (arms_of (drop (i + 1) arms))
arms_size_step arms i a h e = ap (λ rest. size_arms (arms_of rest)) (drop_one arms i a h e)

pub arms_size_end : (arms : List CaseArm) (i : ℕ) → length arms ≤ i → size_arms (arms_of (drop i arms)) ≡ 0
arms_size_end arms i h = ap (λ rest. size_arms (arms_of rest)) (drop_none arms i h)

pub fixed_step : (ts : List Term) (i : ℕ) (t : Term) → i < length ts → t ≡ get_or ts i t → all_fixed (terms (drop i ts)) ≡ (is_fixed t && all_fixed (terms (drop (i + 1) ts)))
fixed_step ts i t h e = ap (λ rest. all_fixed (terms rest)) (drop_one ts i t h e)

pub fixed_end : (ts : List Term) (i : ℕ) → length ts ≤ i → all_fixed (terms (drop i ts)) ≡ true
fixed_end ts i h = ap (λ rest. all_fixed (terms rest)) (drop_none ts i h)

pub open_step : (ts : List Term) (i : ℕ) (t : Term) → i < length ts → t ≡ get_or ts i t → some_open (terms (drop i ts)) ≡ (is_open t || some_open (terms (drop (i + 1) ts)))
open_step ts i t h e = ap (λ rest. some_open (terms rest)) (drop_one ts i t h e)

pub open_end : (ts : List Term) (i : ℕ) → length ts ≤ i → some_open (terms (drop i ts)) ≡ false
open_end ts i h = ap (λ rest. some_open (terms rest)) (drop_none ts i h)

pub arms_fixed_step : (arms : List CaseArm) (i : ℕ) (a : CaseArm) → i < length arms → a ≡ get_or arms i a → arms_fixed (arms_of (drop i arms)) ≡ (is_fixed a.condition && is_fixed a.result && arms_fixed (arms_of (drop (i + 1) arms)))
arms_fixed_step arms i a h e = ap (λ rest. arms_fixed (arms_of rest)) (drop_one arms i a h e)

pub arms_fixed_end : (arms : List CaseArm) (i : ℕ) → length arms ≤ i → arms_fixed (arms_of (drop i arms)) ≡ true
arms_fixed_end arms i h = ap (λ rest. arms_fixed (arms_of rest)) (drop_none arms i h)

pub arms_open_step : (arms : List CaseArm) (i : ℕ) (a : CaseArm) → i < length arms → a ≡ get_or arms i a → arms_open (arms_of (drop i arms)) ≡ (is_open a.condition || is_open a.result || arms_open (arms_of (drop (i + 1) arms)))
arms_open_step arms i a h e = ap (λ rest. arms_open (arms_of rest)) (drop_one arms i a h e)

pub arms_open_end : (arms : List CaseArm) (i : ℕ) → length arms ≤ i → arms_open (arms_of (drop i arms)) ≡ false
arms_open_end arms i h = ap (λ rest. arms_open (arms_of rest)) (drop_none arms i h)

pub height_at : (ts : List Term) (i : ℕ) (d : Term) → i < length ts → height (get_or ts i d) ≤ height_all (terms ts)
height_at [] i d h = absurd (omega arith)
height_at (t ∷ ts) zero d h = omega arith
height_at (t ∷ ts) (suc i) d h = let p : height (get_or ts i d) ≤ height_all (terms ts) = height_at ts i d (omega arith) in omega arith

arm_at : (arms : List CaseArm) (i : ℕ) (d : CaseArm) → i < length arms → max (height (get_or arms i d).condition) (height (get_or arms i d).result) ≤ height_arms (arms_of arms)
arm_at [] i d h = absurd (omega arith)
arm_at (a ∷ arms) zero d h = omega arith
arm_at (a ∷ arms) (suc i) d h = let p : max (height (get_or arms i d).condition) (height (get_or arms i d).result) ≤ height_arms (arms_of arms) = arm_at arms i d (omega arith) in omega arith

pub condition_at : (arms : List CaseArm) (i : ℕ) (d : CaseArm) → i < length arms → height (get_or arms i d).condition ≤ height_arms (arms_of arms)
condition_at arms i d h = omega (arith, arm_at arms i d h)

pub result_at : (arms : List CaseArm) (i : ℕ) (d : CaseArm) → i < length arms → height (get_or arms i d).result ≤ height_arms (arms_of arms)
result_at arms i d h = omega (arith, arm_at arms i d h)

pub height_pushed : (ts : List Term) (t : Term) → height_all (terms (ts ++ t ∷ [])) ≡ max (height_all (terms ts)) (height t)
height_pushed [] t = omega arith
height_pushed (a ∷ ts) t = omega (arith, height_pushed ts t)

pub arms_height_pushed : (arms : List CaseArm) (a : CaseArm) → height_arms (arms_of (arms ++ a ∷ [])) ≡ max (height_arms (arms_of arms)) (max (height a.condition) (height a.result))
arms_height_pushed [] a = omega arith
arms_height_pushed (b ∷ arms) a = omega (arith, arms_height_pushed arms a)
