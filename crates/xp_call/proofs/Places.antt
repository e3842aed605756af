-- The place of a body says what its name says.
use Rattle.std.proofs.Common.{◌≡◌, ℕ, zero, suc, ◌<◌, ◌≤◌, ◌+◌, ◌-◌, List, [], ◌∷◌, false, nat_lt, Option, None, length, map, refl, sym, ap, ◌∙◌, arith, lit<}
use Rattle.std.proofs.lemmas.Bool.{le-ltb}
use Rattle.std.specs.List.{slice_get}
use Rattle.std.specs.Option.{option_and_then}
use Rattle.xp_base.specs.declared.numbers.BodyNo.{BodyNo}
use Rattle.xp_bodies.specs.Row.{Row}
use Rattle.xp_bodies.specs.Table.{arithmetic, arrays, bodies, comparisons, dates, edits, integers, numerics, ranges, texts}
use Rattle.xp_call.specs.Operations.{operation_at, operation_named, operations}
use Rattle.xp_call.specs.inner.Places.{operation_by_place}
use Rattle.xp_call.specs.inner.TextPlaces.{text_at}
use Rattle.xp_call.specs.declared.operations.Operation.{Operation}

-- the places of the elements, from this one on
abbrev places : {X : Type 0} → ℕ → List X → List ℕ
places first [] = []
places first (x ∷ xs) = first ∷ places (first + 1) xs

abbrev named : Row → Option Operation
named row = operation_named row.name

-- by computation, over the whole table
table_by_place : map named bodies ≡ map operation_by_place (places 0 bodies)
unfolding bodies arithmetic comparisons integers numerics texts edits dates arrays ranges operations operation_named operation_by_place text_at
table_by_place = refl

-- behind the last element nothing is said
placed : {X Y : Type 0} (f : X → Option Y) (g : ℕ → Option Y) (xs : List X) (first i : ℕ) → map f xs ≡ map g (places first xs)
    → ((k : ℕ) → first + length xs ≤ k → g k ≡ None) → g (first + i) ≡ option_and_then f (slice_get xs i)
placed f g [] first i e past = past (first + i) (omega arith)
placed f g (x ∷ xs) first zero e past =
    let same : first + 0 ≡ first = omega arith in
    let head : g first ≡ f x = cc in
    ap g same ∙ head
placed f g (x ∷ xs) first (suc i) e past =
    let same : first + suc i ≡ first + 1 + i = omega arith in
    let tail : map f xs ≡ map g (places (first + 1) xs) = cc in
    ap g same ∙ placed f g xs (first + 1) i tail (λ k h. past k (omega arith))

enough : 254 < length bodies
unfolding bodies arithmetic comparisons integers numerics texts edits dates arrays ranges
enough = lit< tt

none_from : (k : ℕ) → 255 ≤ k → operation_by_place k ≡ None
unfolding operation_by_place
none_from k h =
    let a : nat_lt k 36 ≡ false = le-ltb k 36 (omega arith) in
    let b : nat_lt k 90 ≡ false = le-ltb k 90 (omega arith) in
    let c : nat_lt k 120 ≡ false = le-ltb k 120 (omega arith) in
    let d : nat_lt k 136 ≡ false = le-ltb k 136 (omega arith) in
    let e : nat_lt (k - 136) 30 ≡ false = le-ltb (k - 136) 30 (omega arith) in
    let f : nat_lt (k - 136) 107 ≡ false = le-ltb (k - 136) 107 (omega arith) in
    let g : nat_lt (k - 136) 119 ≡ false = le-ltb (k - 136) 119 (omega arith) in
    rw (a, b, c, d, e, f, g) refl

pub by_place : (body : BodyNo) → operation_by_place body.0 ≡ operation_at body
unfolding operation_at
by_place body =
    let same : 0 + body.0 ≡ body.0 = omega arith in
    ap operation_by_place (sym same) ∙ placed named operation_by_place bodies 0 body.0 table_by_place (λ k h. none_from k (omega (arith, enough)))
