-- Types and names in step.
use Rattle.std.proofs.Common.{◌≡◌, ◌≢◌, ℕ, suc, List, [], ◌∷◌, true, false, ◌&&◌, length, map, refl, ap}
use denote.Ref.{Bor}
use Rattle.xp_base.specs.declared.numbers.TypeNo.{TypeNo}
use Rattle.xp_catalog.specs.Contents.{Contents}
use Rattle.xp_bodies.specs.Fits.{are_named, is_named}

-- lists of other lengths don't agree
pub are_named-lengths : (c : Contents) (types : List TypeNo) (names : List (Bor (List ℕ))) → length types ≢ length names → false ≡ are_named c types (map (λ name. name.now) names)
are_named-lengths c [] [] h = absurd (h refl)
are_named-lengths c [] (name ∷ names) h = refl
are_named-lengths c (type ∷ types) [] h = refl
are_named-lengths c (type ∷ types) (name ∷ names) h =
    let more : false ≡ are_named c types (map (λ name. name.now) names) = are_named-lengths c types names (λ e. h (ap suc e)) in
    elim (is_named c type name.now) as (λ v. false ≡ (v && are_named c types (map (λ name. name.now) names))) [ true ↦ more | false ↦ refl ]
