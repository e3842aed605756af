-- What an operator answers, as a truth value.
use Rattle.std.proofs.Common.{◌≡◌, ℕ, codes, refl, Option, Some, None, Result, Ok}
use Rattle.xp_base.specs.OrMemory.{OrMemory}
use Rattle.xp_base.specs.declared.codes.Code.TheVariants as code
use Rattle.xp_base.specs.declared.numbers.TypeNo.{TypeNo}
use Rattle.xp_catalog.specs.Lookups.{type_named}
use Rattle.xp_named.specs.declared.refusal.Refusal.{Refusal}
use Rattle.xp_resolve.specs.declared.made.Made.{Made}
use Rattle.xp_resolve.specs.Made.{is_memory, refused}
use Rattle.xp_resolve.specs.Scene.{Scene}
use Rattle.xp_forms.specs.Rewritten.{judged, judged_as}
use Rattle.xp_forms.specs.Truths.{bool_type}

pub judged_is : (scene : Scene) (at : ℕ) (made : Made) (type : TypeNo) (r : Result Made Refusal) → bool_type scene.c at ≡ Ok type → OrMemory is_memory (judged_as scene at made type) r → OrMemory is_memory (judged scene at made) r
judged_is scene at made type r is e = go (type_named scene.c (codes "bool")) refl
  where
    go : (o : Option TypeNo) → type_named scene.c (codes "bool") ≡ o → OrMemory is_memory (judged scene at made) r
    go None none = let never : refused code.UnknownType at ≡ Ok type = rw none at is in absurd (cc never)
    go (Some bool) found =
        let shown : Ok bool ≡ Ok type = rw found at is in
        let same : bool ≡ type = cc in
        rw (found, same) e
