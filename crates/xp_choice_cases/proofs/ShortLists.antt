-- That each candidate of a short list has its slots.
use Rattle.std.proofs.Common.{◌≡◌, ℕ, zero, suc, List, [], ◌∷◌, length, arith}
use Rattle.xp_overload.specs.Places.{HaveSlots}
use Rattle.xp_overload.specs.declared.slots.InSlot.{InSlot}

pub three_have_slots : (a b c : List InSlot) (count : ℕ) → length a ≡ count → length b ≡ count → length c ≡ count → HaveSlots (a ∷ b ∷ c ∷ []) count
three_have_slots a b c count for_a for_b for_c zero within = for_a
three_have_slots a b c count for_a for_b for_c (suc zero) within = for_b
three_have_slots a b c count for_a for_b for_c (suc (suc zero)) within = for_c
three_have_slots a b c count for_a for_b for_c (suc (suc (suc place))) within = absurd (omega arith)
