-- Results that are refused by their size.
use Rattle.std.proofs.Common.{◌≡◌, ℕ, ◌<◌, ◌≤◌, List, length, refl, ap, sym, ◌∙◌, arith, false, Result, Ok, Err, IsErrAnd}
use Rattle.xp_base.specs.OrMemory.{OrMemory}
use Rattle.xp_base.specs.declared.limits.TheConstants.{VALUE_LIMIT}
use Rattle.xp_characters.specs.Faults.{is_memory, limited, too_large}
use Rattle.xp_characters.specs.declared.fault.TextFault.{TextFault}
use Rattle.xp_characters.specs.declared.fault.TextFault.TheVariants.{Memory, Raised}

pub limited_large : (whole : List ℕ) → VALUE_LIMIT < length whole → limited whole ≡ Err too_large
limited_large whole h = grind arith

pub limited_small : (whole : List ℕ) → length whole ≤ VALUE_LIMIT → limited whole ≡ Ok whole
limited_small whole h = grind arith

-- what is handed on is want of memory, or the limit where the whole is too large
pub refused : (whole : List ℕ) (result : Result (List ℕ) TextFault) (e : TextFault) → IsErrAnd result (λ other. other ≡ e) → (is_memory e ≡ false → (e ≡ too_large) × (VALUE_LIMIT < length whole)) → OrMemory is_memory (limited whole) result
refused whole (Ok bytes) e same h = absurd same
refused whole (Err Memory) e same h = tt
refused whole (Err (Raised x)) e same h =
    let large = h (ap is_memory (sym same)) in
    limited_large whole large.1 ∙ ap Err (sym large.0 ∙ sym same)
