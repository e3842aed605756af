-- When a text is clean.
use Rattle.std.proofs.Common.{◌≡◌, ℕ, List, true, false, ◌&&◌, Bool, refl}
use Rattle.std.specs.Str.{IsUtf8, is_utf8}
use Rattle.std.proofs.lemmas.Bool.{false_from_ne_true}
use Rattle.std.proofs.lemmas.Str.{IsUtf8-from_is_utf8, is_utf8-from_IsUtf8}
use Rattle.xp_io.specs.Forms.{has_zero_byte, is_clean}

pub is_clean_text : (text : List ℕ) → IsUtf8 text → has_zero_byte text ≡ false → is_clean text ≡ true
is_clean_text text utf8 none = let valid : is_utf8 text ≡ true = is_utf8-from_IsUtf8 text utf8 in rw (valid, none) refl

pub no_utf8 : (text : List ℕ) → ¬ (IsUtf8 text) → is_clean text ≡ false
no_utf8 text other = let invalid : is_utf8 text ≡ false = false_from_ne_true (is_utf8 text) (λ e. other (IsUtf8-from_is_utf8 text e)) in rw invalid refl

neither : (b : Bool) → (b && false) ≡ false
neither true = refl
neither false = refl

pub zero_byte : (text : List ℕ) → has_zero_byte text ≡ true → is_clean text ≡ false
zero_byte text some = rw some (neither (is_utf8 text))
