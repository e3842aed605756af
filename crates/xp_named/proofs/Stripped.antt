-- A name with and without brackets at its end.
use Rattle.std.proofs.Common.{◌≡◌, ℕ, ◌-◌, List, ◌++◌, Bool, true, false, length, refl, sym, ◌∙◌, codes, drop, take, Some, None}
use Rattle.std.specs.Prelude.{◌≢◌}
use Rattle.std.specs.Str.{bytes_eq}
use Rattle.std.proofs.lemmas.List.{append_cancel_left, take-append-drop}
use Rattle.std.proofs.lemmas.Slice.Eq.{bytes_eq-Decides}
use Rattle.xp_named.specs.Named.{before_brackets}

pub with_brackets : (s t : List ℕ) (k : ℕ) → k ≡ 2 → s ≡ take (length s - k) s ++ codes "[]" → t ≡ take (length s - k) s → Some t ≡ before_brackets s
with_brackets s t k two is front =
    let n = length s - 2 in
    let ends : drop (length s - 2) s ≡ codes "[]" = append_cancel_left (take (length s - 2) s) (drop (length s - 2) s) (codes "[]") (take-append-drop (length s - 2) s ∙ (rw two at is)) in
    let yes : bytes_eq (drop (length s - 2) s) (codes "[]") ≡ true = (bytes_eq-Decides (drop (length s - 2) s) (codes "[]")).1 ends in
    let kept : t ≡ take (length s - 2) s = rw two at front in
    rw (yes, kept) refl

pub without_brackets : (s : List ℕ) → ((front : List ℕ) → s ≢ front ++ codes "[]") → None ≡ before_brackets s
without_brackets s none = by (bytes_eq (drop (length s - 2) s) (codes "[]")) refl
  where
    by : (b : Bool) → bytes_eq (drop (length s - 2) s) (codes "[]") ≡ b → None ≡ before_brackets s
    by true e =
        let ends : drop (length s - 2) s ≡ codes "[]" = (bytes_eq-Decides (drop (length s - 2) s) (codes "[]")).0 e in
        let is : take (length s - 2) s ++ codes "[]" ≡ s = rw ends at (take-append-drop (length s - 2) s) in
        absurd (none (take (length s - 2) s) (sym is))
    by false e = rw e refl
