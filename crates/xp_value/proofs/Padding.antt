-- What cutting spaces off the end leaves.
use Rattle.std.proofs.Common.{◌≡◌, ℕ, ◌-◌, List, [], ◌∷◌, ◌++◌, length, take, refl, sym, ap, ◌∙◌, subst, arith, Option, Some, None, cond, ◌==◌, true, false, eqb-true}
use Rattle.std.specs.Prelude.{IfSome}
use Rattle.std.specs.Str.Pattern.{CutsSuffixes, IsTrimEndMatches, FindsCharSuffix, HasCharAt}
use Rattle.std.proofs.lemmas.Str.Pattern.{drop_at_char}
use Rattle.std.proofs.lemmas.List.{take-append-drop}
use Rattle.xp_base.proofs.Lists.{drop_none}
use Rattle.xp_value.specs.Order.{before, unpadded}

-- a space at the end doesn't count
spaced : (s : List ℕ) → unpadded (s ++ 32 ∷ []) ≡ unpadded s
spaced [] = refl
spaced (c ∷ s) = ap (before c) (spaced s)

kept : (c : ℕ) (s : List ℕ) → ((front : List ℕ) → c ∷ s ≡ front ++ 32 ∷ [] → ⊥) → before c s ≡ c ∷ s
kept c [] h = elim (c == 32) as (λ b. (c == 32) ≡ b → cond b [] (c ∷ []) ≡ c ∷ []) [
  | true ↦ λ e. absurd (h [] (ap (λ d. d ∷ []) (eqb-true c 32 e)))
  | false ↦ λ e. refl
] refl
kept c (d ∷ s) h = refl

-- a text that doesn't end in a space is whole
whole : (s : List ℕ) → ((front : List ℕ) → s ≡ front ++ 32 ∷ [] → ⊥) → unpadded s ≡ s
whole [] h = refl
whole (c ∷ s) h = ap (before c) (whole s (λ front e. h (c ∷ front) (ap (λ r. c ∷ r) e))) ∙ kept c s h

-- a text whose last byte is a space
cut : (m : List ℕ) → HasCharAt 32 m (length m - 1) (length m) → m ≡ take (length m - 1) m ++ 32 ∷ []
cut m h =
    sym (take-append-drop (length m - 1) m)
    ∙ ap (λ r. take (length m - 1) m ++ r) (drop_at_char 32 m (length m - 1) (length m) h (omega arith) ∙ ap (λ r. 32 ∷ r) (drop_none m (length m) (omega arith)))

unpadded-cut : (m r : List ℕ) (n : ℕ) → n ≡ 1 → HasCharAt 32 m (length m - n) (length m) → r ≡ take (length m - n) m → unpadded r ≡ unpadded m
unpadded-cut m r n one h e =
    let at : HasCharAt 32 m (length m - 1) (length m) = subst (λ k. HasCharAt 32 m (length m - k) (length m)) one h in
    let is : r ≡ take (length m - 1) m = subst (λ k. r ≡ take (length m - k) m) one e in
    ap unpadded is ∙ sym (spaced (take (length m - 1) m)) ∙ sym (ap unpadded (cut m at))

unpadded-cuts : (s : List ℕ) (ns : List ℕ) (r : List ℕ) → CutsSuffixes (FindsCharSuffix 32) s ns r → unpadded r ≡ unpadded s
unpadded-cuts s [] r e = ap unpadded e
unpadded-cuts s (n ∷ ns) r c = unpadded-cut c.0 r n c.2.0 c.2.1 c.3 ∙ unpadded-cuts s ns c.0 c.1

settled : (r : List ℕ) (o : Option ℕ) → FindsCharSuffix 32 r o → IfSome o (λ n. n ≡ 0) → unpadded r ≡ r
unfolding lib.Utf8.encode
settled r None free none = whole r free
settled r (Some n) found none = let one : n ≡ 1 = found.0 in absurd (omega arith)

-- what is left when no space is left to cut
pub unpadded_trimmed : (s r : List ℕ) → IsTrimEndMatches (FindsCharSuffix 32) s r → r ≡ unpadded s
unpadded_trimmed s r t = sym (settled r t.1.0 t.1.1 t.1.2) ∙ unpadded-cuts s t.0.0 r t.0.1
