-- The parts of a string constant, one after the other.
use Rattle.std.proofs.Common.{◌≡◌, ℕ, zero, suc, ◌+◌, ◌<◌, ◌≤◌, Bool, true, false, not, ◌&&◌, ◌||◌, ◌==◌, cond, [], ◌∷◌, ◌++◌, length, take, drop, Option, Some, None, Result, Ok, Err, refl, sym, subst, ◌∙◌, arith}
use Rattle.std.specs.Prelude.{nat_lt}
use Rattle.std.proofs.lemmas.List.{length-drop}
use Rattle.xp_lexer.specs.declared.scan_error.ScanError.{ScanError}
use Rattle.xp_lexer.specs.Bytes.{Text, is_space}
use Rattle.xp_lexer.specs.declared.scan_error.ScanError.TheVariants as error
use Rattle.xp_lexer.specs.inner.Cutting.{◌>>=◌, Fails, undoubled, raw_len, part_of, part, continued, then_more, more_parts, all_parts}
use Rattle.xp_lexer.specs.Meaning.{clean_len}

pub bind_same : {A B : Type 0} (r : Result A ScanError) (f g : A → Result B ScanError) → ((x : A) → r ≡ Ok x → f x ≡ g x) → (r >>= f) ≡ (r >>= g)
bind_same (Ok x) f g same = same x refl
bind_same (Err e) f g same = refl

pub bind_ok : {A B : Type 0} (r : Result A ScanError) (f : A → Result B ScanError) (y : B) → (r >>= f) ≡ Ok y → (x : A) × (r ≡ Ok x) × (f x ≡ Ok y)
bind_ok (Ok x) f y e = (x, refl, e)
bind_ok (Err t) f y e = absurd cc

raw_len_some : (quote : ℕ) (z : Text) (n : ℕ) → raw_len quote false 0 z ≡ Some n → 0 < length z
raw_len_some quote [] n e = absurd cc
raw_len_some quote (b ∷ z) n e = omega arith

pub part_shorter : (quote : ℕ) (z : Text) (p : Text × Text) → part quote z ≡ Ok p → length p.1 < length z
unfolding part
part_shorter quote z p e = by (raw_len quote false 0 z) refl e
  where
    chosen : (n : ℕ) (v : Bool) (t : ScanError) → 0 < length z → cond v (Err t) (Ok (undoubled quote false (take n z), drop (n + 1) z)) ≡ Ok p → length p.1 < length z
    chosen n true t some e = absurd cc
    chosen n false t some e = let q : (undoubled quote false (take n z), drop (n + 1) z) ≡ p = cc in subst (λ (y : Text × Text). length y.1 < length z) q (omega (arith, length-drop (n + 1) z))

    by : (o : Option ℕ) → raw_len quote false 0 z ≡ o → part_of quote z o ≡ Ok p → length p.1 < length z
    by None was e = absurd cc
    by (Some n) was e = chosen n (nat_lt (clean_len (take n z)) n) _ (raw_len_some quote z n was) e

pub continued_within : (s : Bool) (z q : Text) → continued s z ≡ Some q → (length q ≤ length z) × (0 < length q)
continued_within s [] q e = absurd cc
continued_within s (b ∷ z) q e = by (s && b == 39) (not (is_space b)) (continued_within (s || b == 10) z q) e
  where
    by : (v w : Bool) → (continued (s || b == 10) z ≡ Some q → (length q ≤ length z) × (0 < length q)) → cond v (Some (b ∷ z)) (cond w None (continued (s || b == 10) z)) ≡ Some q → (length q ≤ length (b ∷ z)) × (0 < length q)
    by true w more e = let q' : b ∷ z ≡ q = cc in subst (λ (y : Text). (length y ≤ length (b ∷ z)) × (0 < length y)) q' (omega arith, omega arith)
    by false true more e = absurd cc
    by false false more e = let m = more e in (omega (arith, m.0), m.1)

-- more turns than bytes change nothing
more_fuel : (n m : ℕ) (text z : Text) → length z ≤ n → length z ≤ m → more_parts n text z ≡ more_parts m text z
more_fuel zero zero text z h k = refl
more_fuel zero (suc m) text [] h k = refl
more_fuel zero (suc m) text (b ∷ z) h k = absurd (omega arith)
more_fuel (suc n) zero text [] h k = refl
more_fuel (suc n) zero text (b ∷ z) h k = absurd (omega arith)
more_fuel (suc n) (suc m) text z h k = by (λ text' z'. more_fuel n m text' z') (continued false z) refl
  where
    by : ((text z : Text) → length z ≤ n → length z ≤ m → more_parts n text z ≡ more_parts m text z) → (o : Option Text) → continued false z ≡ o → then_more (more_parts n) text z o ≡ then_more (more_parts m) text z o
    by same None was = refl
    by same (Some q) was =
        let w = continued_within false z q was in
        bind_same (part 39 (drop 1 q)) _ _ (λ p e. let s = part_shorter 39 (drop 1 q) p e in same (text ++ p.0) p.1 (omega (arith, s, length-drop 1 q, w.0, w.1)) (omega (arith, s, length-drop 1 q, w.0, w.1)))

pub all_parts_end : (text z : Text) → continued false z ≡ None → all_parts text z ≡ Ok (text, z)
unfolding all_parts
all_parts_end text [] e = refl
all_parts_end text (b ∷ z) e = rw e refl

pub all_parts_more : (text z q : Text) → continued false z ≡ Some q → all_parts text z ≡ (part 39 (drop 1 q) >>= (λ p. all_parts (text ++ p.0) p.1))
unfolding all_parts
all_parts_more text [] q e = absurd cc
all_parts_more text (b ∷ z) q e =
    let w = continued_within false (b ∷ z) q e in
    rw e (bind_same (part 39 (drop 1 q)) _ _ (λ p f. let s = part_shorter 39 (drop 1 q) p f in more_fuel (length z) (length p.1) (text ++ p.0) p.1 (omega (arith, s, length-drop 1 q, w.0, w.1)) (omega arith)))

pub all_parts_goes : (text z q t : Text) (p : Text × Text) → Some q ≡ continued false z → t ≡ drop 1 q → part 39 t ≡ Ok p → all_parts text z ≡ all_parts (text ++ p.0) p.1
all_parts_goes text z q t p e f g = all_parts_more text z q (sym e) ∙ rw (← f, g) refl

pub all_parts_fails : (text z q t : Text) (x : ScanError) → Some q ≡ continued false z → t ≡ drop 1 q → Fails x (part 39 t) → Fails x (all_parts text z)
all_parts_fails text z q t error.Memory e f g = tt
all_parts_fails text z q t (error.BadByte left) e f g = all_parts_more text z q (sym e) ∙ rw (← f, g) refl
all_parts_fails text z q t (error.Unclosed left) e f g = all_parts_more text z q (sym e) ∙ rw (← f, g) refl
all_parts_fails text z q t (error.TooManyTokens left) e f g = all_parts_more text z q (sym e) ∙ rw (← f, g) refl
