-- String constants: the function finds what the definition says, and nothing else.
use Rattle.std.proofs.Common.{◌≡◌, ℕ, zero, suc, ◌+◌, ◌-◌, ◌<◌, ◌≤◌, Bool, true, false, not, ◌&&◌, ◌||◌, ◌==◌, cond, [], ◌∷◌, ◌++◌, length, Option, Some, None, Result, Ok, Err, ◌⊎◌, inl, inr, refl, sym, ap, subst, ◌∙◌, arith, append_assoc}
use Rattle.std.proofs.lemmas.Bool.{and_parts}
use Rattle.std.proofs.lemmas.Bool.Decides.{nat_tests}
use Rattle.xp_lexer.specs.declared.scan_error.ScanError.{ScanError}
use Rattle.xp_lexer.specs.declared.scan_error.ScanError.TheVariants as error
use Rattle.xp_lexer.specs.Bytes.{Text, is_space}
use Rattle.xp_lexer.specs.inner.Cutting.{◌>>=◌, continued, part, all_parts, string}
use Rattle.xp_lexer.specs.Meaning.{clean_len}
use Rattle.xp_token.specs.Lexemes.{Constant}
use Rattle.xp_lexer.specs.Grammar.{Quoted, IsClean, Continues, Parts, BadParts}
use Rattle.xp_lexer.proofs.Parts.{continued_within, all_parts_end, all_parts_more}
use Rattle.xp_lexer.proofs.Quoting.{quoted_cases, clean_cases, part_is, part_spoilt, part_open}

both_false : (v w : Bool) → w ≡ false → (v && w) ≡ false
both_false true w e = e
both_false false w e = refl

space_no_quote : (b : ℕ) → is_space b ≡ true → (b == 39) ≡ false
space_no_quote b h = grind (arith, nat_tests)

pub continues_is : (s : Bool) (z rest : Text) → Continues s z rest → continued s z ≡ Some (39 ∷ rest)
continues_is s z rest (Continues.at_quote y) = refl
continues_is s z rest (Continues.space t b y r sp more) = rw (both_false t (b == 39) (space_no_quote b sp), sp) (continues_is (t || b == 10) y r more)

abbrev GoesOn : Bool → Text → Text → Type 0
GoesOn s z q = (rest : Text) × (q ≡ 39 ∷ rest) × Continues s z rest

continues_found : (s : Bool) (z q : Text) → continued s z ≡ Some q → GoesOn s z q
continues_found s [] q e = absurd cc
continues_found s (b ∷ z) q e = by (s && b == 39) refl (is_space b) refl (continues_found (s || b == 10) z q) e
  where
    at : (t : Bool) → t ≡ true → 39 ≡ b → b ∷ z ≡ q → GoesOn t (b ∷ z) q
    at true f g h = (z, sym h ∙ ap (λ x. x ∷ z) (sym g), subst (λ x. Continues true (x ∷ z) z) g (Continues.at_quote z))
    at false f g h = absurd cc

    by : (v : Bool) → (s && b == 39) ≡ v → (w : Bool) → is_space b ≡ w → (continued (s || b == 10) z ≡ Some q → GoesOn (s || b == 10) z q)
        → cond v (Some (b ∷ z)) (cond (not w) None (continued (s || b == 10) z)) ≡ Some q → GoesOn s (b ∷ z) q
    by true f w g more e = let p = and_parts s (b == 39) f in let n : (b == 39) ≡ true = p.1 in at s p.0 (grind (arith, nat_tests)) (cc)
    by false f false g more e = absurd cc
    by false f true g more e = let (rest, h, c) = more e in (rest, h, Continues.space s b z rest g c)

-- the text so far, with a part and all parts that follow
abbrev pub text_of : Text → Text → Result (Text × Text) ScanError
text_of acc z = part 39 z >>= (λ p. all_parts (acc ++ p.0) p.1)

no_more : (z : Text) → ((next : Text) → Continues false z next → ⊥) → continued false z ≡ None
no_more z none = by (continued false z) refl
  where
    by : (o : Option Text) → continued false z ≡ o → o ≡ None
    by None e = refl
    by (Some q) e = let (rest, h, c) = continues_found false z q e in absurd (none rest c)

-- a part, and what goes on behind it
goes_on : (acc z raw text behind next : Text) → Quoted 39 z raw text behind → IsClean raw → Continues false behind next → text_of acc z ≡ text_of (acc ++ text) next
goes_on acc z raw text behind next q clean c = rw (part_is 39 z raw text behind q clean) (all_parts_more (acc ++ text) behind (39 ∷ next) (continues_is false behind next c))

pub parts_are : (acc z text rest : Text) → Parts z text rest → text_of acc z ≡ Ok (acc ++ text, rest)
parts_are acc z text rest (Parts.last y raw t r q clean none) = rw (part_is 39 y raw t r q clean) (all_parts_end (acc ++ t) r (no_more r none))
parts_are acc z text rest (Parts.more y raw t behind next others r q clean c behind_it) =
    goes_on acc y raw t behind next q clean c ∙ parts_are (acc ++ t) next others r behind_it ∙ ap (λ x. Ok (x, r)) (append_assoc acc t others)

pub bad_parts_are : (acc z : Text) (t : ScanError) → BadParts z t → text_of acc z ≡ Err t
bad_parts_are acc z t (BadParts.unclosed y open_) = rw (part_open 39 y open_) refl
bad_parts_are acc z t (BadParts.spoilt y raw text rest q less) = rw (part_spoilt 39 y raw text rest q less) refl
bad_parts_are acc z t (BadParts.later y raw text behind next u q clean c behind_it) = goes_on acc y raw text behind next q clean c ∙ bad_parts_are (acc ++ text) next u behind_it

abbrev pub HasParts : Text → Type 0
HasParts z = ((text : Text) × (rest : Text) × Parts z text rest) ⊎ ((t : ScanError) × BadParts z t)

quoted_shorter : (q : ℕ) (z raw text rest : Text) → Quoted q z raw text rest → length rest < length z
quoted_shorter q z raw text rest (Quoted.ends r e) = omega arith
quoted_shorter q z raw text rest (Quoted.doubled y w t r more) = omega (arith, quoted_shorter q y w t r more)
quoted_shorter q z raw text rest (Quoted.byte b y w t r e more) = omega (arith, quoted_shorter q y w t r more)

later_so : (z raw text behind next : Text) → Quoted 39 z raw text behind → IsClean raw → Continues false behind next → HasParts next → HasParts z
later_so z raw text behind next q clean c (inl (others, rest, m)) = inl (text ++ others, rest, Parts.more z raw text behind next others rest q clean c m)
later_so z raw text behind next q clean c (inr (t, b)) = inr (t, BadParts.later z raw text behind next t q clean c b)

clean_so : (z raw text behind : Text) → Quoted 39 z raw text behind → IsClean raw → ((next : Text) → length next < length z → HasParts next) → HasParts z
clean_so z raw text behind q clean go = by (continued false behind) refl
  where
    by : (o : Option Text) → continued false behind ≡ o → HasParts z
    by None e = inl (text, behind, Parts.last z raw text behind q clean (λ next c. let f = continues_is false behind next c in absurd cc))
    by (Some p) e =
        let (next, h, c) = continues_found false behind p e in
        let w = continued_within false behind p e in
        later_so z raw text behind next q clean c (go next (omega (arith, w.0, ap length h, quoted_shorter 39 z raw text behind q)))

quoted_so : (z raw text behind : Text) → Quoted 39 z raw text behind → ((next : Text) → length next < length z → HasParts next) → HasParts z
quoted_so z raw text behind q go = elim (clean_cases raw) [
  | inl less ↦ inr (error.BadByte (length z - clean_len raw), BadParts.spoilt z raw text behind q less)
  | inr clean ↦ clean_so z raw text behind q clean go
]

parts_step : (z : Text) → ((next : Text) → length next < length z → HasParts next) → HasParts z
parts_step z go = elim (quoted_cases 39 z) [
  | inl open_ ↦ inr (error.Unclosed (length z + 1), BadParts.unclosed z open_)
  | inr q ↦ quoted_so z q.0 q.1 q.2 q.3 go
]

-- behind an opening quote stands a constant, or something is wrong with it
parts_within : (n : ℕ) (z : Text) → length z ≤ n → HasParts z
parts_within zero z h = parts_step z (λ next k. absurd (omega arith))
parts_within (suc n) z h = parts_step z (λ next k. parts_within n next (omega arith))

pub parts_cases : (z : Text) → HasParts z
parts_cases z = parts_within (length z) z (omega arith)

pub string_is : (z text rest : Text) → Parts z text rest → string z ≡ Ok (Constant text, rest)
unfolding string
string_is z text rest h = rw (parts_are [] z text rest h) refl

pub string_bad : (z : Text) (t : ScanError) → BadParts z t → string z ≡ Err t
unfolding string
string_bad z t h = rw (bad_parts_are [] z t h) refl
