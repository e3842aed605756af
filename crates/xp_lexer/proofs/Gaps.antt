-- White space and comments: the function finds what the definition says, and nothing else.
use Rattle.std.proofs.Common.{◌≡◌, ℕ, ◌+◌, ◌-◌, ◌<◌, Bool, true, false, ◌&&◌, ◌==◌, cond, [], ◌∷◌, Option, Some, None, refl, sym, subst, ◌∙◌, arith}
use Rattle.std.proofs.lemmas.Bool.Decides.{nat_tests}
use Rattle.xp_lexer.specs.Bytes.{Text}
use Rattle.xp_lexer.specs.inner.Cutting.{line_rest, comment_rest}
use Rattle.xp_lexer.specs.Grammar.{Line, Comments}

pub line_is : (z rest : Text) → Line z rest → line_rest z ≡ rest
line_is z rest Line.at_end = refl
line_is z rest (Line.at_newline y) = refl
line_is z rest (Line.passes b y r other more) = rw other (line_is y r more)

pub line_found : (z : Text) → Line z (line_rest z)
line_found [] = Line.at_end
line_found (b ∷ z) = by (b == 10) refl (line_found z)
  where
    by : (v : Bool) → (b == 10) ≡ v → Line z (line_rest z) → Line (b ∷ z) (cond v (b ∷ z) (line_rest z))
    by true e more = let f : 10 ≡ b = grind (arith, nat_tests) in subst (λ x. Line (x ∷ z) (x ∷ z)) f (Line.at_newline z)
    by false e more = Line.passes b z (line_rest z) e more

-- the text behind n open comments
abbrev pub behind_open : ℕ → Text → Option Text
behind_open n z = cond (n == 0) (Some z) (comment_rest n false z)

open_is : (n : ℕ) (z : Text) → 0 < n → behind_open n z ≡ comment_rest n false z
open_is n z some = let e : (n == 0) ≡ false = grind (arith, nat_tests) in rw e refl

pub comments_are : (n : ℕ) (z rest : Text) → Comments n z rest → behind_open n z ≡ Some rest
comments_are n z rest (Comments.closed r) = refl
comments_are n z rest (Comments.opens m y r some more) = open_is m _ some ∙ comments_are (m + 1) y r more
comments_are n z rest (Comments.closes m y r some more) = open_is m _ some ∙ comments_are (m - 1) y r more
comments_are n z rest (Comments.other m b y r some e f more) = open_is m _ some ∙ rw (e, f) (sym (open_is m y some) ∙ comments_are m y r more)

pub comments_found : (n : ℕ) (z rest : Text) → behind_open n z ≡ Some rest → Comments n z rest
comments_found n [] rest e = by (n == 0) refl e
  where
    by : (v : Bool) → (n == 0) ≡ v → cond v (Some []) None ≡ Some rest → Comments n [] rest
    by true f e = let g : 0 ≡ n = grind (arith, nat_tests) in let q : [] ≡ rest = cc in subst (λ m. Comments m [] rest) g (subst (λ y. Comments 0 [] y) q (Comments.closed []))
    by false f e = absurd cc
comments_found n (b ∷ []) rest e = by (n == 0) refl e
  where
    by : (v : Bool) → (n == 0) ≡ v → cond v (Some (b ∷ [])) (comment_rest n false (b ∷ [])) ≡ Some rest → Comments n (b ∷ []) rest
    by true f e = let g : 0 ≡ n = grind (arith, nat_tests) in let q : b ∷ [] ≡ rest = cc in subst (λ m. Comments m (b ∷ []) rest) g (subst (λ y. Comments 0 (b ∷ []) y) q (Comments.closed (b ∷ [])))
    by false f e = absurd (short (b == 47) (b == 42) e)
      where
        short : (v w : Bool) → cond (v && false) None (cond (w && false) None None) ≡ Some rest → ⊥
        short true true e = cc
        short true false e = cc
        short false true e = cc
        short false false e = cc
comments_found n (b ∷ c ∷ z) rest e = by (n == 0) refl (comments_found (n + 1) z rest) (comments_found (n - 1) z rest) (comments_found n (c ∷ z) rest) e
  where
    pair_first : (p q : ℕ) → (b == p && c == q) ≡ true → p ≡ b
    pair_first p q h = grind (arith, nat_tests)

    pair_second : (p q : ℕ) → (b == p && c == q) ≡ true → q ≡ c
    pair_second p q h = grind (arith, nat_tests)

    pair : (p q : ℕ) → (b == p && c == q) ≡ true → (p ≡ b) × (q ≡ c)
    pair p q h = (pair_first p q h, pair_second p q h)

    inside : 0 < n → (v w : Bool) → (b == 47 && c == 42) ≡ v → (b == 42 && c == 47) ≡ w
        → (behind_open (n + 1) z ≡ Some rest → Comments (n + 1) z rest) → (behind_open (n - 1) z ≡ Some rest → Comments (n - 1) z rest) → (behind_open n (c ∷ z) ≡ Some rest → Comments n (c ∷ z) rest)
        → cond v (behind_open (n + 1) z) (cond w (behind_open (n - 1) z) (comment_rest n false (c ∷ z))) ≡ Some rest → Comments n (b ∷ c ∷ z) rest
    inside some true w f g up down on e = let h = pair 47 42 f in subst (λ x. Comments n (x ∷ c ∷ z) rest) h.0 (subst (λ x. Comments n (47 ∷ x ∷ z) rest) h.1 (Comments.opens n z rest some (up e)))
    inside some false true f g up down on e = let h = pair 42 47 g in subst (λ x. Comments n (x ∷ c ∷ z) rest) h.0 (subst (λ x. Comments n (42 ∷ x ∷ z) rest) h.1 (Comments.closes n z rest some (down e)))
    inside some false false f g up down on e = Comments.other n b (c ∷ z) rest some f g (on (open_is n (c ∷ z) some ∙ e))

    by : (v : Bool) → (n == 0) ≡ v
        → (behind_open (n + 1) z ≡ Some rest → Comments (n + 1) z rest) → (behind_open (n - 1) z ≡ Some rest → Comments (n - 1) z rest) → (behind_open n (c ∷ z) ≡ Some rest → Comments n (c ∷ z) rest)
        → cond v (Some (b ∷ c ∷ z)) (comment_rest n false (b ∷ c ∷ z)) ≡ Some rest → Comments n (b ∷ c ∷ z) rest
    by true f up down on e = let g : 0 ≡ n = grind (arith, nat_tests) in let q : b ∷ c ∷ z ≡ rest = cc in subst (λ m. Comments m (b ∷ c ∷ z) rest) g (subst (λ y. Comments 0 (b ∷ c ∷ z) y) q (Comments.closed (b ∷ c ∷ z)))
    by false f up down on e = let some : 0 < n = grind (arith, nat_tests) in inside some (b == 47 && c == 42) (b == 42 && c == 47) refl refl up down on e
