-- Where the parts before a `%` are first found, a search for what stands behind it may begin.
use Rattle.std.proofs.Common.{◌≡◌, ℕ, zero, suc, ◌+◌, ◌==◌, ◌&&◌, ◌||◌, Bool, true, false, List, [], ◌∷◌, refl, ap, sym, ◌∙◌, arith, cond, drop, length, Option, Some, None}
use Rattle.std.proofs.lemmas.List.{drop-drop}
use Rattle.xp_like.specs.Patterns.{matches, some_end}
use Rattle.xp_like.specs.inner.Runs.{behind, fits, is_nil, rest_matches, width}
use Rattle.xp_like.specs.declared.parts.Part.{Part}
use Rattle.xp_like.specs.declared.parts.Part.TheVariants.{AnyText, AnyOne, Plain}

and_assoc : (a b c : Bool) → a && (b && c) ≡ (a && b) && c
and_assoc true b c = refl
and_assoc false b c = refl

-- A pattern matches where its parts before the first `%` fit and what is behind matches the rest.
pub matches_in_two : (ps : List Part) (cs : List ℕ) → matches ps cs ≡ fits ps cs && rest_matches (behind ps) (drop (width ps) cs)
matches_in_two [] [] = refl
matches_in_two [] (c ∷ cs) = refl
matches_in_two (AnyText ∷ ps) cs = refl
matches_in_two (AnyOne ∷ ps) [] = refl
matches_in_two (AnyOne ∷ ps) (c ∷ cs) = matches_in_two ps cs
matches_in_two (Plain d ∷ ps) [] = refl
matches_in_two (Plain d ∷ ps) (c ∷ cs) = ap (λ b. c == d && b) (matches_in_two ps cs) ∙ and_assoc (c == d) (fits ps cs) (rest_matches (behind ps) (drop (width ps) cs))

-- the whole is an end
pub whole_end : (f : List ℕ → Bool) (cs : List ℕ) → f cs ≡ true → some_end f cs ≡ true
whole_end f [] e = e
whole_end f (c ∷ cs) e = ap (λ b. b || some_end f cs) e

or_right : (a b : Bool) → b ≡ true → a || b ≡ true
or_right true b e = refl
or_right false b e = e

-- an end of an end is an end
pub later_end : (f : List ℕ → Bool) (cs : List ℕ) (n : ℕ) → some_end f (drop n cs) ≡ true → some_end f cs ≡ true
later_end f cs zero e = e
later_end f [] (suc n) e = e
later_end f (c ∷ cs) (suc n) e = or_right (f (c ∷ cs)) (some_end f cs) (later_end f cs n e)

one_later : (f : List ℕ → Bool) (c : ℕ) (cs : List ℕ) → (n : ℕ) × (f (drop n cs) ≡ true) → (n : ℕ) × (f (drop n (c ∷ cs)) ≡ true)
one_later f c cs (n, p) = (suc n, p)

here_or_later : (f : List ℕ → Bool) (c : ℕ) (cs : List ℕ) (b : Bool) → f (c ∷ cs) ≡ b → b || some_end f cs ≡ true → (some_end f cs ≡ true → (n : ℕ) × (f (drop n cs) ≡ true)) → (n : ℕ) × (f (drop n (c ∷ cs)) ≡ true)
here_or_later f c cs true p q later = (0, p)
here_or_later f c cs false p q later = one_later f c cs (later q)

-- where an end passes, it is the list behind some elements
which_end : (f : List ℕ → Bool) (cs : List ℕ) → some_end f cs ≡ true → (n : ℕ) × (f (drop n cs) ≡ true)
which_end f [] e = (0, e)
which_end f (c ∷ cs) e = here_or_later f c cs (f (c ∷ cs)) refl e (which_end f cs)

same_truth : (a b : Bool) → (a ≡ true → b ≡ true) → (b ≡ true → a ≡ true) → a ≡ b
same_truth true b f g = sym (f refl)
same_truth false true f g = g refl
same_truth false false f g = refl

and_right : (a b : Bool) → a && b ≡ true → b ≡ true
and_right true b e = e
and_right false b e = cc

-- a pattern with a `%` that matches an end leaves an end of what the first fit leaves
pub greedy : (ps qs : List Part) (cs : List ℕ) → behind ps ≡ Some qs → fits ps cs ≡ true → some_end (matches ps) cs ≡ some_end (matches qs) (drop (width ps) cs)
greedy ps qs cs e f = same_truth (some_end (matches ps) cs) (some_end (matches qs) (drop (width ps) cs)) there back
  where
    two : (ds : List ℕ) → matches ps ds ≡ fits ps ds && some_end (matches qs) (drop (width ps) ds)
    two ds = matches_in_two ps ds ∙ ap (λ o. fits ps ds && rest_matches o (drop (width ps) ds)) e

    moved : (n : ℕ) → drop (width ps) (drop n cs) ≡ drop n (drop (width ps) cs)
    moved n = drop-drop (width ps) n cs ∙ ap (λ k. drop k cs) (omega arith) ∙ sym (drop-drop n (width ps) cs)

    at : (n : ℕ) → matches ps (drop n cs) ≡ true → some_end (matches qs) (drop (width ps) cs) ≡ true
    at n m = later_end (matches qs) (drop (width ps) cs) n (ap (some_end (matches qs)) (sym (moved n)) ∙ and_right (fits ps (drop n cs)) (some_end (matches qs) (drop (width ps) (drop n cs))) (sym (two (drop n cs)) ∙ m))

    found : (n : ℕ) × (matches ps (drop n cs) ≡ true) → some_end (matches qs) (drop (width ps) cs) ≡ true
    found (n, m) = at n m

    there : some_end (matches ps) cs ≡ true → some_end (matches qs) (drop (width ps) cs) ≡ true
    there m = found (which_end (matches ps) cs m)

    back : some_end (matches qs) (drop (width ps) cs) ≡ true → some_end (matches ps) cs ≡ true
    back m = whole_end (matches ps) cs (two cs ∙ ap (λ b. b && some_end (matches qs) (drop (width ps) cs)) f ∙ m)

-- the search goes on behind a character at which nothing was found
pub search_on : (ps : List Part) (c : ℕ) (cs : List ℕ) → matches ps (c ∷ cs) ≡ false → some_end (matches ps) (c ∷ cs) ≡ some_end (matches ps) cs
search_on ps c cs e = ap (λ b. b || some_end (matches ps) cs) e

pub no_match : (ps : List Part) (cs : List ℕ) → fits ps cs ≡ false → matches ps cs ≡ false
no_match ps cs e = matches_in_two ps cs ∙ ap (λ b. b && rest_matches (behind ps) (drop (width ps) cs)) e

fitting : (ps : List Part) (cs rest : List ℕ) (o : Option (List Part)) → fits ps cs ≡ true → behind ps ≡ o → rest ≡ drop (width ps) cs → matches ps cs ≡ rest_matches o rest
fitting ps cs rest o e f r =
    matches_in_two ps cs
    ∙ ap (λ b. b && rest_matches (behind ps) (drop (width ps) cs)) e
    ∙ ap (λ p. rest_matches p (drop (width ps) cs)) f
    ∙ ap (rest_matches o) (sym r)

-- without a `%` nothing may be left
pub match_to_end : (ps : List Part) (cs rest : List ℕ) → fits ps cs ≡ true → behind ps ≡ None → rest ≡ drop (width ps) cs → matches ps cs ≡ is_nil rest
match_to_end ps cs rest e f r = fitting ps cs rest None e f r

pub match_before_any : (ps qs : List Part) (cs rest : List ℕ) → fits ps cs ≡ true → behind ps ≡ Some qs → rest ≡ drop (width ps) cs → matches ps cs ≡ some_end (matches qs) rest
match_before_any ps qs cs rest e f r = fitting ps cs rest (Some qs) e f r
