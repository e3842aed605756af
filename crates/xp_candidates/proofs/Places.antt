-- The candidates at the places that masks mark, and what the steps leave of them.
use Rattle.std.proofs.Common.{◌≡◌, ℕ, zero, suc, ◌+◌, ◌<◌, List, [], ◌∷◌, Bool, true, false, cond, length, map, refl, sym, subst, ◌∙◌, ap, ◌≤◌, arith}
use Rattle.std.specs.List.{All, filter}
use Rattle.std.proofs.lemmas.List.Elements.{All-cons, All-head, All-nil, All-tail, All-weaker}
use Rattle.std.proofs.lemmas.List.{length-map}
use Rattle.std.proofs.lemmas.Bool.{and_parts}
use Rattle.xp_base.specs.declared.numbers.TypeNo.{TypeNo}
use Rattle.xp_catalog.specs.Contents.{Contents}
use Rattle.xp_overload.specs.Places.{HaveSlots, is_marked, kept, kept_from, slots_at}
use Rattle.xp_overload.specs.Choosing.{left}
use Rattle.xp_overload.specs.declared.slots.InSlot.{InSlot}
use Rattle.xp_overload.proofs.Left.{All-kept, All-left, one-left}
use Rattle.xp_overload.proofs.Mapped.{left-mapped}
use Rattle.xp_poly.specs.Acceptance.{accepts}
use Rattle.xp_candidates.specs.Known.{bases, known_type}
use Rattle.xp_candidates.specs.Accepted.{IsCandidate, takes, takes_as}
use Rattle.xp_candidates.specs.Slots.{slots_of}
use Rattle.xp_candidates.specs.Chosen.{accepting, narrowed, outcome, remaining}
use Rattle.xp_candidates.specs.inner.Marked.{AcceptsOne, candidate_at, first_two, outcome_at, those}
use Rattle.xp_candidates.specs.declared.candidate.Candidate.{Candidate}
use Rattle.xp_candidates.specs.declared.marked.Marked.TheVariants.{Several}

-- each candidate has a slot for each input
pub have_slots : (c : Contents) (inputs : List TypeNo) (candidates : List Candidate) → All (IsCandidate c (length inputs)) candidates → HaveSlots (map (λ candidate. slots_of c candidate.declared) candidates) (length (slots_of c inputs))
have_slots c inputs [] each place within = absurd (omega arith)
have_slots c inputs (candidate ∷ candidates) each zero within = let one : IsCandidate c (length inputs) candidate = All-head (IsCandidate c (length inputs)) candidate candidates each in simp length-map one.arity
have_slots c inputs (candidate ∷ candidates) each (suc place) within = have_slots c inputs candidates (All-tail (IsCandidate c (length inputs)) candidate candidates each) place (omega arith)

slots-at : (c : Contents) (candidates : List Candidate) (place : ℕ) → slots_at (map (λ candidate. slots_of c candidate.declared) candidates) place ≡ slots_of c (candidate_at candidates place).declared
slots-at c [] place = refl
slots-at c (candidate ∷ candidates) zero = refl
slots-at c (candidate ∷ candidates) (suc place) = slots-at c candidates place

passes-at : (test : Candidate → Bool) (candidates : List Candidate) (place : ℕ) → place < length candidates → is_marked (map test candidates) place ≡ test (candidate_at candidates place)
passes-at test [] place within = absurd (omega arith)
passes-at test (candidate ∷ candidates) zero within = refl
passes-at test (candidate ∷ candidates) (suc place) within = passes-at test candidates place (omega arith)

marked-within : (marks : List Bool) (place : ℕ) → is_marked marks place ≡ true → place < length marks
marked-within [] place is = cc
marked-within (mark ∷ marks) zero is = omega arith
marked-within (mark ∷ marks) (suc place) is = let later = marked-within marks place is in omega (arith, later)

those-step : (test : Bool) (f : ℕ → Candidate) (place : ℕ) (places : List ℕ) (candidate : Candidate) (candidates : List Candidate) → f place ≡ candidate → map f places ≡ candidates → map f (cond test (place ∷ places) places) ≡ cond test (candidate ∷ candidates) candidates
those-step true f place places candidate candidates here rest = rw (here, rest) refl
those-step false f place places candidate candidates here rest = rest

those-from : (test : Candidate → Bool) (whole xs : List Candidate) (i : ℕ) → ((k j : ℕ) → j ≡ i + k → k < length xs → candidate_at whole j ≡ candidate_at xs k) → map (candidate_at whole) (kept_from i (map test xs)) ≡ filter test xs
those-from test whole [] i same = refl
those-from test whole (x ∷ xs) i same =
    those-step (test x) (candidate_at whole) i (kept_from (i + 1) (map test xs)) x (filter test xs) (same 0 i (omega arith) (omega arith)) (those-from test whole xs (i + 1) (λ k j at within. same (suc k) j (omega arith) (omega arith)))

-- what a test marks are those that pass it
pub those-marked : (test : Candidate → Bool) (candidates : List Candidate) → those candidates (kept (map test candidates)) ≡ filter test candidates
those-marked test candidates = those-from test candidates candidates 0 (λ k j at within. let here : j ≡ k = omega arith in ap (candidate_at candidates) here)

-- what the steps leave of the marked places are the places of those that they leave of the candidates there
pub those-narrowed : (c : Contents) (inputs : List TypeNo) (candidates : List Candidate) (keep : List Bool) (answer : List ℕ) (slots : List (List InSlot)) (own : List InSlot) (known : List Bool) → length keep ≡ length candidates → answer ≡ left (slots_at slots) (is_marked known) own (kept keep) → slots ≡ map (λ candidate. slots_of c candidate.declared) candidates → own ≡ slots_of c inputs → known ≡ map (takes_as c (known_type inputs) inputs) candidates → those candidates answer ≡ narrowed c inputs (those candidates (kept keep))
those-narrowed c inputs candidates keep answer slots own known same is by_slots by_own by_known =
    let slots_of_all = map (λ candidate. slots_of c candidate.declared) candidates in
    let test = takes_as c (known_type inputs) inputs in
    let marks = map test candidates in
    let by : answer ≡ left (slots_at slots_of_all) (is_marked marks) (slots_of c inputs) (kept keep) =
    is ∙ ap (λ s. left (slots_at s) (is_marked known) own (kept keep)) by_slots ∙ ap (λ o. left (slots_at slots_of_all) (is_marked known) o (kept keep)) by_own ∙ ap (λ k. left (slots_at slots_of_all) (is_marked k) (slots_of c inputs) (kept keep)) by_known in
    let each : All (λ place. is_marked marks place ≡ test (candidate_at candidates place)) (kept keep) =
    All-weaker (λ place. is_marked keep place ≡ true) (λ place. is_marked marks place ≡ test (candidate_at candidates place)) (λ place marked. let within = marked-within keep place marked in passes-at test candidates place (omega (arith, within, same))) (kept keep) (All-kept keep) in
    ap (those candidates) by ∙ left-mapped (candidate_at candidates) (slots_at slots_of_all) (λ candidate. slots_of c candidate.declared) (slots-at c candidates) (slots_of c inputs) (is_marked marks) test (kept keep) each

pub narrowed-one : (c : Contents) (inputs : List TypeNo) (one : Candidate) → narrowed c inputs (one ∷ []) ≡ one ∷ []
narrowed-one c inputs one = one-left (λ candidate. slots_of c candidate.declared) (takes_as c (known_type inputs) inputs) (slots_of c inputs) one

-- a list of one or none stays as it is
pub narrowed-short : (c : Contents) (inputs : List TypeNo) (candidates : List Candidate) (places : List ℕ) → ((first second : ℕ) → first_two places ≡ Several first second → ⊥) → narrowed c inputs (those candidates places) ≡ those candidates places
narrowed-short c inputs candidates [] short = refl
narrowed-short c inputs candidates (place ∷ []) short = narrowed-one c inputs (candidate_at candidates place)
narrowed-short c inputs candidates (first ∷ second ∷ places) short = absurd (short first second refl)

pub two-of-several : (places : List ℕ) (first second : ℕ) → first_two places ≡ Several first second → 2 ≤ length places
two-of-several [] first second is = cc
two-of-several (place ∷ []) first second is = cc
two-of-several (a ∷ b ∷ places) first second is = omega arith

pub outcome-at : (c : Contents) (inputs : List TypeNo) (candidates : List Candidate) (places : List ℕ) → outcome_at c inputs candidates (first_two places) ≡ outcome c inputs (those candidates places)
outcome-at c inputs candidates [] = refl
outcome-at c inputs candidates (place ∷ []) = refl
outcome-at c inputs candidates (first ∷ second ∷ places) = refl

passing-step : (test : Bool) (P : Candidate → Type 0) (x : Candidate) (rest : List Candidate) → (test ≡ true → P x) → All P rest → All P (cond test (x ∷ rest) rest)
passing-step true P x rest here later = All-cons P x rest (here refl) later
passing-step false P x rest here later = later

All-passing : (test : Candidate → Bool) (xs : List Candidate) → All (λ x. test x ≡ true) (filter test xs)
All-passing test [] = All-nil (λ x. test x ≡ true)
All-passing test (x ∷ xs) = passing-step (test x) (λ it. test it ≡ true) x (filter test xs) (λ is. is) (All-passing test xs)

-- each that is left accepts the inputs
all-take : (c : Contents) (variadic : Bool) (inputs : List TypeNo) (candidates : List Candidate) → All (λ x. takes c variadic inputs x ≡ true) (remaining c variadic inputs candidates)
all-take c variadic inputs candidates =
    All-left (λ x. takes c variadic inputs x ≡ true) (λ candidate. slots_of c candidate.declared) (takes_as c (known_type (bases c inputs)) (bases c inputs)) (slots_of c (bases c inputs)) (accepting c variadic inputs candidates) (All-passing (takes c variadic inputs) candidates)

accepts_one-of : (c : Contents) (variadic : Bool) (inputs : List TypeNo) (candidates : List Candidate) (places : List ℕ) → All (λ x. takes c variadic inputs x ≡ true) (those candidates places) → AcceptsOne c inputs candidates (first_two places)
accepts_one-of c variadic inputs candidates [] each = tt
accepts_one-of c variadic inputs candidates (place ∷ []) each = (and_parts (accepts c (candidate_at candidates place).declared inputs) _ (All-head (λ x. takes c variadic inputs x ≡ true) (candidate_at candidates place) [] each)).0
accepts_one-of c variadic inputs candidates (first ∷ second ∷ places) each = tt

-- the one that is left is one that accepts the inputs
pub accepts_one : (c : Contents) (variadic : Bool) (inputs : List TypeNo) (candidates : List Candidate) (places : List ℕ) → those candidates places ≡ remaining c variadic inputs candidates → AcceptsOne c inputs candidates (first_two places)
accepts_one c variadic inputs candidates places is =
    accepts_one-of c variadic inputs candidates places (subst (All (λ x. takes c variadic inputs x ≡ true)) (sym is) (all-take c variadic inputs candidates))
