-- Candidates in the order of their records, and the first two of those that are left.
use Rattle.std.proofs.Common.{◌≡◌, ℕ, ◌+◌, ◌<◌, ◌≤◌, List, [], ◌∷◌, ◌++◌, Bool, true, false, cond, refl, arith, eq-eqb, Ok, Err, get_or}
use Rattle.std.specs.List.{All, filter, list_any}
use Rattle.std.proofs.lemmas.Bool.{or_left, or_right}
use Rattle.std.proofs.lemmas.List.Elements.{All-cons, All-filter, All-head, All-nil, All-tail, All-weaker}
use Rattle.std.proofs.lemmas.List.Folds.{list_any_at}
use Rattle.xp_base.specs.declared.numbers.TypeNo.{TypeNo}
use Rattle.xp_catalog.specs.Contents.{Contents}
use Rattle.xp_overload.specs.Matches.{most_exact, most_preferred}
use Rattle.xp_overload.specs.Categories.{of_category, or_all}
use Rattle.xp_overload.specs.Choosing.{left, or_all_unless_one}
use Rattle.xp_overload.specs.declared.slots.InSlot.{InSlot}
use Rattle.xp_overload.proofs.Left.{All-left}
use Rattle.xp_candidates.specs.Accepted.{takes, takes_as}
use Rattle.xp_candidates.specs.Bound.{binds}
use Rattle.xp_candidates.specs.Chosen.{AreLeft, IfAmbiguous, accepting, chosen, is_at, outcome, remaining}
use Rattle.xp_candidates.specs.Forms.{forms_from}
use Rattle.xp_candidates.specs.Known.{bases, known_type}
use Rattle.xp_candidates.specs.Slots.{slots_of}
use Rattle.xp_candidates.specs.declared.candidate.Candidate.{Candidate}
use Rattle.xp_candidates.specs.declared.pick.Picked.{Picked}
use Rattle.xp_candidates.specs.declared.pick.Pick.TheVariants.{Undefined}

-- each record stands before those behind it
abbrev pub InOrder : List Candidate → Type 0
InOrder [] = Unit {0}
InOrder (x ∷ xs) = All (λ y. x.row.0 < y.row.0) xs × InOrder xs

filter-step : (test : Bool) (x : Candidate) (rest : List Candidate) → All (λ y. x.row.0 < y.row.0) rest → InOrder rest → InOrder (cond test (x ∷ rest) rest)
filter-step true x rest above order = (above, order)
filter-step false x rest above order = order

pub InOrder-filter : (test : Candidate → Bool) (xs : List Candidate) → InOrder xs → InOrder (filter test xs)
InOrder-filter test [] order = tt
InOrder-filter test (x ∷ xs) order = filter-step (test x) x (filter test xs) (All-filter test (λ y. x.row.0 < y.row.0) xs order.0) (InOrder-filter test xs order.1)

pub InOrder-or_all : (those all : List Candidate) → InOrder those → InOrder all → InOrder (or_all those all)
InOrder-or_all [] all in_those in_all = in_all
InOrder-or_all (first ∷ others) all in_those in_all = in_those

InOrder-unless_one : (those all : List Candidate) → InOrder those → InOrder all → InOrder (or_all_unless_one those all)
InOrder-unless_one [] all in_those in_all = in_all
InOrder-unless_one (one ∷ []) all in_those in_all = in_those
InOrder-unless_one (first ∷ second ∷ others) all in_those in_all = in_all

InOrder-left : (declared : Candidate → List InSlot) (passes : Candidate → Bool) (inputs : List InSlot) (candidates : List Candidate) → InOrder candidates → InOrder (left declared passes inputs candidates)
InOrder-left declared passes inputs candidates order =
    let exact : InOrder (most_exact declared inputs candidates) = InOrder-filter _ candidates order in
    let preferred : InOrder (most_preferred declared inputs (most_exact declared inputs candidates)) = InOrder-filter _ (most_exact declared inputs candidates) exact in
    let of : InOrder (of_category declared inputs (most_preferred declared inputs (most_exact declared inputs candidates))) = InOrder-or_all _ _ (InOrder-filter _ (most_preferred declared inputs (most_exact declared inputs candidates)) preferred) preferred in
    InOrder-unless_one _ _ (InOrder-filter passes (of_category declared inputs (most_preferred declared inputs (most_exact declared inputs candidates))) of) of

pub InOrder-remaining : (c : Contents) (variadic : Bool) (inputs : List TypeNo) (candidates : List Candidate) → InOrder candidates → InOrder (remaining c variadic inputs candidates)
InOrder-remaining c variadic inputs candidates order =
    InOrder-left (λ candidate. slots_of c candidate.declared) (takes_as c (known_type (bases c inputs)) (bases c inputs)) (slots_of c (bases c inputs)) (accepting c variadic inputs candidates) (InOrder-filter (takes c variadic inputs) candidates order)

-- at most one candidate, which is of the record at that place
abbrev pub OneAt : ℕ → List Candidate → Type 0
OneAt place [] = Unit {0}
OneAt place (x ∷ []) = x.row.0 ≡ place
OneAt place (x ∷ y ∷ others) = ⊥

put-before : (place : ℕ) (one later : List Candidate) → OneAt place one → InOrder later → All (λ y. place + 1 ≤ y.row.0) later → InOrder (one ++ later) × All (λ y. place ≤ y.row.0) (one ++ later)
put-before place [] later at order above = (order, All-weaker (λ y. place + 1 ≤ y.row.0) (λ y. place ≤ y.row.0) (λ y is. omega (arith, is)) later above)
put-before place (x ∷ []) later at order above = (
  (All-weaker (λ y. place + 1 ≤ y.row.0) (λ y. x.row.0 < y.row.0) (λ y is. omega (arith, is, at)) later above, order),
  All-cons (λ y. place ≤ y.row.0) x later (omega (arith, at)) (All-weaker (λ y. place + 1 ≤ y.row.0) (λ y. place ≤ y.row.0) (λ y is. omega (arith, is)) later above),
)
put-before place (x ∷ y ∷ others) later at order above = absurd at

forms-order : {Row : Type 0} (forms : ℕ → Row → List Candidate) → ((place : ℕ) (row : Row) → OneAt place (forms place row)) → (place : ℕ) (rows : List Row) → InOrder (forms_from forms place rows) × All (λ y. place ≤ y.row.0) (forms_from forms place rows)
forms-order forms each place [] = (tt, All-nil (λ y. place ≤ y.row.0))
forms-order forms each place (row ∷ rows) =
    let later = forms-order forms each (place + 1) rows in
    put-before place (forms place row) (forms_from forms (place + 1) rows) (each place row) later.0 later.1

-- what rows give, one each at most, is in their order
pub InOrder-forms : {Row : Type 0} (forms : ℕ → Row → List Candidate) → ((place : ℕ) (row : Row) → OneAt place (forms place row)) → (place : ℕ) (rows : List Row) → InOrder (forms_from forms place rows)
InOrder-forms forms each place rows = (forms-order forms each place rows).0

own-row : (x : Candidate) → is_at x.row x ≡ true
own-row x = eq-eqb x.row.0 x.row.0 refl

-- each is listed by its record
pub All-listed : (candidates : List Candidate) → All (λ x. list_any (is_at x.row) candidates ≡ true) candidates
All-listed candidates = λ k d within. list_any_at (is_at (get_or candidates k d).row) candidates k d within (own-row (get_or candidates k d))

pub All-remaining : (P : Candidate → Type 0) (c : Contents) (variadic : Bool) (inputs : List TypeNo) (candidates : List Candidate) → All P candidates → All P (remaining c variadic inputs candidates)
All-remaining P c variadic inputs candidates each =
    All-left P (λ candidate. slots_of c candidate.declared) (takes_as c (known_type (bases c inputs)) (bases c inputs)) (slots_of c (bases c inputs)) (accepting c variadic inputs candidates) (All-filter (takes c variadic inputs) P candidates each)

-- the first two of some of them
pub two-left : (candidates : List Candidate) (first second : Candidate) (others : List Candidate) → All (λ x. list_any (is_at x.row) candidates ≡ true) (first ∷ second ∷ others) → InOrder (first ∷ second ∷ others) → AreLeft candidates (first ∷ second ∷ others) first.row second.row
two-left candidates first second others listed order = record {
  first_listed = All-head (λ x. list_any (is_at x.row) candidates ≡ true) first (second ∷ others) listed;
  second_listed = All-head (λ x. list_any (is_at x.row) candidates ≡ true) second others (All-tail (λ x. list_any (is_at x.row) candidates ≡ true) first (second ∷ others) listed);
  first_left = or_left (is_at first.row first) (list_any (is_at first.row) (second ∷ others)) (own-row first);
  second_left = or_right (is_at second.row first) (list_any (is_at second.row) (second ∷ others)) (or_left (is_at second.row second) (list_any (is_at second.row) others) (own-row second));
  in_order = All-head (λ y. first.row.0 < y.row.0) second others order.0;
}

outcome-ambiguous : (c : Contents) (inputs : List TypeNo) (candidates some : List Candidate) → All (λ x. list_any (is_at x.row) candidates ≡ true) some → InOrder some → IfAmbiguous (outcome c inputs some) (AreLeft candidates some)
outcome-ambiguous c inputs candidates [] listed order = tt
outcome-ambiguous c inputs candidates (one ∷ []) listed order = by (binds c inputs one)
  where
    by : (test : Bool) → IfAmbiguous {A = Picked} (cond test (Ok (record { row = one.row; expanded = one.expanded })) (Err Undefined)) (AreLeft candidates (one ∷ []))
    by true = tt
    by false = tt
outcome-ambiguous c inputs candidates (first ∷ second ∷ others) listed order = two-left candidates first second others listed order

-- the two that are told are listed and left
pub chosen-ambiguous : (c : Contents) (variadic : Bool) (inputs : List TypeNo) (candidates : List Candidate) → InOrder candidates → IfAmbiguous (chosen c variadic inputs candidates) (AreLeft candidates (remaining c variadic inputs candidates))
chosen-ambiguous c variadic inputs candidates order =
    outcome-ambiguous c inputs candidates (remaining c variadic inputs candidates) (All-remaining (λ x. list_any (is_at x.row) candidates ≡ true) c variadic inputs candidates (All-listed candidates)) (InOrder-remaining c variadic inputs candidates order)
