-- The choice of one candidate: the steps in their order, each from a list of candidates to those that it keeps (manual 10.2 step 3, 10.3 step 4).
use Rattle.std.specs.Prelude.{◌≡◌, ◌<◌, List, [], ◌∷◌, Bool, true, false, ◌==◌, ◌&&◌, cond, filter, Result, Ok, Err}
use Rattle.std.specs.List.{list_any}
use Rattle.xp_base.specs.OrMemory.{OrMemory}
use Rattle.xp_base.specs.declared.numbers.TypeNo.{TypeNo}
use Rattle.xp_base.specs.declared.numbers.RowNo.{RowNo}
use Rattle.xp_catalog.specs.Contents.{Contents}
use Rattle.xp_overload.specs.Choosing.{left}
use Rattle.xp_candidates.specs.Known.{bases, known_type}
use Rattle.xp_candidates.specs.Accepted.{takes, takes_as}
use Rattle.xp_candidates.specs.Slots.{slots_of}
use Rattle.xp_candidates.specs.Bound.{binds}
use Rattle.xp_candidates.specs.declared.candidate.Candidate.{Candidate}
use Rattle.xp_candidates.specs.declared.pick.Picked.{Picked}
use Rattle.xp_candidates.specs.declared.pick.Pick.{Pick}
use Rattle.xp_candidates.specs.declared.pick.Pick.TheVariants.{Undefined, Ambiguous, Memory}

-- 3.a: "discard candidate functions for which the input types do not match and cannot be converted to match"
abbrev pub accepting : Contents → Bool → List TypeNo → List Candidate → List Candidate
accepting c variadic inputs candidates = filter (takes c variadic inputs) candidates

-- 3.c to 3.f, over base types
abbrev pub narrowed : Contents → List TypeNo → List Candidate → List Candidate
narrowed c inputs candidates = left (λ candidate. slots_of c candidate.declared) (takes_as c (known_type inputs) inputs) (slots_of c inputs) candidates

-- what the steps leave; each leaves a list of one as it is
abbrev pub remaining : Contents → Bool → List TypeNo → List Candidate → List Candidate
remaining c variadic inputs candidates = narrowed c (bases c inputs) (accepting c variadic inputs candidates)

-- the second part of 3.a: a candidate is discarded too where a type that it is bound to isn't there
abbrev pub picked : Contents → List TypeNo → Candidate → Result Picked Pick
picked c inputs candidate = cond (binds c inputs candidate) (Ok (record { row = candidate.row; expanded = candidate.expanded })) (Err Undefined)

-- what it comes to where these are left
abbrev pub outcome : Contents → List TypeNo → List Candidate → Result Picked Pick
outcome c inputs [] = Err Undefined
outcome c inputs (candidate ∷ []) = picked c inputs candidate
outcome c inputs (first ∷ second ∷ others) = Err (Ambiguous first.row second.row)

abbrev pub chosen : Contents → Bool → List TypeNo → List Candidate → Result Picked Pick
chosen c variadic inputs candidates = outcome c inputs (remaining c variadic inputs candidates)

-- what a caller makes of the record that is chosen
abbrev pub made_of : {A : Type 0} → (Picked → A) → Result Picked Pick → Result A Pick
made_of make (Ok picked) = Ok (make picked)
made_of make (Err pick) = Err pick

-- the candidate whose record it is
abbrev pub is_of : Picked → Candidate → Bool
is_of picked candidate = candidate.row.0 == picked.row.0 && candidate.expanded == picked.expanded

-- the candidate is of that record
abbrev pub is_at : RowNo → Candidate → Bool
is_at row candidate = candidate.row.0 == row.0

-- two of the candidates that are listed and left, in the order of their records
pub record AreLeft (candidates left : List Candidate) (first second : RowNo) : Type 0 where
  pub first_listed : list_any (is_at first) candidates ≡ true
  pub second_listed : list_any (is_at second) candidates ≡ true
  pub first_left : list_any (is_at first) left ≡ true
  pub second_left : list_any (is_at second) left ≡ true
  pub in_order : first.0 < second.0

-- what is said of the two that are told, where the choice is ambiguous
abbrev pub IfAmbiguous : {A : Type 0} → Result A Pick → (RowNo → RowNo → Type 0) → Type 0
IfAmbiguous (Err (Ambiguous first second)) P = P first second
IfAmbiguous _ P = Unit {0}

abbrev pub is_memory : Pick → Bool
is_memory Memory = true
is_memory _ = false

-- this answer, or want of memory
abbrev pub Answers : {A : Type 0} → Result A Pick → Result A Pick → Type 0
Answers said result = OrMemory is_memory said result
