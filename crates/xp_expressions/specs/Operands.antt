-- Operands that are resolved one after the other, from left to right (manual 4.2; the order is this project's own).
use Rattle.std.specs.Prelude.{ℕ, List, [], ◌∷◌, ◌++◌, Option, Some, None, Result, Ok}
use Rattle.xp_base.specs.FromLeft.{and_then}
use Rattle.xp_named.specs.declared.refusal.Refusal.{Refusal}
use Rattle.xp_forms.specs.declared.operands.Both.{Both}
use Rattle.xp_resolve.specs.declared.made.Gathered.{Gathered}
use Rattle.xp_resolve.specs.declared.made.Made.{Made}
use Rattle.xp_resolve.specs.declared.made.Part.{Part}
use Rattle.xp_resolve.specs.declared.made.Progress.{Progress}

-- the tree of an expression, behind what is made so far of the statement
abbrev pub Resolution : Type 0
Resolution = Progress → Result Made Refusal

abbrev pub nothing_yet : Progress
nothing_yet = record { nodes = 0; uses = [] }

-- each behind those before it, up to and with the first refusal
abbrev pub each : {A X : Type 0} → (X → A → Result A Refusal) → Result A Refusal → List X → Result A Refusal
each f before [] = before
each f before (x ∷ xs) = each f (and_then before (f x)) xs

-- ---- any number of operands

abbrev pub begun : Progress → Gathered
begun progress = record { parts = []; progress = progress }

abbrev pub with_last : Gathered → Made → Gathered
with_last before made = record { parts = before.parts ++ made.part ∷ []; progress = made.progress }

abbrev pub with_operand : Resolution → Gathered → Result Gathered Refusal
with_operand operand before = and_then (operand before.progress) (λ made. Ok (with_last before made))

abbrev pub gathered : Result Gathered Refusal → List Resolution → Result Gathered Refusal
gathered = each with_operand

-- a form over operands: `form` is given how many nodes there were before them
abbrev pub over : (ℕ → Gathered → Result Made Refusal) → List Resolution → Resolution
over form operands progress = and_then (gathered (Ok (begun progress)) operands) (form progress.nodes)

-- an operand that may be left out
abbrev pub optional : Option Resolution → List Resolution
optional None = []
optional (Some operand) = operand ∷ []

-- ---- one operand, and two

abbrev pub over_one : (ℕ → Made → Result Made Refusal) → Resolution → Resolution
over_one form operand progress = and_then (operand progress) (form progress.nodes)

abbrev pub beside : Part → Made → Both
beside left right = record { left = left; right = right.part; progress = right.progress }

abbrev pub both : Resolution → Resolution → Progress → Result Both Refusal
both left right progress = and_then (left progress) (λ l. and_then (right l.progress) (λ r. Ok (beside l.part r)))

abbrev pub over_both : (ℕ → Both → Result Made Refusal) → Resolution → Resolution → Resolution
over_both form left right progress = and_then (both left right progress) (form progress.nodes)
