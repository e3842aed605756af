-- The two halves of a list of IN, side by side.
use Rattle.std.specs.Prelude.{ℕ, List, Bool, drop, length, take, Result}
use Rattle.xp_base.specs.declared.numbers.Span.{Span}
use Rattle.xp_named.specs.declared.refusal.Refusal.{Refusal}
use Rattle.xp_forms.specs.declared.operands.Both.{Both}
use Rattle.xp_forms.specs.Rewritten.{first_half}
use Rattle.xp_resolve.specs.declared.made.Progress.{Progress}
use Rattle.xp_resolve.specs.Scene.{Scene}
use Rattle.xp_expressions.specs.Composed.{halved}
use Rattle.xp_expressions.specs.Operands.{Resolution, both}

abbrev pub both_halved : Scene → Span → Bool → ℕ → List Resolution → Progress → Result Both Refusal
both_halved scene at not depth pairs =
    both (halved scene at not depth (take (first_half (length pairs)) pairs)) (halved scene at not depth (drop (first_half (length pairs)) pairs))
