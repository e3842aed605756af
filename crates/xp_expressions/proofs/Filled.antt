-- Operands of which there is one at least.
use Rattle.std.proofs.Common.{◌≡◌, ℕ, ◌==◌, List, [], ◌∷◌, Bool, false, length, refl, Result}
use Rattle.xp_base.specs.declared.numbers.Span.{Span}
use Rattle.xp_grammar.specs.declared.ast.Selection.{Selection}
use Rattle.xp_named.specs.declared.refusal.Refusal.{Refusal}
use Rattle.xp_forms.specs.Arrays.{array_made}
use Rattle.xp_forms.specs.Common.{selected}
use Rattle.xp_resolve.specs.declared.made.Gathered.{Gathered}
use Rattle.xp_resolve.specs.declared.made.Part.{Part}
use Rattle.xp_resolve.specs.Scene.{Scene}
use Rattle.xp_expressions.specs.Composed.{array_of, selection_of}

pub filled_array : (scene : Scene) (at : Span) (before : ℕ) (operands : Gathered) (parts : List Part) → false ≡ (length parts == 0)
    → array_of scene at before operands parts ≡ array_made scene at.start before operands
filled_array scene at before operands [] some = cc some
filled_array scene at before operands (part ∷ parts) some = refl

pub filled_selection : (scene : Scene) (at : Span) (which : Selection) (before : ℕ) (operands : Gathered) (parts : List Part) → false ≡ (length parts == 0)
    → selection_of scene at which before operands parts ≡ selected scene which at.start before operands
filled_selection scene at which before operands [] some = cc some
filled_selection scene at which before operands (part ∷ parts) some = refl
