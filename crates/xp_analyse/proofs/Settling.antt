-- Trees that become texts one after the other.
use Rattle.std.proofs.Common.{◌≡◌, ◌∷◌, List, refl, Ok, Err}
use Rattle.xp_base.specs.OrMemory.{OrMemory}
use Rattle.xp_named.specs.declared.refusal.Refusal.{Refusal}
use Rattle.xp_resolve.specs.declared.conversions.Converted.{Converted}
use Rattle.xp_resolve.specs.declared.conversions.ConvertedAll.{ConvertedAll}
use Rattle.xp_resolve.specs.declared.made.Part.{Part}
use Rattle.xp_resolve.specs.Conversions.{with_last}
use Rattle.xp_resolve.specs.Made.{is_memory}
use Rattle.xp_resolve.specs.Scene.{Scene}
use Rattle.xp_resolve.proofs.Steps.{then_err}
use Rattle.xp_analyse.specs.Statements.{settled, settled_part}

pub settled_more : (scene : Scene) (before : ConvertedAll) (parts rest : List Part) (part : Part) (one : Converted)
    → parts ≡ part ∷ rest → OrMemory is_memory (settled_part scene before.nodes part) (Ok one) → settled scene (with_last before one) rest ≡ settled scene before parts
settled_more scene before parts rest part one e is = rw (e, is) refl

pub settled_fault : (scene : Scene) (before : ConvertedAll) (parts rest : List Part) (part : Part) (fault : Refusal)
    → parts ≡ part ∷ rest → OrMemory is_memory (settled_part scene before.nodes part) (Err fault) → OrMemory is_memory (settled scene before parts) (Err fault)
settled_fault scene before parts rest part fault e is = rw e (then_err (settled_part scene before.nodes part) (λ one. settled scene (with_last before one) rest) fault is)
