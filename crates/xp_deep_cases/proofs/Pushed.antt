-- A list of trees with one more.
use Rattle.std.proofs.Common.{List, [], ◌∷◌, ◌++◌}
use Rattle.xp_tree.specs.Term.{Term, terms}
use Rattle.xp_tree.specs.Typed.{IsTyped, AllTyped}

pub all_typed_pushed : (ts : List Term) (t : Term) → AllTyped (terms ts) → IsTyped t → AllTyped (terms (ts ++ t ∷ []))
all_typed_pushed [] t h p = (p, tt)
all_typed_pushed (a ∷ ts) t h p = (h.0, all_typed_pushed ts t h.1 p)
