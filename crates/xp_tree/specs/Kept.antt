-- What a tree keeps of itself beside its node.
use Rattle.std.specs.Prelude.{◌≡◌, ℕ, ◌^◌, ◌-◌, min, Bool}
use Rattle.xp_tree.specs.Term.{Term, size, is_fixed, is_open}
use Rattle.xp_tree.specs.Typed.{IsTyped}

pub record IsKept (t : Term) (nodes : ℕ) (fixed open_ : Bool) : Type 0 where
  pub typed : IsTyped t
  pub counted : nodes ≡ min (size t) (2 ^ 64 - 1)
  pub same_fixed : fixed ≡ is_fixed t
  pub same_open : open_ ≡ is_open t
