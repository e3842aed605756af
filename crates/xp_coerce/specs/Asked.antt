-- What is asked of a tree that is converted, and of the checks of domains.
use Rattle.std.specs.Prelude.{◌≡◌, Bool, false, true, List}
use Rattle.std.specs.List.{All}
use Rattle.xp_catalog.specs.Contents.{Contents}
use Rattle.xp_types.specs.Readers.{is_known}
use Rattle.xp_tree.specs.declared.checks.DomainCheck.{DomainCheck}
use Rattle.xp_tree.specs.Term.{Leaf, Term, constant, leaf, type_of}
use Rattle.xp_tree.specs.Typed.{IsBool}
use Rattle.xp_coerce.specs.Types.{IsTypeOf}

abbrev pub is_constant_leaf : Leaf → Bool
is_constant_leaf (constant v) = true
is_constant_leaf _ = false

abbrev pub is_constant : Term → Bool
is_constant (leaf l ty) = is_constant_leaf l
is_constant _ = false

-- the tree's type is one of the catalogue, and only a constant has none yet
pub record IsSource (c : Contents) (t : Term) : Type 0 where
  pub type : IsTypeOf c (type_of t)
  pub literal : is_known (type_of t).no ≡ false → is_constant t ≡ true

-- each check is a truth value
abbrev pub AreTruths : List DomainCheck → Type 0
AreTruths checks = All (λ entry. IsBool (type_of entry.check)) checks
