-- What holds of the operator over two operands that are converted for it.
use Rattle.std.specs.Prelude.{[], ◌∷◌}
use Rattle.xp_catalog.specs.Contents.{Contents}
use Rattle.xp_coerce.specs.Types.{IsTypeOf}
use Rattle.xp_tree.specs.Rests.{Rests}
use Rattle.xp_tree.specs.Term.{type_of}
use Rattle.xp_forms.specs.declared.equality.Comparison.{Comparison}

-- the operands are what the operator's function takes, and the type of the left one is the catalogue's
pub record IsCompared (c : Contents) (by : Comparison) : Type 0 where
  pub rests : Rests by.callee (type_of by.left ∷ type_of by.right ∷ [])
  pub left : IsTypeOf c (type_of by.left)
