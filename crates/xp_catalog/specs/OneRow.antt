-- That what a look-up takes is had by one row at most.
use Rattle.std.specs.Prelude.{◌≡◌, false}
use Rattle.std.specs.List.{AllPairs}
use Rattle.xp_catalog.specs.Contents.{Contents}
use Rattle.xp_catalog.specs.Lookups.{has_arguments, has_operands, has_type_name, is_between, operands}

-- of two rows the first hasn't what the second is found by
pub record HasOneRowEach (c : Contents) : Type 0 where
  pub types : AllPairs (λ first second. has_type_name second.name first ≡ false) c.types
  pub casts : AllPairs (λ first second. is_between second.from second.to first ≡ false) c.casts
  pub funcs : AllPairs (λ first second. has_arguments second.name second.args first ≡ false) c.funcs
  pub opers : AllPairs (λ first second. has_operands second.name (operands second.left second.right) first ≡ false) c.opers
