-- A function is as its body says (this project's own).
use Rattle.std.specs.Prelude.{◌≡◌, ℕ, List, [], ◌∷◌, Bool, true, false, ◌&&◌, Option, Some, None, slice_get}
use Rattle.std.specs.List.{All}
use Rattle.std.specs.Str.{bytes_eq}
use Rattle.std.proofs.Math.Bool.{beq}
use Rattle.xp_base.specs.declared.numbers.BodyNo.{BodyNo}
use Rattle.xp_base.specs.declared.numbers.TypeNo.{TypeNo}
use Rattle.xp_catalog.specs.declared.rows.FuncRow.{FuncRow}
use Rattle.xp_catalog.specs.declared.rows.TypeRow.{TypeRow}
use Rattle.xp_catalog.specs.declared.rows.Volatility.{Volatility}
use Rattle.xp_catalog.specs.declared.rows.Volatility.TheVariants.{Immutable, Stable, Volatile}
use Rattle.xp_catalog.specs.Contents.{Contents}
use Rattle.xp_bodies.specs.Row.{Row}
use Rattle.xp_bodies.specs.Table.{bodies}

-- immutable, stable and volatile, each looser than the one before
abbrev pub is_as_loose : Volatility → Volatility → Bool
is_as_loose found Immutable = true
is_as_loose Immutable Stable = false
is_as_loose found Stable = true
is_as_loose Volatile Volatile = true
is_as_loose found Volatile = false

abbrev pub has_name : Option TypeRow → List ℕ → Bool
has_name None name = false
has_name (Some row) name = bytes_eq row.name name

abbrev pub is_named : Contents → TypeNo → List ℕ → Bool
is_named c type name = has_name (slice_get c.types type.0) name

-- the types have these names, in order
abbrev pub are_named : Contents → List TypeNo → List (List ℕ) → Bool
are_named c [] [] = true
are_named c (type ∷ types) (name ∷ names) = is_named c type name && are_named c types names
are_named c _ _ = false

-- arguments, variadic, result and strict are the body's, and the volatility is at least as loose
abbrev pub agrees : Contents → FuncRow → Row → Bool
agrees c f body = beq f.variadic body.variadic && beq f.strict body.strict && is_as_loose f.volatility body.volatility && is_named c f.result body.result && are_named c f.args body.args

abbrev pub agrees_with : Contents → FuncRow → Option Row → Bool
agrees_with c f None = false
agrees_with c f (Some body) = agrees c f body

-- a function without a body fits, and one with a number that is no body's doesn't
abbrev pub fits_with : Contents → FuncRow → Option BodyNo → Bool
fits_with c f None = true
fits_with c f (Some body) = agrees_with c f (slice_get bodies body.0)

abbrev pub fits : Contents → FuncRow → Bool
fits c f = fits_with c f f.body

-- each function of the catalogue fits
abbrev pub IsFitted : Contents → Type 0
IsFitted c = All (λ func. fits c func ≡ true) c.funcs
