-- Trees of the worked rows: a division by zero, constant or by a column, and what stands above it.
use Rattle.std.specs.Prelude.{◌≡◌, ◌⊎◌, ◌↔◌, ℕ, [], ◌∷◌, pos, true, false, Some, Err}
use Rattle.xp_base.specs.declared.codes.EvalError.TheVariants.{DivisionByZero}
use Rattle.xp_base.specs.declared.numbers.BodyNo.{BodyNo}
use Rattle.xp_base.specs.declared.numbers.RowNo.{RowNo}
use Rattle.xp_value.specs.declared.value.Value.{Value}
use Rattle.xp_value.specs.declared.value.Value.TheVariants as value
use Rattle.xp_catalog.specs.declared.rows.Volatility.TheVariants.{Immutable}
use Rattle.xp_tree.specs.declared.parts.Callee.{Callee}
use Rattle.xp_tree.specs.declared.parts.NodeType.{NodeType}
use Rattle.xp_tree.specs.Term.{Term, conjunction, call, column, constant, leaf, two, many, case, none, more, no_arm, arm}
use Rattle.xp_meaning.specs.Primitives.{Primitives}
use Rattle.xp_meaning.specs.Sets.{Outcomes}
use Rattle.xp_meaning.specs.Truth.{Outcome}

abbrev pub DividesByZero : Primitives → BodyNo → Type 0
DividesByZero p division = p.body division (value.Int (pos 1) ∷ value.Int (pos 0) ∷ []) ≡ Err DivisionByZero

module _ (division : BodyNo) (row : RowNo) (ty : NodeType) where
  abbrev pub strict_call : Callee
  strict_call = record { row = row; from_cast = false; body = Some division; strict = true; volatility = Immutable }

  abbrev pub the : Value → Term
  the v = leaf (constant v) ty

  abbrev pub column_at : ℕ → Term
  column_at number = leaf (column number []) ty

  abbrev pub over : Term → Term → Term
  over a b = many (call strict_call) (more a (more b none)) ty

  -- 1/0
  abbrev pub quotient : Term
  quotient = over (the (value.Int (pos 1))) (the (value.Int (pos 0)))

  -- false AND 1/0
  abbrev pub false_and_quotient : Term
  false_and_quotient = two conjunction (the (value.Bool false)) quotient ty

  -- CASE WHEN the first column THEN 1 ELSE t END
  abbrev pub one_unless : Term → Term
  one_unless t = case (arm (column_at 0) (the (value.Int (pos 1))) no_arm) t ty

  -- 1 divided by the second column
  abbrev pub over_column : Term
  over_column = over (the (value.Int (pos 1))) (column_at 1)

  -- null divided by 1/0
  abbrev pub null_over_quotient : Term
  null_over_quotient = over (the value.Null) quotient

-- these two outcomes, and no other
abbrev pub AreThese : Outcomes → Outcome → Outcome → Type 0
AreThese permitted this that = (o : Outcome) → permitted o ↔ ((o ≡ this) ⊎ (o ≡ that))

abbrev pub IsThis : Outcomes → Outcome → Type 0
IsThis permitted this = (o : Outcome) → permitted o ↔ (o ≡ this)
