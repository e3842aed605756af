-- The operator that accepts exactly the types of the operands (manual 10.2 step 2).
use Rattle.std.specs.Prelude.{ℕ, List, [], ◌∷◌, Bool, ◌&&◌, not, cond, Option, Some, None}
use Rattle.std.specs.List.{list_all}
use Rattle.std.specs.Option.{option_or}
use Rattle.xp_base.specs.declared.numbers.TypeNo.{TypeNo}
use Rattle.xp_base.specs.declared.numbers.RowNo.{RowNo}
use Rattle.xp_catalog.specs.Contents.{Contents}
use Rattle.xp_catalog.specs.Lookups.{oper_at}
use Rattle.xp_catalog.specs.Rules.{is_pseudo_kind, kind_of}
use Rattle.xp_types.specs.Readers.{base, is_known}

-- neither `unknown` nor a polymorphic type matches exactly
abbrev pub may_match : Contents → TypeNo → Bool
may_match c type = is_known type && not (is_pseudo_kind (kind_of c type))

-- the operator with exactly these operands
abbrev pub exact : Contents → List ℕ → List TypeNo → Option RowNo
exact c name types = cond (list_all (may_match c) types) (oper_at c name types) None

-- the other operand of a binary operator, where one operand alone is unknown
abbrev pub other_operand : List TypeNo → Option TypeNo
other_operand (left ∷ right ∷ []) = cond (is_known left) (cond (is_known right) None (Some left)) (cond (is_known right) (Some right) None)
other_operand _ = None

abbrev pub both : TypeNo → List TypeNo
both type = type ∷ type ∷ []

-- 2.a: the unknown operand is taken to have the other's type; 2.b: where that is a domain, both are next taken to have
-- the type that it is over (every other type counts as itself)
abbrev pub assumed : Contents → List ℕ → Option TypeNo → Option RowNo
assumed c name None = None
assumed c name (Some type) = option_or (exact c name (both type)) (exact c name (both (base c type)))

abbrev pub matched : Contents → List ℕ → List TypeNo → Option RowNo
matched c name inputs = option_or (exact c name inputs) (assumed c name (other_operand inputs))
