-- The small catalogue: bool and int4, the function div over int4, and the operator / over it.
use Rattle.std.specs.Prelude.{ℕ, List, [], ◌∷◌, true, false, codes, Some}
use Rattle.xp_base.specs.declared.numbers.TypeNo.{TypeNo}
use Rattle.xp_catalog.specs.Contents.{Contents, array_row, unknown_row}
use Rattle.xp_catalog.specs.declared.rows.TypeKind.TheVariants as kind
use Rattle.xp_catalog.specs.declared.rows.TypeRow.{TypeRow}
use Rattle.xp_catalog.specs.declared.rows.Volatility.TheVariants.{Immutable}
use Rattle.xp_run.specs.declared.inputs.Inputs.{Inputs}

abbrev pub bool_row : TypeRow
bool_row = record { name = codes "bool"; category = 66; preferred = true; kind = kind.Plain; line = 1 }

abbrev pub int4_row : TypeRow
int4_row = record { name = codes "int4"; category = 78; preferred = false; kind = kind.Plain; line = 2 }

abbrev pub int4 : TypeNo
int4 = record { 0 = 3 }

abbrev pub small : Contents
small = record {
  types = unknown_row ∷ bool_row ∷ array_row 1 bool_row ∷ int4_row ∷ array_row 3 int4_row ∷ [];
  casts = [];
  funcs = record { name = codes "div"; args = int4 ∷ int4 ∷ []; variadic = false; result = int4; volatility = Immutable; strict = true; body = Some (record { 0 = 31 }); line = 3 } ∷ [];
  opers = record { name = codes "/"; left = Some int4; right = int4; function = record { 0 = 0 }; line = 4 } ∷ [];
  domains = [];
  ranges = [];
}

-- a script over the small catalogue, without a rows file
abbrev pub over_small : List ℕ → Inputs
over_small script = record { catalog = small; checks = []; script = script; header = []; rows = [] ∷ [] }
