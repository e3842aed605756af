-- The contents of a catalogue, and what a record adds to them (manual 52; CREATE TYPE, CREATE DOMAIN for arrays).
use Rattle.std.specs.Prelude.{ℕ, List, [], ◌∷◌, ◌++◌, Bool, false, length, codes, slice_get}
use Rattle.std.specs.Option.{option_map_or}
use Rattle.xp_base.specs.declared.numbers.TypeNo.{TypeNo}
use Rattle.xp_catalog.specs.declared.rows.TypeKind.{TypeKind}
use Rattle.xp_catalog.specs.declared.rows.TypeKind.TheVariants as kind
use Rattle.xp_catalog.specs.declared.rows.TypeRow.{TypeRow}
use Rattle.xp_catalog.specs.declared.rows.CastRow.{CastRow}
use Rattle.xp_catalog.specs.declared.rows.FuncRow.{FuncRow}
use Rattle.xp_catalog.specs.declared.rows.OperRow.{OperRow}
use Rattle.xp_catalog.specs.declared.rows.DomainRow.{DomainRow}
use Rattle.xp_catalog.specs.declared.rows.RangeRow.{RangeRow}
use Rattle.xp_catalog.specs.declared.record.Record.{Record}
use Rattle.xp_catalog.specs.declared.record.Record.TheVariants as row
use Rattle.xp_catalog.specs.Spelling.{pseudo_type}

-- the rows in file order; a type's number is its place in the list of types
pub record Contents : Type 0 where
  pub types : List TypeRow
  pub casts : List CastRow
  pub funcs : List FuncRow
  pub opers : List OperRow
  pub domains : List DomainRow
  pub ranges : List RangeRow

-- the type `unknown`, which no record gives
abbrev pub unknown_row : TypeRow
unknown_row = record { name = codes "unknown"; category = 88; preferred = false; kind = kind.Plain; line = 0 }

-- what there is before any record
abbrev pub first_contents : Contents
first_contents = record { types = unknown_row ∷ []; casts = []; funcs = []; opers = []; domains = []; ranges = [] }

-- the array type of a type with that number
abbrev pub array_row : ℕ → TypeRow → TypeRow
array_row number element = record {
  name = element.name ++ codes "[]";
  category = 65;
  preferred = false;
  kind = kind.Array (record { 0 = number });
  line = element.line;
}

-- a type, and behind it its array type
abbrev pub with_array : List TypeRow → TypeRow → List TypeRow
with_array types type = types ++ type ∷ array_row (length types) type ∷ []

-- a plain type has an array type, a pseudo-type has none
abbrev pub type_row : List ℕ → ℕ → Bool → TypeKind → ℕ → TypeRow
type_row name category preferred kind line = record { name = name; category = category; preferred = preferred; kind = kind; line = line }

abbrev pub with_type : List TypeRow → List ℕ → ℕ → Bool → ℕ → List TypeRow
with_type types name category preferred line =
    option_map_or (λ pseudo. types ++ type_row name category preferred (kind.Pseudo pseudo) line ∷ []) (pseudo_type name) (with_array types (type_row name category preferred kind.Plain line))

abbrev pub category_at : List TypeRow → TypeNo → ℕ
category_at types type = option_map_or (λ row. row.category) (slice_get types type.0) 0

-- a range type has category R (82)
abbrev pub with_range : Contents → List ℕ → TypeNo → ℕ → Contents
with_range before name subtype line = record before {
  types = with_array before.types (type_row name 82 false (kind.Range (record { 0 = length before.ranges })) line);
  ranges = before.ranges ++ record { name = name; ty = record { 0 = length before.types }; subtype = subtype; line = line } ∷ [];
}

-- a domain has its base's category and isn't preferred
abbrev pub with_domain : Contents → List ℕ → TypeNo → Bool → List ℕ → ℕ → Contents
with_domain before name base not_null check line = record before {
  types = with_array before.types (type_row name (category_at before.types base) false (kind.Domain (record { 0 = length before.domains })) line);
  domains = before.domains ++ record { name = name; ty = record { 0 = length before.types }; base = base; not_null = not_null; check = check; line = line } ∷ [];
}

-- the rows with a record's rows behind them
abbrev pub added : Contents → Record → Contents
added before (row.Plain name category preferred line) = record before { types = with_type before.types name category preferred line }
added before (row.Range name subtype line) = with_range before name subtype line
added before (row.Domain name base not_null check line) = with_domain before name base not_null check line
added before (row.Cast cast) = record before { casts = before.casts ++ cast ∷ [] }
added before (row.Function func) = record before { funcs = before.funcs ++ func ∷ [] }
added before (row.Operator oper) = record before { opers = before.opers ++ oper ∷ [] }
