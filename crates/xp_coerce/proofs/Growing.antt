-- What a record leaves of the rows before it: each type and each function stays at its place.
use Rattle.std.proofs.Common.{◌≡◌, ℕ, ◌+◌, ◌<◌, ◌≤◌, List, [], ◌∷◌, ◌++◌, Bool, true, false, length, length-append, append-nil, get_or, refl, sym, ◌∙◌, ap, arith, Option, Some, None, slice_get}
use Rattle.std.specs.List.{All}
use Rattle.std.proofs.lemmas.Option.{get_or_from_slice_get, slice_get_within}
use Rattle.xp_base.specs.declared.numbers.RowNo.{RowNo}
use Rattle.xp_base.specs.declared.numbers.TypeNo.{TypeNo}
use Rattle.xp_value.specs.declared.value.Rep.{Rep}
use Rattle.xp_catalog.specs.declared.rows.PseudoType.{PseudoType}
use Rattle.xp_catalog.specs.declared.rows.TypeKind.TheVariants as kind
use Rattle.xp_catalog.specs.declared.rows.TypeRow.{TypeRow}
use Rattle.xp_catalog.specs.declared.rows.FuncRow.{FuncRow}
use Rattle.xp_catalog.specs.declared.record.Record.{Record}
use Rattle.xp_catalog.specs.declared.record.Record.TheVariants as row
use Rattle.xp_catalog.specs.Contents.{Contents, added, array_row, type_row, unknown_row, with_type}
use Rattle.xp_catalog.specs.Rules.{casts_by, kind_of, name_of}
use Rattle.xp_catalog.specs.Spelling.{pseudo_type}
use Rattle.xp_catalog.specs.WellFormed.{IsBuilt}
use Rattle.xp_catalog.specs.WellFormed.IsBuilt.{nothing, more}
use Rattle.xp_types.proofs.Places.{slice_get_old}
use Rattle.xp_io.specs.Representations.{rep_by}

-- what holds of all holds of the one at a place
pub all_at : {A : Type 0} (P : A → Type 0) (xs : List A) (k : ℕ) (x : A) → All P xs → slice_get xs k ≡ Some x → P x
all_at P xs k x all at =
    let here : P (get_or xs k x) = all k x (slice_get_within xs k x at) in
    rw (get_or_from_slice_get xs k x x at) at here

-- how a type that is no domain keeps its values
abbrev pub kept : Contents → TypeNo → Rep
kept c type = rep_by (kind_of c type) (name_of c type)

pub record IsGrown (c d : Contents) : Type 0 where
  pub types : List TypeRow
  pub funcs : List FuncRow
  pub more_types : d.types ≡ c.types ++ types
  pub more_funcs : d.funcs ≡ c.funcs ++ funcs

grown_plain : (types : List TypeRow) (name : List ℕ) (category : ℕ) (preferred : Bool) (line : ℕ) → (behind : List TypeRow) × (with_type types name category preferred line ≡ types ++ behind)
grown_plain types name category preferred line = go (pseudo_type name) refl
  where
    go : (found : Option PseudoType) → pseudo_type name ≡ found → (behind : List TypeRow) × (with_type types name category preferred line ≡ types ++ behind)
    go (Some pseudo) is = (type_row name category preferred (kind.Pseudo pseudo) line ∷ [], rw is refl)
    go None is = (type_row name category preferred kind.Plain line ∷ array_row (length types) (type_row name category preferred kind.Plain line) ∷ [], rw is refl)

pub grown_added : (c : Contents) (r : Record) → IsGrown c (added c r)
grown_added c (row.Plain name category preferred line) =
    let grown = grown_plain c.types name category preferred line in
    record { types = grown.0; funcs = []; more_types = grown.1; more_funcs = sym (append-nil c.funcs) }
grown_added c (row.Range name subtype line) = record { types = _; funcs = []; more_types = refl; more_funcs = sym (append-nil c.funcs) }
grown_added c (row.Domain name base not_null check line) = record { types = _; funcs = []; more_types = refl; more_funcs = sym (append-nil c.funcs) }
grown_added c (row.Cast cast) = record { types = []; funcs = []; more_types = sym (append-nil c.types); more_funcs = sym (append-nil c.funcs) }
grown_added c (row.Function func) = record { types = []; funcs = func ∷ []; more_types = sym (append-nil c.types); more_funcs = refl }
grown_added c (row.Operator oper) = record { types = []; funcs = []; more_types = sym (append-nil c.types); more_funcs = sym (append-nil c.funcs) }

pub longer : (c d : Contents) → IsGrown c d → length c.types ≤ length d.types
longer c d grown =
    let sum : length d.types ≡ length c.types + length grown.types = ap length grown.more_types ∙ length-append c.types grown.types in
    omega (arith, sum)

pub kept_later : (c d : Contents) (type : TypeNo) → IsGrown c d → type.0 < length c.types → kept d type ≡ kept c type
kept_later c d type grown within = rw (grown.more_types, slice_get_old c.types grown.types type.0 within) refl

func_within : (c : Contents) (number : RowNo) (from to : TypeNo) → casts_by c number from to ≡ true → number.0 < length c.funcs
func_within c number from to is = go (slice_get c.funcs number.0) refl
  where
    go : (o : Option FuncRow) → slice_get c.funcs number.0 ≡ o → number.0 < length c.funcs
    go None at = let never : casts_by c number from to ≡ false = rw at refl in cc (never, is)
    go (Some func) at = slice_get_within c.funcs number.0 func at

pub casts_later : (c d : Contents) (number : RowNo) (from to : TypeNo) → IsGrown c d → casts_by c number from to ≡ true → casts_by d number from to ≡ true
casts_later c d number from to grown is = rw (grown.more_funcs, slice_get_old c.funcs grown.funcs number.0 (func_within c number from to is)) is

-- the type `unknown` stays at the head
pub unknown_first : (n : ℕ) (c : Contents) → IsBuilt n c → slice_get c.types 0 ≡ Some unknown_row
unknown_first n c nothing = refl
unknown_first n c (more m before r built keeps) =
    let was : slice_get before.types 0 ≡ Some unknown_row = unknown_first m before built in
    let grown = grown_added before r in
    let some : 0 < length before.types = slice_get_within before.types 0 unknown_row was in
    rw (grown.more_types, slice_get_old before.types grown.types 0 some) was
