-- The numbers of a catalogue's rows are those of rows, by the rules that its records keep.
use Rattle.std.proofs.Common.{◌≡◌, ℕ, zero, suc, ◌+◌, ◌*◌, ◌<◌, ◌≤◌, List, [], ◌∷◌, ◌++◌, Bool, true, false, length, length-append, Option, Some, None, IfSome, slice_get, refl, sym, subst, arith}
use Rattle.std.specs.Option.{option_map_or}
use Rattle.std.specs.List.{All, list_all}
use Rattle.std.proofs.lemmas.List.Elements.{All-append, All-cons, All-nil, All-push, All-weaker}
use Rattle.std.proofs.lemmas.Bool.{and_parts}
use Rattle.xp_base.specs.declared.limits.TheConstants.{RECORD_LIMIT}
use Rattle.xp_base.specs.declared.numbers.TypeNo.{TypeNo}
use Rattle.xp_catalog.specs.declared.rows.PseudoType.{PseudoType}
use Rattle.xp_catalog.specs.declared.rows.TypeKind.{TypeKind}
use Rattle.xp_catalog.specs.declared.rows.TypeKind.TheVariants as kind
use Rattle.xp_catalog.specs.declared.rows.TypeRow.{TypeRow}
use Rattle.xp_catalog.specs.declared.rows.CastMethod.{CastMethod}
use Rattle.xp_catalog.specs.declared.rows.CastMethod.TheVariants as method
use Rattle.xp_catalog.specs.declared.rows.CastRow.{CastRow}
use Rattle.xp_catalog.specs.declared.rows.FuncRow.{FuncRow}
use Rattle.xp_catalog.specs.declared.rows.OperRow.{OperRow}
use Rattle.xp_catalog.specs.declared.rows.DomainRow.{DomainRow}
use Rattle.xp_catalog.specs.declared.rows.RangeRow.{RangeRow}
use Rattle.xp_catalog.specs.declared.record.Record.{Record}
use Rattle.xp_catalog.specs.declared.record.Record.TheVariants as row
use Rattle.xp_catalog.specs.Contents.{Contents, added, array_row, category_at, first_contents, type_row, unknown_row, with_array}
use Rattle.xp_catalog.specs.Known.{IsKnown, IsKnownCast, IsKnownDomain, IsKnownFunc, IsKnownKind, IsKnownMethod, IsKnownOper, IsKnownRange}
use Rattle.xp_catalog.specs.Lookups.{operands}
use Rattle.xp_catalog.specs.Rules.{has_cast_function, is_known, keeps_rules}
use Rattle.xp_catalog.specs.Spelling.{pseudo_type}
use Rattle.xp_catalog.specs.WellFormed.{HasRoom, IsBuilt, IsWellFormed, more, nothing}
use Rattle.xp_catalog.proofs.Keeps.{Keeps, keeps-each, known-all, known-within}

-- ---- rows stay known as lists grow

pub record Grows (c d : Contents) : Type 0 where
  pub types : length c.types ≤ length d.types
  pub funcs : length c.funcs ≤ length d.funcs
  pub domains : length c.domains ≤ length d.domains
  pub ranges : length c.ranges ≤ length d.ranges

kind_later : (c d : Contents) → Grows c d → (k : TypeKind) → IsKnownKind c k → IsKnownKind d k
kind_later c d g kind.Plain p = tt
kind_later c d g (kind.Pseudo pseudo) p = tt
kind_later c d g (kind.Array element) p = omega (arith, g.types)
kind_later c d g (kind.Range number) p = omega (arith, g.ranges)
kind_later c d g (kind.Domain number) p = omega (arith, g.domains)

method_later : (c d : Contents) → Grows c d → (m : CastMethod) → IsKnownMethod c m → IsKnownMethod d m
method_later c d g method.Binary p = tt
method_later c d g method.None p = tt
method_later c d g (method.Function number) p = omega (arith, g.funcs)

cast_later : (c d : Contents) → Grows c d → (cast : CastRow) → IsKnownCast c cast → IsKnownCast d cast
cast_later c d g cast p = record { from = omega (arith, g.types, p.from); to = omega (arith, g.types, p.to); method = method_later c d g cast.method p.method }

func_later : (c d : Contents) → Grows c d → (func : FuncRow) → IsKnownFunc c func → IsKnownFunc d func
func_later c d g func p = record {
  args = All-weaker (λ (t : TypeNo). t.0 < length c.types) (λ (t : TypeNo). t.0 < length d.types) (λ t q. omega (arith, g.types)) func.args p.args;
  result = omega (arith, g.types, p.result);
}

left_later : (m n : ℕ) → m ≤ n → (left : Option TypeNo) → IfSome left (λ t. t.0 < m) → IfSome left (λ t. t.0 < n)
left_later m n le None p = p
left_later m n le (Some t) p = omega arith

oper_later : (c d : Contents) → Grows c d → (oper : OperRow) → IsKnownOper c oper → IsKnownOper d oper
oper_later c d g oper p = record {
  left = left_later (length c.types) (length d.types) g.types oper.left p.left;
  right = omega (arith, g.types, p.right);
  function = omega (arith, g.funcs, p.function);
}

domain_later : (c d : Contents) → Grows c d → (domain : DomainRow) → IsKnownDomain c domain → IsKnownDomain d domain
domain_later c d g domain p = record { ty = omega (arith, g.types, p.ty); base = omega (arith, g.types, p.base) }

range_later : (c d : Contents) → Grows c d → (range : RangeRow) → IsKnownRange c range → IsKnownRange d range
range_later c d g range p = record { ty = omega (arith, g.types, p.ty); subtype = omega (arith, g.types, p.subtype) }

-- ---- all rows but their number

pub record AreKnown (c d : Contents) : Type 0 where
  pub types : All (λ type. IsKnownKind d type.kind) c.types
  pub casts : All (IsKnownCast d) c.casts
  pub funcs : All (IsKnownFunc d) c.funcs
  pub opers : All (IsKnownOper d) c.opers
  pub domains : All (IsKnownDomain d) c.domains
  pub ranges : All (IsKnownRange d) c.ranges

all_later : (c d : Contents) → Grows c d → AreKnown c c → AreKnown c d
all_later c d g p = record {
  types = All-weaker (λ (t : TypeRow). IsKnownKind c t.kind) (λ (t : TypeRow). IsKnownKind d t.kind) (λ t. kind_later c d g t.kind) c.types p.types;
  casts = All-weaker (IsKnownCast c) (IsKnownCast d) (cast_later c d g) c.casts p.casts;
  funcs = All-weaker (IsKnownFunc c) (IsKnownFunc d) (func_later c d g) c.funcs p.funcs;
  opers = All-weaker (IsKnownOper c) (IsKnownOper d) (oper_later c d g) c.opers p.opers;
  domains = All-weaker (IsKnownDomain c) (IsKnownDomain d) (domain_later c d g) c.domains p.domains;
  ranges = All-weaker (IsKnownRange c) (IsKnownRange d) (range_later c d g) c.ranges p.ranges;
}

-- ---- what a record adds is known

first_known : AreKnown first_contents first_contents
first_known = record {
  types = All-cons (λ (t : TypeRow). IsKnownKind first_contents t.kind) unknown_row [] tt (All-nil (λ (t : TypeRow). IsKnownKind first_contents t.kind));
  casts = λ k d h. absurd (omega arith);
  funcs = λ k d h. absurd (omega arith);
  opers = λ k d h. absurd (omega arith);
  domains = λ k d h. absurd (omega arith);
  ranges = λ k d h. absurd (omega arith);
}

-- a type and its array type
array_known : (types : List TypeRow) (d : Contents) (type : TypeRow) → length d.types ≡ length types + 2 → All (λ t. IsKnownKind d t.kind) types → IsKnownKind d type.kind → All (λ t. IsKnownKind d t.kind) (with_array types type)
array_known types d type e all new =
    let place : length types < length d.types = omega arith in
    let Known : TypeRow → Type 0 = λ t. IsKnownKind d t.kind in
    let two : All Known (type ∷ array_row (length types) type ∷ []) = All-cons Known type (array_row (length types) type ∷ []) new (All-cons Known (array_row (length types) type) [] place (All-nil Known)) in
    All-append Known types (type ∷ array_row (length types) type ∷ []) all two

length-with_array : (types : List TypeRow) (type : TypeRow) → length (with_array types type) ≡ length types + 2
length-with_array types type = rw length-append refl

length-one : {X : Type 0} (xs : List X) (x : X) → length (xs ++ x ∷ []) ≡ length xs + 1
length-one xs x = rw length-append refl

-- the row that a look-up by number finds is there
found-within : {X : Type 0} (f : X → Bool) (xs : List X) (k : ℕ) → option_map_or f (slice_get xs k) false ≡ true → k < length xs
found-within f [] k h = cc h
found-within f (x ∷ xs) zero h = omega arith
found-within f (x ∷ xs) (suc k) h = let m : k < length xs = found-within f xs k h in omega arith

method_known : (c : Contents) (cast : CastRow) (m : CastMethod) → has_cast_function c cast m ≡ true → IsKnownMethod c m
method_known c cast method.Binary h = tt
method_known c cast method.None h = tt
method_known c cast (method.Function number) h = found-within _ c.funcs number.0 h

operands_known : (c : Contents) (left : Option TypeNo) (right : TypeNo) → list_all (is_known c) (operands left right) ≡ true → IfSome left (λ t. t.0 < length c.types) × (right.0 < length c.types)
operands_known c None right h = (tt, known-within c right (and_parts (is_known c right) true h).0)
operands_known c (Some left) right h =
    let rest = (and_parts (is_known c left) (list_all (is_known c) (right ∷ [])) h).1 in
    (known-within c left (and_parts (is_known c left) (list_all (is_known c) (right ∷ [])) h).0, known-within c right (and_parts (is_known c right) true rest).0)

abbrev with_plain : Option PseudoType → Contents → List ℕ → ℕ → Bool → ℕ → Contents
with_plain pseudo c name category preferred line = record c { types = option_map_or (λ p. c.types ++ type_row name category preferred (kind.Pseudo p) line ∷ []) pseudo (with_array c.types (type_row name category preferred kind.Plain line)) }

plain_known : (pseudo : Option PseudoType) (c : Contents) (name : List ℕ) (category : ℕ) (preferred : Bool) (line : ℕ) → AreKnown c c → AreKnown (with_plain pseudo c name category preferred line) (with_plain pseudo c name category preferred line)
plain_known (Some pseudo) c name category preferred line p =
    let type : TypeRow = type_row name category preferred (kind.Pseudo pseudo) line in
    let d : Contents = with_plain (Some pseudo) c name category preferred line in
    let count : length d.types ≡ length c.types + 1 = length-one c.types type in
    let grows : Grows c d = record { types = omega arith; funcs = omega arith; domains = omega arith; ranges = omega arith } in
    let old : AreKnown c d = all_later c d grows p in
    record {
      types = All-push (λ t. IsKnownKind d t.kind) c.types type old.types tt;
      casts = old.casts;
      funcs = old.funcs;
      opers = old.opers;
      domains = old.domains;
      ranges = old.ranges;
    }
plain_known None c name category preferred line p =
    let type : TypeRow = type_row name category preferred kind.Plain line in
    let d : Contents = with_plain None c name category preferred line in
    let count : length d.types ≡ length c.types + 2 = length-with_array c.types type in
    let grows : Grows c d = record { types = omega arith; funcs = omega arith; domains = omega arith; ranges = omega arith } in
    let old : AreKnown c d = all_later c d grows p in
    record {
      types = array_known c.types d type count old.types tt;
      casts = old.casts;
      funcs = old.funcs;
      opers = old.opers;
      domains = old.domains;
      ranges = old.ranges;
    }

added_known : (c : Contents) (r : Record) → AreKnown c c → Keeps c r → AreKnown (added c r) (added c r)
added_known c (row.Plain name category preferred line) p k = plain_known (pseudo_type name) c name category preferred line p
added_known c (row.Range name subtype line) p k =
    let type : TypeRow = type_row name 82 false (kind.Range (record { 0 = length c.ranges })) line in
    let range : RangeRow = record { name = name; ty = record { 0 = length c.types }; subtype = subtype; line = line } in
    let d : Contents = added c (row.Range name subtype line) in
    let count : length d.types ≡ length c.types + 2 = length-with_array c.types type in
    let more_ranges : length d.ranges ≡ length c.ranges + 1 = length-one c.ranges range in
    let grows : Grows c d = record { types = omega arith; funcs = omega arith; domains = omega arith; ranges = omega arith } in
    let old : AreKnown c d = all_later c d grows p in
    let place : length c.ranges < length d.ranges = omega arith in
    let under : subtype.0 < length c.types = known-within c subtype k.types in
    let new : IsKnownRange d range = record { ty = omega arith; subtype = omega arith } in
    record {
      types = array_known c.types d type count old.types place;
      casts = old.casts;
      funcs = old.funcs;
      opers = old.opers;
      domains = old.domains;
      ranges = All-push (IsKnownRange d) c.ranges range old.ranges new;
    }
added_known c (row.Domain name base not_null check line) p k =
    let type : TypeRow = type_row name (category_at c.types base) false (kind.Domain (record { 0 = length c.domains })) line in
    let domain : DomainRow = record { name = name; ty = record { 0 = length c.types }; base = base; not_null = not_null; check = check; line = line } in
    let d : Contents = added c (row.Domain name base not_null check line) in
    let count : length d.types ≡ length c.types + 2 = length-with_array c.types type in
    let more_domains : length d.domains ≡ length c.domains + 1 = length-one c.domains domain in
    let grows : Grows c d = record { types = omega arith; funcs = omega arith; domains = omega arith; ranges = omega arith } in
    let old : AreKnown c d = all_later c d grows p in
    let place : length c.domains < length d.domains = omega arith in
    let under : base.0 < length c.types = known-within c base k.types in
    let new : IsKnownDomain d domain = record { ty = omega arith; base = omega arith } in
    record {
      types = array_known c.types d type count old.types place;
      casts = old.casts;
      funcs = old.funcs;
      opers = old.opers;
      domains = All-push (IsKnownDomain d) c.domains domain old.domains new;
      ranges = old.ranges;
    }
added_known c (row.Cast cast) p k =
    let d : Contents = added c (row.Cast cast) in
    let grows : Grows c d = record { types = omega arith; funcs = omega arith; domains = omega arith; ranges = omega arith } in
    let old : AreKnown c d = all_later c d grows p in
    let new : IsKnownCast c cast = record {
      from = known-within c cast.from (and_parts (is_known c cast.from) (is_known c cast.to) k.types).0;
      to = known-within c cast.to (and_parts (is_known c cast.from) (is_known c cast.to) k.types).1;
      method = method_known c cast cast.method k.function;
    } in
    record {
      types = old.types;
      casts = All-push (IsKnownCast d) c.casts cast old.casts (cast_later c d grows cast new);
      funcs = old.funcs;
      opers = old.opers;
      domains = old.domains;
      ranges = old.ranges;
    }
added_known c (row.Function func) p k =
    let d : Contents = added c (row.Function func) in
    let count : length d.funcs ≡ length c.funcs + 1 = length-one c.funcs func in
    let grows : Grows c d = record { types = omega arith; funcs = omega arith; domains = omega arith; ranges = omega arith } in
    let old : AreKnown c d = all_later c d grows p in
    let new : IsKnownFunc c func = record {
      args = known-all c func.args (and_parts (list_all (is_known c) func.args) (is_known c func.result) k.types).0;
      result = known-within c func.result (and_parts (list_all (is_known c) func.args) (is_known c func.result) k.types).1;
    } in
    record {
      types = old.types;
      casts = old.casts;
      funcs = All-push (IsKnownFunc d) c.funcs func old.funcs (func_later c d grows func new);
      opers = old.opers;
      domains = old.domains;
      ranges = old.ranges;
    }
added_known c (row.Operator oper) p k =
    let d : Contents = added c (row.Operator oper) in
    let grows : Grows c d = record { types = omega arith; funcs = omega arith; domains = omega arith; ranges = omega arith } in
    let old : AreKnown c d = all_later c d grows p in
    let both = operands_known c oper.left oper.right k.types in
    let new : IsKnownOper c oper = record { left = both.0; right = both.1; function = found-within _ c.funcs oper.function.0 k.function } in
    record {
      types = old.types;
      casts = old.casts;
      funcs = old.funcs;
      opers = All-push (IsKnownOper d) c.opers oper old.opers (oper_later c d grows oper new);
      domains = old.domains;
      ranges = old.ranges;
    }

-- ---- how many rows so many records give

record HasRowsOf (n : ℕ) (c : Contents) : Type 0 where
  types : length c.types ≤ 2 * n + 1
  casts : length c.casts ≤ n
  funcs : length c.funcs ≤ n
  opers : length c.opers ≤ n
  domains : length c.domains ≤ n
  ranges : length c.ranges ≤ n

plain_rows : (pseudo : Option PseudoType) (n : ℕ) (c : Contents) (name : List ℕ) (category : ℕ) (preferred : Bool) (line : ℕ) → HasRowsOf n c → HasRowsOf (n + 1) (with_plain pseudo c name category preferred line)
plain_rows (Some pseudo) n c name category preferred line h = record { types = rw length-append (omega (arith, h.types)); casts = omega (arith, h.casts); funcs = omega (arith, h.funcs); opers = omega (arith, h.opers); domains = omega (arith, h.domains); ranges = omega (arith, h.ranges) }
plain_rows None n c name category preferred line h = record { types = rw length-append (omega (arith, h.types)); casts = omega (arith, h.casts); funcs = omega (arith, h.funcs); opers = omega (arith, h.opers); domains = omega (arith, h.domains); ranges = omega (arith, h.ranges) }

added_rows : (n : ℕ) (c : Contents) (r : Record) → HasRowsOf n c → HasRowsOf (n + 1) (added c r)
added_rows n c (row.Plain name category preferred line) h = plain_rows (pseudo_type name) n c name category preferred line h
added_rows n c (row.Range name subtype line) h = record { types = rw length-append (omega (arith, h.types)); casts = omega (arith, h.casts); funcs = omega (arith, h.funcs); opers = omega (arith, h.opers); domains = omega (arith, h.domains); ranges = rw length-append (omega (arith, h.ranges)) }
added_rows n c (row.Domain name base not_null check line) h = record { types = rw length-append (omega (arith, h.types)); casts = omega (arith, h.casts); funcs = omega (arith, h.funcs); opers = omega (arith, h.opers); domains = rw length-append (omega (arith, h.domains)); ranges = omega (arith, h.ranges) }
added_rows n c (row.Cast cast) h = record { types = omega (arith, h.types); casts = rw length-append (omega (arith, h.casts)); funcs = omega (arith, h.funcs); opers = omega (arith, h.opers); domains = omega (arith, h.domains); ranges = omega (arith, h.ranges) }
added_rows n c (row.Function func) h = record { types = omega (arith, h.types); casts = omega (arith, h.casts); funcs = rw length-append (omega (arith, h.funcs)); opers = omega (arith, h.opers); domains = omega (arith, h.domains); ranges = omega (arith, h.ranges) }
added_rows n c (row.Operator oper) h = record { types = omega (arith, h.types); casts = omega (arith, h.casts); funcs = omega (arith, h.funcs); opers = rw length-append (omega (arith, h.opers)); domains = omega (arith, h.domains); ranges = omega (arith, h.ranges) }

-- ---- what is built is known

built_known : (n : ℕ) (c : Contents) → IsBuilt n c → AreKnown c c × HasRowsOf n c
built_known n c nothing = (first_known, record { types = omega arith; casts = omega arith; funcs = omega arith; opers = omega arith; domains = omega arith; ranges = omega arith })
built_known n c (more m before r built keeps) =
    let below = built_known m before built in
    (added_known before r below.0 (keeps-each before r keeps), added_rows m before r below.1)

pub IsKnown-built : (n : ℕ) (c : Contents) → IsBuilt n c → n ≤ RECORD_LIMIT → IsKnown c
IsKnown-built n c built within =
    let p = built_known n c built in
    let rows = p.1 in
    let all = p.0 in
    record {
      few = record { types = omega (arith, rows.types); casts = omega (arith, rows.casts); funcs = omega (arith, rows.funcs); opers = omega (arith, rows.opers); domains = omega (arith, rows.domains); ranges = omega (arith, rows.ranges) };
      types = all.types;
      casts = all.casts;
      funcs = all.funcs;
      opers = all.opers;
      domains = all.domains;
      ranges = all.ranges;
    }

pub IsWellFormed-first : IsWellFormed first_contents
IsWellFormed-first = record { count = 0; within = omega arith; built = nothing; known = IsKnown-built 0 first_contents nothing (omega arith) }

pub IsWellFormed-added : (c : Contents) (r : Record) → HasRoom c → keeps_rules c r ≡ true → IsWellFormed (added c r)
IsWellFormed-added c r room keeps =
    let built : IsBuilt (room.count + 1) (added c r) = more room.count c r room.built keeps in
    let within : room.count + 1 ≤ RECORD_LIMIT = omega (arith, room.within) in
    record { count = room.count + 1; within = within; built = built; known = IsKnown-built (room.count + 1) (added c r) built within }

-- the same of the rows that a call finds, and of those that it leaves
pub IsWellFormed-after : (c s d : Contents) (r : Record) → c ≡ s → HasRoom s → keeps_rules s r ≡ true → d ≡ added c r → IsWellFormed d
IsWellFormed-after c s d r same room keeps e =
    let here : HasRoom c = subst HasRoom (sym same) room in
    let kept : keeps_rules c r ≡ true = subst (λ (x : Contents). keeps_rules x r ≡ true) (sym same) keeps in
    subst IsWellFormed (sym e) (IsWellFormed-added c r here kept)
