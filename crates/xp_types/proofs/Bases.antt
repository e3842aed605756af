-- A domain is over no domain.
use Rattle.std.proofs.Common.{◌≡◌, ℕ, zero, suc, ◌+◌, ◌-◌, ◌<◌, List, [], ◌∷◌, ◌++◌, Bool, true, false, ◌&&◌, not, length, refl, sym, ◌∙◌, ap, arith, length-append, append-nil, Option, Some, None, slice_get, subst, inl, inr}
use Rattle.std.specs.Option.{option_map_or}
use Rattle.std.proofs.lemmas.Bool.{cases_lt}
use Rattle.xp_base.specs.declared.numbers.TypeNo.{TypeNo}
use Rattle.xp_catalog.specs.declared.rows.PseudoType.{PseudoType}
use Rattle.xp_catalog.specs.declared.rows.TypeKind.TheVariants as kind
use Rattle.xp_catalog.specs.declared.rows.TypeRow.{TypeRow}
use Rattle.xp_catalog.specs.declared.rows.DomainRow.{DomainRow}
use Rattle.xp_catalog.specs.declared.record.Record.{Record}
use Rattle.xp_catalog.specs.declared.record.Record.TheVariants as row
use Rattle.xp_catalog.specs.Contents.{Contents, added, array_row, type_row, with_type}
use Rattle.xp_catalog.specs.Rules.{is_domain_kind, keeps_rules, kind_of}
use Rattle.xp_catalog.specs.Spelling.{pseudo_type}
use Rattle.xp_catalog.specs.WellFormed.{IsBuilt, IsWellFormed}
use Rattle.xp_catalog.specs.WellFormed.IsBuilt.{nothing, more}
use Rattle.xp_catalog.proofs.Keeps.{Keeps, keeps-each, known-within}
use Rattle.xp_types.specs.Readers.{base}
use Rattle.xp_types.specs.Paths.{is_domain}
use Rattle.xp_types.proofs.Places.{slice_get_new, slice_get_old}

-- what a record puts behind the types
more_types : (c : Contents) (r : Record) → (behind : List TypeRow) × ((added c r).types ≡ c.types ++ behind)
more_types c (row.Plain name category preferred line) = go (pseudo_type name) refl
  where
    go : (found : Option PseudoType) → pseudo_type name ≡ found → (behind : List TypeRow) × (with_type c.types name category preferred line ≡ c.types ++ behind)
    go (Some pseudo) is = (type_row name category preferred (kind.Pseudo pseudo) line ∷ [], rw is refl)
    go None is = (type_row name category preferred kind.Plain line ∷ array_row (length c.types) (type_row name category preferred kind.Plain line) ∷ [], rw is refl)
more_types c (row.Range name subtype line) = (_, refl)
more_types c (row.Domain name base not_null check line) = (_, refl)
more_types c (row.Cast cast) = ([], sym (append-nil c.types))
more_types c (row.Function func) = ([], sym (append-nil c.types))
more_types c (row.Operator oper) = ([], sym (append-nil c.types))

kind_stays : (c d : Contents) (behind : List TypeRow) (t : TypeNo) → d.types ≡ c.types ++ behind → t.0 < length c.types → kind_of d t ≡ kind_of c t
kind_stays c d behind t is within = rw (is, slice_get_old c.types behind t.0 within) refl

record IsPlainBase (c : Contents) (base : TypeNo) : Type 0 where
  within : base.0 < length c.types
  plain : is_domain c base ≡ false

abbrev HavePlainBases : Contents → List DomainRow → Type 0
HavePlainBases c domains = (k : ℕ) (d : DomainRow) → slice_get domains k ≡ Some d → IsPlainBase c d.base

plain_later : (c d : Contents) (behind : List TypeRow) (base : TypeNo) → d.types ≡ c.types ++ behind → IsPlainBase c base → IsPlainBase d base
plain_later c d behind base is was =
    let grown : length d.types ≡ length c.types + length behind = ap length is ∙ length-append c.types behind in
    record {
      within = omega (arith, grown, was.within);
      plain = ap is_domain_kind (kind_stays c d behind base is was.within) ∙ was.plain;
    }

is_not : (a : Bool) → not a ≡ true → a ≡ false
is_not false is = refl
is_not true is = absurd (grind (arith, is))

first_of_five : (a b c d e : Bool) → (a && b && c && d && e) ≡ true → a ≡ true
first_of_five true b c d e is = refl
first_of_five false b c d e is = is

-- the rules of records say it of the base that a record names
named_base : (c : Contents) (name : List ℕ) (over : TypeNo) (not_null : Bool) (check : List ℕ) (line : ℕ) → Keeps c (row.Domain name over not_null check line) → IsPlainBase c over
named_base c name over not_null check line keeps = record {
  within = known-within c over keeps.types;
  plain = is_not (is_domain c over) (first_of_five _ _ _ _ _ keeps.base);
}

new_domain : (d : Contents) (new : DomainRow) (domains : List DomainRow) → HavePlainBases d domains → IsPlainBase d new.base → HavePlainBases d (domains ++ new ∷ [])
new_domain d new domains old plain k domain at = elim (cases_lt k (length domains)) [
  | inl under ↦ old k domain (sym (slice_get_old domains (new ∷ []) k under) ∙ at)
  | inr past ↦
      let j = k - length domains in
      let place : k ≡ length domains + j = omega arith in
      only_new j (sym (slice_get_new domains (new ∷ []) k j place) ∙ at)
]
  where
    only_new : (j : ℕ) → slice_get (new ∷ []) j ≡ Some domain → IsPlainBase d domain.base
    only_new zero found =
        let same : new.base ≡ domain.base = ap (λ o. option_map_or (λ row. row.base) o new.base) found in
        subst (IsPlainBase d) same plain
    only_new (suc j) found = absurd (grind (arith, found))

bases_added : (c : Contents) (r : Record) → keeps_rules c r ≡ true → HavePlainBases c c.domains → HavePlainBases (added c r) (added c r).domains
bases_added c (row.Plain name category preferred line) keeps old = λ k d at. let grown = more_types c (row.Plain name category preferred line) in plain_later c (added c (row.Plain name category preferred line)) grown.0 d.base grown.1 (old k d at)
bases_added c (row.Range name subtype line) keeps old = λ k d at. let grown = more_types c (row.Range name subtype line) in plain_later c (added c (row.Range name subtype line)) grown.0 d.base grown.1 (old k d at)
bases_added c (row.Domain name over not_null check line) keeps old =
    let r = row.Domain name over not_null check line in
    let grown = more_types c r in
    let new : IsPlainBase (added c r) over = plain_later c (added c r) grown.0 over grown.1 (named_base c name over not_null check line (keeps-each c r keeps)) in
    new_domain (added c r) (record { name = name; ty = record { 0 = length c.types }; base = over; not_null = not_null; check = check; line = line }) c.domains (λ k d at. plain_later c (added c r) grown.0 d.base grown.1 (old k d at)) new
bases_added c (row.Cast cast) keeps old = λ k d at. plain_later c (added c (row.Cast cast)) [] d.base (sym (append-nil c.types)) (old k d at)
bases_added c (row.Function func) keeps old = λ k d at. plain_later c (added c (row.Function func)) [] d.base (sym (append-nil c.types)) (old k d at)
bases_added c (row.Operator oper) keeps old = λ k d at. plain_later c (added c (row.Operator oper)) [] d.base (sym (append-nil c.types)) (old k d at)

bases_built : (n : ℕ) (c : Contents) → IsBuilt n c → HavePlainBases c c.domains
bases_built n c nothing = λ k d at. absurd (grind (arith, at))
bases_built n c (more m before r built keeps) = bases_added before r keeps (bases_built m before built)

-- the type that a domain is over is no domain
pub over_no_domain : (c : Contents) (k : ℕ) (d : DomainRow) → IsWellFormed c → slice_get c.domains k ≡ Some d → is_domain c d.base ≡ false
over_no_domain c k d well at = (bases_built well.count c well.built k d at).plain
