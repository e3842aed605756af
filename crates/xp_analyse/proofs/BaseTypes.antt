-- A domain is over a type that values may have.
use Rattle.std.proofs.Common.{◌≡◌, ℕ, true, length, arith, Some}
use Rattle.std.specs.List.{All, slice_get}
use Rattle.std.proofs.lemmas.Bool.Decides.{nat_tests}
use Rattle.std.proofs.lemmas.List.Elements.{All-push}
use Rattle.std.proofs.lemmas.Option.{get_or_from_slice_get, slice_get_within}
use Rattle.xp_base.specs.declared.numbers.TypeNo.{TypeNo}
use Rattle.xp_catalog.specs.declared.record.Record.{Record}
use Rattle.xp_catalog.specs.declared.record.Record.TheVariants as row
use Rattle.xp_catalog.specs.declared.rows.DomainRow.{DomainRow}
use Rattle.xp_catalog.specs.Contents.{Contents, added}
use Rattle.xp_catalog.specs.Rules as rules
use Rattle.xp_catalog.specs.WellFormed.{IsBuilt, IsWellFormed}
use Rattle.xp_catalog.specs.WellFormed.IsBuilt.{nothing, more}
use Rattle.xp_catalog.proofs.Keeps.{Keeps, keeps-each}
use Rattle.xp_types.specs.Readers.{is_known}

abbrev IsOverKnown : DomainRow → Type 0
IsOverKnown domain = is_known domain.base ≡ true

-- a type that a record may name isn't `unknown`
named_known : (c : Contents) (type : TypeNo) → rules.is_known c type ≡ true → is_known type ≡ true
named_known c type h = grind (arith, nat_tests)

over_added : (c : Contents) (r : Record) → Keeps c r → All IsOverKnown c.domains → All IsOverKnown (added c r).domains
over_added c (row.Plain name category preferred line) keeps old = old
over_added c (row.Range name subtype line) keeps old = old
over_added c (row.Domain name base not_null check line) keeps old =
    All-push IsOverKnown c.domains (record { name = name; ty = record { 0 = length c.types }; base = base; not_null = not_null; check = check; line = line }) old (named_known c base keeps.types)
over_added c (row.Cast cast) keeps old = old
over_added c (row.Function func) keeps old = old
over_added c (row.Operator oper) keeps old = old

over_built : (n : ℕ) (c : Contents) → IsBuilt n c → All IsOverKnown c.domains
over_built n c nothing = λ k d h. absurd (omega arith)
over_built n c (more m before r built keeps) = over_added before r (keeps-each before r keeps) (over_built m before built)

pub over_known : (c : Contents) (place : ℕ) (domain : DomainRow) → IsWellFormed c → slice_get c.domains place ≡ Some domain → is_known domain.base ≡ true
over_known c place domain well at = rw (← get_or_from_slice_get c.domains place domain domain at) (over_built well.count c well.built place domain (slice_get_within c.domains place domain at))
