-- The checks of domains, one behind the other.
use Rattle.std.proofs.Common.{◌≡◌, ℕ, ◌+◌, ◌<◌, ◌≤◌, ◌==◌, List, [], ◌∷◌, false, length, drop, suc, refl, sym, ap, ◌∙◌, arith, Some, None, Result, Ok, Err, slice_get}
use Rattle.std.proofs.lemmas.Bool.Decides.{nat_tests}
use Rattle.std.proofs.lemmas.List.Elements.{All-push}
use Rattle.std.proofs.lemmas.Option.{get_or_from_slice_get, slice_get_within}
use Rattle.xp_base.proofs.Lists.{drop_one, drop_none}
use Rattle.xp_base.specs.FromLeft.{and_then}
use Rattle.xp_base.specs.OrMemory.{OrMemory}
use Rattle.xp_base.specs.declared.numbers.RowNo.{RowNo}
use Rattle.xp_catalog.specs.declared.rows.DomainRow.{DomainRow}
use Rattle.xp_catalog.specs.Contents.{Contents}
use Rattle.xp_coerce.specs.Asked.{AreTruths}
use Rattle.xp_tree.specs.declared.checks.DomainCheck.{DomainCheck}
use Rattle.xp_tree.specs.Checked as tree
use Rattle.xp_tree.specs.Term.{Term, type_of}
use Rattle.xp_tree.specs.Typed.{IsBool}
use Rattle.xp_analyse.specs.declared.fault.CheckFault.{CheckFault}
use Rattle.xp_analyse.specs.declared.fault.CheckFault.TheVariants.{BadCheck, Memory}
use Rattle.xp_analyse.specs.Checks.{is_memory, prepared_from, with_check, with_last}
use Rattle.xp_analyse.specs.inner.Ahead.{AreBelow}

-- ---- a domain's own check comes once

-- the domains before have other numbers
pub none_before : (number : RowNo) (before : List DomainCheck) → AreBelow number.0 before → tree.check_of before number ≡ None
none_before number [] below = refl
none_before number (entry ∷ rest) below =
    let first : entry.domain.0 < number.0 = below 0 entry (omega arith) in
    let other : (entry.domain.0 == number.0) ≡ false = grind (arith, nat_tests, first) in
    rw other (none_before number rest (λ k d h. below (suc k) d (omega arith)))

later : (number more : ℕ) (checks : List DomainCheck) → number ≤ more → AreBelow number checks → AreBelow more checks
later number more checks h below = λ k d within. omega (arith, h, below k d within)

pub below_same : (number : ℕ) (checks : List DomainCheck) → AreBelow number checks → AreBelow (number + 1) checks
below_same number checks below = later number (number + 1) checks (omega arith) below

pub below_more : (number : RowNo) (before : List DomainCheck) (check : Term) → AreBelow number.0 before → AreBelow (number.0 + 1) (with_last before number check)
below_more number before check below =
    All-push (λ (entry : DomainCheck). entry.domain.0 < number.0 + 1) before (record { domain = number; check = check }) (below_same number.0 before below) (omega arith)

pub truths_more : (number : RowNo) (before : List DomainCheck) (check : Term) → AreTruths before → IsBool (type_of check) → AreTruths (with_last before number check)
truths_more number before check truths own = All-push (λ (entry : DomainCheck). IsBool (type_of entry.check)) before (record { domain = number; check = check }) truths own

-- ---- the domains from a place on

rest_at : (domains : List DomainRow) (place : ℕ) (domain : DomainRow) → slice_get domains place ≡ Some domain → drop place domains ≡ domain ∷ drop (place + 1) domains
rest_at domains place domain at = drop_one domains place domain (slice_get_within domains place domain at) (sym (get_or_from_slice_get domains place domain domain at))

pub prepared_next : (c : Contents) (before checks : List DomainCheck) (place : ℕ) (domain : DomainRow) → slice_get c.domains place ≡ Some domain → with_check c before (record { 0 = place }) domain ≡ Ok checks
    → prepared_from c checks (place + 1) (drop (place + 1) c.domains) ≡ prepared_from c before place (drop place c.domains)
prepared_next c before checks place domain at is =
    sym (ap (prepared_from c before place) (rest_at c.domains place domain at) ∙ ap (λ made. and_then made (λ more. prepared_from c more (place + 1) (drop (place + 1) c.domains))) is)

stopped : (c : Contents) (before : List DomainCheck) (place : ℕ) (domain : DomainRow) (fault : CheckFault) → slice_get c.domains place ≡ Some domain
    → OrMemory is_memory (with_check c before (record { 0 = place }) domain) (Err fault) → OrMemory is_memory (prepared_from c before place (drop place c.domains)) (Err fault)
stopped c before place domain (BadCheck line) at is =
    ap (prepared_from c before place) (rest_at c.domains place domain at) ∙ ap (λ made. and_then made (λ more. prepared_from c more (place + 1) (drop (place + 1) c.domains))) is
stopped c before place domain Memory at is = tt

pub prepared_stop : (c : Contents) (before : List DomainCheck) (place : ℕ) (domain : DomainRow) (fault : CheckFault) (whole : Result (List DomainCheck) CheckFault) → slice_get c.domains place ≡ Some domain
    → OrMemory is_memory (with_check c before (record { 0 = place }) domain) (Err fault) → prepared_from c before place (drop place c.domains) ≡ whole → OrMemory is_memory whole (Err fault)
prepared_stop c before place domain fault whole at is all = rw (← all) (stopped c before place domain fault at is)

pub prepared_all : (c : Contents) (before : List DomainCheck) (place : ℕ) → length c.domains ≤ place → prepared_from c before place (drop place c.domains) ≡ Ok before
prepared_all c before place end = ap (prepared_from c before place) (drop_none c.domains place end)
