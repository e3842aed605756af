-- What is read of a record, by the rule that it breaks and what it says.
use Rattle.std.proofs.Common.{◌≡◌, ℕ, ◌≤◌, List, true, refl, Option, Some, None, Ok, Err, nat_le, arith}
use Rattle.std.proofs.lemmas.Bool.Decides.{nat_tests}
use Rattle.xp_base.specs.declared.limits.TheConstants.{RECORD_LIMIT}
use Rattle.xp_catalog.specs.declared.why.Why.{Why}
use Rattle.xp_catalog.specs.declared.why.CatFault.TheVariants as fault
use Rattle.xp_catalog.specs.Contents.{Contents, added}
use Rattle.xp_catalog.specs.declared.record.Record.{Record}
use Rattle.xp_loader.specs.declared.record.Refusal.TheVariants.{Broken}
use Rattle.xp_loader.specs.Loading.{accepted}
use Rattle.xp_loader.specs.Reading.{record_of}
use Rattle.xp_loader.specs.Refusing.{first_broken, judged, rules}

pub judged_broken : (broken : Option Why) (said : Option Record) (why : Why) → broken ≡ Some why → judged broken said ≡ Err (Broken why)
judged_broken broken said why h = rw h refl

pub judged_said : (broken : Option Why) (said : Option Record) (r : Record) → broken ≡ None → said ≡ Some r → judged broken said ≡ Ok r
judged_said broken said r h is = rw (h, is) refl

-- what is added breaks no rule
pub said_by : (broken : Option Why) (said : Option Record) (r : Record) → judged broken said ≡ Ok r → (broken ≡ None) × (said ≡ Some r)
said_by None (Some r) r' h = (refl, cc)
said_by None None r h = absurd cc
said_by (Some why) said r h = absurd cc

-- what is refused breaks that rule
pub broken_by : (broken : Option Why) (said : Option Record) (why : Why) → judged broken said ≡ Err (Broken why) → broken ≡ Some why
broken_by (Some why) said why' h = cc
broken_by None (Some r) why h = absurd cc
broken_by None None why h = absurd cc

pub accepted_said : (c : Contents) (line : ℕ) (fields : List (List ℕ)) (r : Record) → line ≤ RECORD_LIMIT → judged (first_broken rules c line fields) (record_of c line fields) ≡ Ok r → accepted c line fields ≡ Ok (added c r)
accepted_said c line fields r few read =
    let under : nat_le line RECORD_LIMIT ≡ true = grind (arith, nat_tests) in
    let said = said_by (first_broken rules c line fields) (record_of c line fields) r read in
    rw (under, said.0, said.1) refl

pub accepted_broken : (c : Contents) (line : ℕ) (fields : List (List ℕ)) (why : Why) → line ≤ RECORD_LIMIT → judged (first_broken rules c line fields) (record_of c line fields) ≡ Err (Broken why) → accepted c line fields ≡ Err (fault.Row line why)
accepted_broken c line fields why few read =
    let under : nat_le line RECORD_LIMIT ≡ true = grind (arith, nat_tests) in
    rw (under, broken_by (first_broken rules c line fields) (record_of c line fields) why read) refl
