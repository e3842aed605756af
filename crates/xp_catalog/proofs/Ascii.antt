-- What is spelled as a name, or as an operator, is ASCII.
use Rattle.std.proofs.Common.{◌≡◌, ℕ, zero, suc, ◌<◌, List, [], ◌∷◌, Bool, true, false, ◌||◌, ◌==◌, nat_lt, codes, get_or, refl, arith, lit<}
use Rattle.std.specs.List.{list_all, list_any}
use Rattle.std.specs.Str.{IsAscii}
use Rattle.std.proofs.lemmas.Bool.{and_parts, eqb-true}
use Rattle.std.proofs.lemmas.Bool.Decides.{nat_tests}
use Rattle.xp_base.specs.Operators.{is_operator_byte, is_operator_name}
use Rattle.xp_catalog.specs.Spelling.{is_name, is_name_byte}

pub IsAscii-from_test : (p : ℕ → Bool) → ((b : ℕ) → p b ≡ true → b < 128) → (bs : List ℕ) → list_all p bs ≡ true → (i : ℕ) → get_or bs i 0 < 128
IsAscii-from_test p small [] h i = lit< tt
IsAscii-from_test p small (b ∷ bs) h zero = small b (and_parts (p b) (list_all p bs) h).0
IsAscii-from_test p small (b ∷ bs) h (suc i) = IsAscii-from_test p small bs (and_parts (p b) (list_all p bs) h).1 i

pub name_byte_small : (b : ℕ) → is_name_byte b ≡ true → b < 128
name_byte_small b h = grind (arith, nat_tests)

-- a byte among bytes that are all small is small
among_small : (cs : List ℕ) (b : ℕ) → list_all (λ c. nat_lt c 128) cs ≡ true → list_any (λ c. c == b) cs ≡ true → b < 128
among_small [] b small h = cc h
among_small (c ∷ cs) b small h =
    elim (c == b) as (λ v. c == b ≡ v → (v || list_any (λ d. d == b) cs) ≡ true → b < 128) [
      | true ↦ λ e k. grind (arith, nat_tests, eqb-true c b e, (and_parts (nat_lt c 128) (list_all (λ d. nat_lt d 128) cs) small).0)
      | false ↦ λ e k. among_small cs b (and_parts (nat_lt c 128) (list_all (λ d. nat_lt d 128) cs) small).1 k
    ] refl h

pub operator_byte_small : (b : ℕ) → is_operator_byte b ≡ true → b < 128
operator_byte_small b h = among_small (codes "+-*/<>=~!@#%^&|`?") b refl h

pub IsAscii-from_name : (name : List ℕ) → is_name name ≡ true → IsAscii name
IsAscii-from_name name h = IsAscii-from_test is_name_byte name_byte_small name (and_parts _ _ (and_parts _ _ h).0).1

pub IsAscii-from_operator : (name : List ℕ) → is_operator_name name ≡ true → IsAscii name
IsAscii-from_operator name h = IsAscii-from_test is_operator_byte operator_byte_small name (and_parts _ _ (and_parts _ _ (and_parts _ _ (and_parts _ _ (and_parts _ _ (and_parts _ _ h).0).0).0).0).0).1
