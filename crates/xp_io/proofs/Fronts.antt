-- A word that is a front of a name.
use Rattle.std.proofs.Common.{◌≡◌, ℕ, ◌≤◌, List, Bool, true, ◌↔◌, IsTrue, length, take, nat_le}
use Rattle.std.specs.Bool.{one_answer}
use Rattle.std.specs.Str.{str_to_ascii_lowercase}
use Rattle.std.proofs.lemmas.Bool.{le-leb}
use Rattle.std.proofs.lemmas.Slice.Eq.{bytes_eq-Decides}
use Rattle.xp_io.specs.Booleans.{is_front}

pub fronts : (least : ℕ) (name word : List ℕ) (r : Bool) → least ≤ length word → length word ≤ length name
    → (IsTrue r ↔ (str_to_ascii_lowercase (take (length word) name) ≡ str_to_ascii_lowercase word)) → r ≡ is_front least name word
fronts least name word r some fits same =
    let low : nat_le least (length word) ≡ true = le-leb least (length word) some in
    let high : nat_le (length word) (length name) ≡ true = le-leb (length word) (length name) fits in
    rw (low, high) (one_answer r _ same (bytes_eq-Decides (str_to_ascii_lowercase (take (length word) name)) (str_to_ascii_lowercase word)))
