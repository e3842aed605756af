-- A text that is ASCII is UTF-8.
use Rattle.std.proofs.Common.{◌≡◌, ℕ, ◌<◌, List, true, arith}
use Rattle.std.specs.Char.{is_ascii}
use Rattle.std.specs.List.{list_all}
use Rattle.std.specs.Str.{IsUtf8}
use Rattle.std.proofs.lemmas.Bool.Decides.{nat_tests}
use Rattle.std.proofs.lemmas.Str.{IsUtf8-from_ascii}
use Rattle.xp_catalog.proofs.Ascii.{IsAscii-from_test}

small : (b : ℕ) → is_ascii b ≡ true → b < 128
small b h = grind (arith, nat_tests)

pub IsUtf8-from_test : (bs : List ℕ) → list_all is_ascii bs ≡ true → IsUtf8 bs
IsUtf8-from_test bs h = IsUtf8-from_ascii bs (IsAscii-from_test is_ascii small bs h)
