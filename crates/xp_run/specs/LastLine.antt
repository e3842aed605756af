-- What the last line of a block says.
use Rattle.std.specs.Prelude.{◌≡◌, ℕ, nat_eq, List, [], ◌∷◌, codes}
use Rattle.std.specs.List.{starts_with}
use Rattle.xp_catalog.specs.Contents.{Contents}
use Rattle.xp_run.specs.Answer.{Answer}
use Rattle.xp_run.specs.Blocks.{block_of, numbered}

abbrev pub last_line : List (List ℕ) → List ℕ
last_line [] = []
last_line (line ∷ []) = line
last_line (line ∷ next ∷ lines) = last_line (next ∷ lines)

-- a block ends in `ok` exactly where its last line begins with its number and that word
abbrev pub EndsAsItSays : Contents → ℕ → Answer → Type 0
EndsAsItSays c k answer = starts_with nat_eq (last_line (block_of c k answer).lines) (numbered k (codes " ok " ∷ [])) ≡ (block_of c k answer).ends_in_ok
