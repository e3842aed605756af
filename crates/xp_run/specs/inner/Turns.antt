-- What one statement of a script adds to its report, if there is one.
use Rattle.std.specs.Prelude.{ℕ, ◌+◌, List, [], Bool, true, Option, Some, None}
use Rattle.std.specs.List.{concat}
use Rattle.xp_catalog.specs.Contents.{Contents}
use Rattle.xp_run.specs.Answer.{Answer, is_fine}
use Rattle.xp_run.specs.Blocks.{lines_of}

abbrev pub text_after : Contents → ℕ → Option Answer → List ℕ
text_after c k None = []
text_after c k (Some answer) = concat (lines_of c k answer)

abbrev pub number_after : ℕ → Option Answer → ℕ
number_after k None = k
number_after k (Some answer) = k + 1

abbrev pub is_fine_turn : Option Answer → Bool
is_fine_turn None = true
is_fine_turn (Some answer) = is_fine answer
