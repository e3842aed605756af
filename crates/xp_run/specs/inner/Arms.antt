-- What is written of output rows, without the last line of their block.
use Rattle.std.specs.Prelude.{ℕ, ◌+◌, List, [], ◌∷◌, ◌++◌, Option, Some, None, Ok, Err}
use Rattle.xp_base.specs.declared.codes.Code.TheVariants as code
use Rattle.xp_run.specs.Answer.{OutputRow}
use Rattle.xp_run.specs.Blocks.{error_line, ok_line}
use Rattle.xp_run.specs.Fields.{row_line}

-- the line of the row behind so many
abbrev pub row_text : ℕ → ℕ → OutputRow → List ℕ
row_text k before (Ok values) = row_line values
row_text k before (Err error) = error_line k (code.Raised error) (before + 1)

-- those of the rows, up to and with the first that raises
abbrev pub rows_text : ℕ → ℕ → List OutputRow → List ℕ
rows_text k before [] = []
rows_text k before (Ok values ∷ rows) = row_line values ++ rows_text k (before + 1) rows
rows_text k before (Err error ∷ rows) = error_line k (code.Raised error) (before + 1)

-- how many rows there are behind them, where none raises
abbrev pub count_after : ℕ → List OutputRow → Option ℕ
count_after before [] = Some before
count_after before (Ok values ∷ rows) = count_after (before + 1) rows
count_after before (Err error ∷ rows) = None

-- the last line, where no row raises
abbrev pub ok_after : ℕ → Option ℕ → List ℕ
ok_after k None = []
ok_after k (Some rows) = ok_line k rows
