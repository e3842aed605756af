-- The report on a script over a catalogue and rows: a block for each statement.
use Rattle.std.specs.Prelude.{ℕ, ◌+◌, List, [], ◌∷◌, Bool, flat_map, sum_by}
use Rattle.std.specs.List.{concat, list_all}
use Rattle.xp_catalog.specs.Contents.{Contents}
use Rattle.xp_run.specs.Answer.{Answer}
use Rattle.xp_run.specs.Blocks.{Block, block_of}
use Rattle.xp_run.specs.Script.{answers}
use Rattle.xp_run.specs.declared.inputs.Inputs.{Inputs}

-- the blocks of statements that answer so, numbered from k
abbrev pub blocks_from : Contents → ℕ → List Answer → List Block
blocks_from c k [] = []
blocks_from c k (answer ∷ later) = block_of c k answer ∷ blocks_from c (k + 1) later

abbrev pub report : Inputs → List Block
report inputs = blocks_from inputs.catalog 1 (answers inputs)

-- what is written
abbrev pub text_of : List Block → List ℕ
text_of blocks = flat_map (λ block. concat block.lines) blocks

-- every block ends in `ok`
abbrev pub all_ok : List Block → Bool
all_ok blocks = list_all (λ block. block.ends_in_ok) blocks

-- the machine steps of all statements
abbrev pub steps_in : List Block → ℕ
steps_in blocks = sum_by (λ block. block.steps) blocks
