use Rattle.std.proofs.Common.{◌≡◌, ◌∙◌}
use Rattle.xp_resolve.specs.Calls.{types_of}
use Rattle.xp_columns.specs.Columns.{inputs_of}
use Rattle.xp_columns.proofs.columns.column_made.Goals as goal

pub returns-clause-value : goal.returns-clause-value
returns-clause-value c =
    let inputs : c.as_slice.result.now ≡ inputs_of c.args.inputs (types_of c.args.parts) = c.as_slice.ensures ∙ (rw c.as_slice-slice.ensures at c.in_ok-types.ensures.value) in
    rw inputs at c.column_from.ensures.value
