use Rattle.std.proofs.Common.{◌++◌, ◌∷◌, [], refl}
use Rattle.std.proofs.lemmas.Result.{err_from_is_err_and}
use Rattle.std.specs.List.{concat}
use Rattle.xp_run.specs.Answer.{evaluation}
use Rattle.xp_run.specs.Blocks.{ok_line, outcome_lines, types_line, uses_lines}
use Rattle.xp_run.specs.Uses.{type_names}
use Rattle.xp_run.proofs.Written.{stops_first, stops_then, writes_then}
use Rattle.xp_run.proofs.block.write_block.Goals as goal

pub returns-in_err-write_types-in-Described-clause-wrote : goal.returns-in_err-write_types-in-Described-clause-wrote
returns-in_err-write_types-in-Described-clause-wrote g c =
    let p = err_from_is_err_and c.from_residual-in_err-write_types-in-Described.result c.from_residual-in_err-write_types-in-Described.ensures.1 in
    let catalog = c.args.inputs.now.catalog in
    rw (c.in-Described.is, p.1, p.2) (stops_first _ _ (types_line c.args.k (type_names catalog c.in-Described.typed.types)) (concat (uses_lines catalog c.args.k c.in-Described.typed.uses ++ ok_line c.args.k 0 ∷ [])) _ _ _ _ refl (rw c.as_slice.ensures at c.in_err-write_types-in-Described.ensures.wrote))

pub returns-in_err-write_described-in-Described-clause-wrote : goal.returns-in_err-write_described-in-Described-clause-wrote
returns-in_err-write_described-in-Described-clause-wrote g c =
    let p = err_from_is_err_and c.from_residual-in_err-write_described-in-Described.result c.from_residual-in_err-write_described-in-Described.ensures.1 in
    let catalog = c.args.inputs.now.catalog in
    let w = rw c.as_slice.ensures at c.in_ok-write_types-in-Described.ensures.wrote in
    rw (c.in-Described.is, p.1, p.2) (stops_then _ _ _ (types_line c.args.k (type_names catalog c.in-Described.typed.types)) (concat (uses_lines catalog c.args.k c.in-Described.typed.uses ++ ok_line c.args.k 0 ∷ [])) _ _ _ _ _ w.0 w.1
    (rw c.as_slice-in-Described.ensures at c.in_err-write_described-in-Described.ensures.wrote) refl)

pub returns-in_err-write_types-in-Evaluated-clause-wrote : goal.returns-in_err-write_types-in-Evaluated-clause-wrote
returns-in_err-write_types-in-Evaluated-clause-wrote g c =
    let p = err_from_is_err_and c.from_residual-in_err-write_types-in-Evaluated.result c.from_residual-in_err-write_types-in-Evaluated.ensures.1 in
    let catalog = c.args.inputs.now.catalog in
    let it = evaluation c.args.inputs.now.rows c.in-Evaluated.typed.arms in
    rw (c.in-Evaluated.is, p.1, p.2) (stops_first _ _ (types_line c.args.k (type_names catalog c.in-Evaluated.typed.types)) (concat (outcome_lines c.args.k it.early it.rows)) _ _ _ _ refl (rw c.as_slice-types.ensures at c.in_err-write_types-in-Evaluated.ensures.wrote))

pub returns-in_ok-write_types-in-Evaluated-clause-wrote : goal.returns-in_ok-write_types-in-Evaluated-clause-wrote
returns-in_ok-write_types-in-Evaluated-clause-wrote g c =
    let catalog = c.args.inputs.now.catalog in
    let it = evaluation c.args.inputs.now.rows c.in-Evaluated.typed.arms in
    let w = rw c.as_slice-types.ensures at c.in_ok-write_types-in-Evaluated.ensures.wrote in
    rw c.in-Evaluated.is (writes_then _ _ _ (types_line c.args.k (type_names catalog c.in-Evaluated.typed.types)) (concat (outcome_lines c.args.k it.early it.rows)) _ _ _ _ c.write_outcome.result w.0 w.1
    (rw (c.as_slice-arms.ensures, c.as_slice-rows.ensures) at c.write_outcome.ensures.wrote) refl)
