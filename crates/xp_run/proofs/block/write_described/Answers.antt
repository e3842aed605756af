use Rattle.std.proofs.lemmas.Result.{err_from_is_err_and}
use Rattle.std.specs.List.{concat}
use Rattle.xp_run.specs.Blocks.{ok_line, uses_lines}
use Rattle.xp_run.proofs.Written.{last_line, stops_first, writes_then}
use Rattle.xp_run.proofs.block.write_described.Goals as goal

pub returns-in_err-write_uses-clause-wrote : goal.returns-in_err-write_uses-clause-wrote
returns-in_err-write_uses-clause-wrote g c =
    let p = err_from_is_err_and c.from_residual.result c.from_residual.ensures.1 in
    let lines = uses_lines c.args.catalog.now c.args.k c.args.uses.now in
    rw (p.1, p.2) (stops_first _ _ (concat lines) (ok_line c.args.k 0) _ _ _ _ (last_line lines (ok_line c.args.k 0)) c.in_err-write_uses.ensures.wrote)

pub returns-clause-wrote : goal.returns-clause-wrote
returns-clause-wrote g c =
    let lines = uses_lines c.args.catalog.now c.args.k c.args.uses.now in
    let w = c.in_ok-write_uses.ensures.wrote in
    writes_then _ _ _ (concat lines) (ok_line c.args.k 0) _ _ _ _ c.write_ok.result w.0 w.1 c.write_ok.ensures.wrote (last_line lines (ok_line c.args.k 0))
