use Rattle.std.proofs.Common.{◌∙◌}
use Rattle.std.proofs.lemmas.Result.{err_from_is_err_and}
use Rattle.xp_base.proofs.Progress.{Progress-step}
use Rattle.xp_resolve.specs.declared.typed.Use.{Use}
use Rattle.xp_run.specs.Blocks.{uses_line}
use Rattle.xp_run.specs.Uses.{use_words}
use Rattle.xp_run.proofs.Written.{Stops-later, lines_rest}
use Rattle.xp_run.proofs.block.write_uses.Goals as goal

pub returns-in_err-put_line-clause-wrote : goal.returns-in_err-put_line-clause-wrote
returns-in_err-put_line-clause-wrote g c =
    let p = err_from_is_err_and c.from_residual-in_err-put_line.result c.from_residual-in_err-put_line.ensures.1 in
    let i = c.loop-one.invariant in
    let e = lines_rest (λ (one : Use). uses_line c.args.k (use_words c.args.catalog.now one)) c.args.uses.now c.loop-one.one-index _ c.as_bytes.result.now c.loop-one-test.true (c.as_bytes.ensures.value ∙ c.in_ok-uses.ensures) in
    rw (p.1, p.2) (Stops-later _ _ _ _ _ _ _ _ _ _ _ i.wrote e i.same c.in_err-put_line.ensures.wrote)

pub loop-one-preserved : goal.loop-one-preserved
loop-one-preserved g c =
    let i = c.loop-one.invariant in
    let w = c.in_ok-put_line.ensures.wrote in
    let e = lines_rest (λ (one : Use). uses_line c.args.k (use_words c.args.catalog.now one)) c.args.uses.now c.loop-one.one-index _ c.as_bytes.result.now c.loop-one-test.true (c.as_bytes.ensures.value ∙ c.in_ok-uses.ensures) in
    record {
      wrote = Progress-step _ _ _ _ _ _ _ i.wrote e w.0;
      same = w.1 ∙ i.same;
    }
