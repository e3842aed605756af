use Rattle.std.proofs.Common.{string_bytes, arith}
use Rattle.std.proofs.lemmas.Grind.{common_steps}
use Rattle.std.proofs.lemmas.List.{take_rest, length-drop}
use Rattle.std.proofs.lemmas.Result.{err_from_is_err_and}
use Rattle.xp_lexer.proofs.Parts.{all_parts_goes, all_parts_fails}
use Rattle.xp_lexer.proofs.quoted.all_parts.Goals as goal

pub returns-in_err-more-clause-value : goal.returns-in_err-more-clause-value
returns-in_err-more-clause-value c =
    let p = err_from_is_err_and c.from_residual.result c.from_residual.ensures.1 in
    let q = c.in-Some.next.now in
    let failed = all_parts_fails (string_bytes c.loop-next.text) c.loop-next.z.now q _ c.in_err-more.field-0.0 c.in-Some.ensures.rest (take_rest q 1) c.in_err-more.ensures.value in
    rw (p.1, p.2) (rw c.loop-next.invariant.same at failed)

pub loop-next-preserved : goal.loop-next-preserved
loop-next-preserved c =
    let q = c.in-Some.next.now in
    let goes = all_parts_goes (string_bytes c.loop-next.text) c.loop-next.z.now q _ _ c.in-Some.ensures.rest (take_rest q 1) c.in_ok-more.ensures.value in
    let shorter = rw (take_rest q 1) at c.in_ok-more.ensures.within in
    record { same = grind (arith, common_steps); within = omega (arith, shorter, length-drop 1 q, c.in-Some.ensures.within.0, c.loop-next.invariant.within) }
