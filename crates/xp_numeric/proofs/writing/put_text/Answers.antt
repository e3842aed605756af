use Rattle.std.proofs.Common.{◌+◌, ◌≤◌, subst, sym, ◌<◌, ◌-◌, ◌^◌, arith}
use Rattle.xp_numeric.proofs.Digits.{whole_below}
use Rattle.xp_numeric.proofs.writing.put_text.Goals as goal
use Rattle.xp_numeric.proofs.writing.put_text.Goals.{then-count-gt0, else-count-gt0}

pub put_whole-start-requires-clause-size : goal.put_whole-start-requires-clause-size
put_whole-start-requires-clause-size c =
    let x = c.args.x in
    let e = c.if-count-gt0.end in
    let h : 39 ≤ e + x.scale = elim c.if-count-gt0.branch [ then-count-gt0 w ↦ omega arith | else-count-gt0 w ↦ omega arith ] in
    subst (λ n. n < 10 ^ (e - 1)) (sym c.put_decimals-whole.ensures.value) (whole_below x.coef x.scale e x.digits x.decimals h)
