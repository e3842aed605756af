use Rattle.std.proofs.Common.{◌^◌, ◌≤◌, sym, subst, arith}
use Rattle.xp_numeric.proofs.Limited.{made_long, made_fine, size_of}
use Rattle.xp_numeric.proofs.making.made.Goals as goal
use Rattle.xp_numeric.proofs.making.made.Goals.{then-size-ge-FULL-via-then-size-ge-FULL, then-size-ge-FULL-via-else-size-ge-FULL+then-scale}

pub returns-then-size-ge-FULL : goal.returns-then-size-ge-FULL
returns-then-size-ge-FULL c =
    elim c.then-size-ge-FULL.branch [
      | then-size-ge-FULL-via-then-size-ge-FULL w ↦ made_long _ _ (subst (λ k. 10 ^ 38 ≤ k) (sym (size_of c.args.neg c.args.size)) (omega arith))
      | then-size-ge-FULL-via-else-size-ge-FULL+then-scale w ↦ made_fine _ _ (omega arith)
    ]
