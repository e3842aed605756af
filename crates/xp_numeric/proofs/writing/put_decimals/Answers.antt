use Rattle.std.proofs.Common.{◌≡◌, ◌+◌, ◌-◌, ◌%◌, drop, set, ap, ◌∙◌, arith}
use Rattle.std.proofs.Math.ListN.{length-set}
use Rattle.xp_base.proofs.Lists.{drop_none}
use Rattle.xp_numeric.proofs.Digits.{put_before, one_more, last_more}
use Rattle.xp_numeric.proofs.writing.put_decimals.Goals as goal

pub loop-i-init : goal.loop-i-init
loop-i-init c = record {
  long = c.told-buffer;
  value = omega arith;
  written = drop_none c.args.buffer.now 41 (omega arith);
}

pub loop-i-preserved : goal.loop-i-preserved
loop-i-preserved c =
    let l = c.loop-i in
    let e : 41 - (l.i + 1) ≡ 41 - l.i - 1 = omega arith in
    let f : 40 - l.i ≡ 41 - l.i - 1 = omega arith in
    record {
      long = simp length-set l.invariant.long;
      value = one_more c.args.size l.i l.rest l.invariant.value;
      written = ap (λ k. drop k (set l.buffer (40 - l.i) (48 + l.rest % 10))) e ∙ ap (λ k. drop (41 - l.i - 1) (set l.buffer k (48 + l.rest % 10))) f
          ∙ put_before l.buffer (41 - l.i) (48 + l.rest % 10) _ (omega arith) (omega arith) l.invariant.written
          ∙ last_more c.args.size l.i l.rest l.invariant.value;
    }
