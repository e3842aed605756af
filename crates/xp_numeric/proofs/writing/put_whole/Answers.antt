use Rattle.std.proofs.Common.{◌≡◌, suc, ◌+◌, ◌-◌, ◌/◌, ◌%◌, drop, refl, sym, ap, ◌∙◌, arith}
use Rattle.xp_numeric.proofs.Digits.{onto, onto_last, onto_more, onto_decimal, put_before, more_room}
use Rattle.std.proofs.Math.ListN.{length-set}
use Rattle.xp_numeric.proofs.writing.put_whole.Goals as goal

pub returns-then-rest-eq0-clause-written : goal.returns-then-rest-eq0-clause-written
returns-then-rest-eq0-clause-written c =
    let l = c.loop-rest in
    let e : 64 + l.start - c.args.end ≡ suc (64 + (l.start - 1) - c.args.end) = omega arith in
    put_before l.buffer l.start (48 + l.rest % 10) (drop l.start l.buffer) (omega arith) (omega arith) refl
    ∙ sym (onto_last (64 + (l.start - 1) - c.args.end) l.rest (drop l.start l.buffer) c.if-rest-eq0.true)
    ∙ ap (λ k. onto k l.rest (drop l.start l.buffer)) (sym e)
    ∙ l.invariant.written
    ∙ onto_decimal c.args.size (drop c.args.end c.args.buffer.now)

pub loop-rest-preserved : goal.loop-rest-preserved
loop-rest-preserved c =
    let l = c.loop-rest in
    let e : 64 + l.start - c.args.end ≡ suc (64 + (l.start - 1) - c.args.end) = omega arith in
    let m = more_room l.rest l.start l.invariant.low l.invariant.rest c.if-rest-eq0.false in
    record {
      long = simp length-set l.invariant.long;
      low = m.0;
      high = omega arith;
      rest = m.1;
      written =
          ap (onto (64 + (l.start - 1) - c.args.end) (l.rest / 10)) (put_before l.buffer l.start (48 + l.rest % 10) (drop l.start l.buffer) (omega arith) (omega arith) refl)
          ∙ sym (onto_more (64 + (l.start - 1) - c.args.end) l.rest (drop l.start l.buffer) c.if-rest-eq0.false)
          ∙ ap (λ k. onto k l.rest (drop l.start l.buffer)) (sym e)
          ∙ l.invariant.written;
    }
