use Rattle.std.proofs.Common.{◌<◌, ◌≤◌, ◌&&◌, arith, refl, sym, ap, ◌∙◌, length, List}
use Rattle.std.specs.Option.{option_map}
use Rattle.std.proofs.lemmas.Result.{err_from_is_err_and}
use Rattle.xp_base.proofs.Progress.{Progress-end, Progress-start, Progress-step}
use Rattle.xp_run.specs.Answer.{Answer}
use Rattle.xp_run.specs.inner.Analyses.{answer_of}
use Rattle.xp_run.specs.Report.{all_ok, blocks_from, report, steps_in, text_of}
use Rattle.xp_run.specs.Script.{answers}
use Rattle.xp_run.proofs.Steps.{all_ok-later, and_true, answers_end, number_after-le, ok_turn, some_less, steps_turn, text_turn}
use Rattle.xp_run.proofs.Written.{Stops-later}
use Rattle.xp_run.proofs.report.write_report.Goals as goal

pub loop-at-init : goal.loop-at-init
unfolding answers
loop-at-init g c = record {
  n = length c.args.inputs.now.script;
  enough = omega arith;
  wrote = Progress-start (g.K.Sink.contents c.args.out.now) (text_of (report c.args.inputs.now));
  fine = refl;
  steps = refl;
  within = omega arith;
  few = omega arith;
  same = refl;
}

pub returns-in_err-tally-clause-wrote : goal.returns-in_err-tally-clause-wrote
returns-in_err-tally-clause-wrote g c =
    let p = err_from_is_err_and c.from_residual-in_err-tally.result c.from_residual-in_err-tally.ensures.1 in
    let i = c.loop-at.invariant in
    let inputs = c.args.inputs.now in
    let some : 0 < i.n = omega (arith, i.enough, c.loop-at-test.true, ap length c.as_slice.ensures) in
    let m = some_less i.n some in
    let read = c.in_ok-analysis.field-0 in
    let e = text_turn inputs c.loop-at.tally.next i.n m.0 c.loop-at.at read.next (option_map (answer_of inputs.rows) read.analysis) m.1 (c.in_ok-analysis.ensures.answers m.0) in
    rw (p.1, p.2) (Stops-later _ _ _ _ _ _ _ _ _ _ _ i.wrote e i.same c.in_err-tally.ensures.wrote)

pub loop-at-preserved : goal.loop-at-preserved
loop-at-preserved g c =
    let i = c.loop-at.invariant in
    let inputs = c.args.inputs.now in
    let some : 0 < i.n = omega (arith, i.enough, c.loop-at-test.true, ap length c.as_slice.ensures) in
    let m = some_less i.n some in
    let read = c.in_ok-analysis.field-0 in
    let first = option_map (answer_of inputs.rows) read.analysis in
    let a = c.in_ok-analysis.ensures.answers m.0 in
    let e = text_turn inputs c.loop-at.tally.next i.n m.0 c.loop-at.at read.next first m.1 a in
    let f = ok_turn inputs c.loop-at.tally.next i.n m.0 c.loop-at.at read.next first m.1 a in
    let s = steps_turn inputs c.loop-at.tally.next i.n m.0 c.loop-at.at read.next read.analysis m.1 a in
    record {
      n = m.0;
      enough = omega (arith, i.enough, m.1, c.in_ok-analysis.ensures.behind);
      wrote = Progress-step _ _ _ _ _ _ _ i.wrote (rw c.in_ok-tally.ensures.next e) c.in_ok-tally.ensures.wrote.0;
      fine = rw c.in_ok-tally.ensures.next (all_ok-later _ _ _ _ _ _ c.in_ok-tally.ensures.fine f i.fine);
      steps = rw c.in_ok-tally.ensures.next (sym s ∙ i.steps);
      within = c.in_ok-analysis.ensures.within;
      few = omega (arith, c.in_ok-tally.ensures.next, number_after-le c.loop-at.tally.next first, i.few, c.in_ok-analysis.ensures.behind);
      same = c.in_ok-tally.ensures.wrote.1 ∙ i.same;
    }

pub returns-clause-wrote : goal.returns-clause-wrote
returns-clause-wrote g c =
    let i = c.loop-at.invariant in
    let inputs = c.args.inputs.now in
    let over : length inputs.script ≤ c.loop-at.at = omega (arith, c.loop-at-test.false, ap length c.as_slice.ensures) in
    let none = answers_end i.n inputs c.loop-at.at over in
    (Progress-end _ _ _ _ i.wrote (ap (λ (a : List Answer). text_of (blocks_from inputs.catalog c.loop-at.tally.next a)) none), i.same)

pub returns-clause-fine : goal.returns-clause-fine
returns-clause-fine g c =
    let i = c.loop-at.invariant in
    let inputs = c.args.inputs.now in
    let over : length inputs.script ≤ c.loop-at.at = omega (arith, c.loop-at-test.false, ap length c.as_slice.ensures) in
    let none = answers_end i.n inputs c.loop-at.at over in
    sym (and_true c.loop-at.tally.all_ok) ∙ sym (ap (λ (a : List Answer). c.loop-at.tally.all_ok && all_ok (blocks_from inputs.catalog c.loop-at.tally.next a)) none) ∙ i.fine

pub returns-clause-steps : goal.returns-clause-steps
returns-clause-steps g c =
    let i = c.loop-at.invariant in
    let inputs = c.args.inputs.now in
    let over : length inputs.script ≤ c.loop-at.at = omega (arith, c.loop-at-test.false, ap length c.as_slice.ensures) in
    let none = answers_end i.n inputs c.loop-at.at over in
    sym i.steps ∙ ap (λ (a : List Answer). steps_in (blocks_from inputs.catalog c.loop-at.tally.next a)) none
