use Rattle.std.proofs.Common.{◌<◌, ◌++◌, ◌∙◌, ap, length}
use Rattle.xp_candidates.specs.Accepted.{IsCandidate}
use Rattle.xp_candidates.proofs.Listed.{All-pushed, forms-more}
use Rattle.xp_oper.specs.Candidates.{candidates, form_of}
use Rattle.xp_oper.proofs.candidates.candidates.Goals as goal

pub loop-number-preserved : goal.loop-number-preserved
loop-number-preserved c =
    let cat = c.args.c.now in
    let before = c.loop-number.candidates.items in
    let after = c.push_some.new.candidates.items in
    let form = c.in_ok-form.form in
    let pushed = c.in_ok-push_some.ensures in
    record {
      list = forms-more (form_of cat c.args.name.now c.args.count) cat.opers c.loop-number.number c.oper_row-oper.result.now before after (candidates cat c.args.name.now c.args.count) c.oper_row-oper.ensures.row (pushed ∙ ap (λ more. before ++ more) c.in_ok-form.ensures.value) c.loop-number.invariant.list;
      known = All-pushed (IsCandidate cat c.args.count) before after form pushed c.loop-number.invariant.known c.in_ok-form.ensures.known;
      rows = All-pushed (λ candidate. candidate.row.0 < length cat.opers) before after form pushed c.loop-number.invariant.rows c.in_ok-form.ensures.row;
    }
