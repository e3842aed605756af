use Rattle.std.proofs.Common.{◌<◌, ◌++◌, ◌∙◌, ap, length}
use Rattle.xp_candidates.specs.Accepted.{IsCandidate}
use Rattle.xp_candidates.proofs.Listed.{All-pushed, forms-more}
use Rattle.xp_func.specs.Candidates.{own_form, unexpanded}
use Rattle.xp_func.proofs.candidates.unexpanded.Goals as goal

pub loop-number-preserved : goal.loop-number-preserved
loop-number-preserved c =
    let cat = c.args.c.now in
    let before = c.loop-number.candidates.items in
    let after = c.push_some.new.candidates.items in
    let form = c.in_ok-form.form in
    let pushed = c.in_ok-push_some.ensures in
    record {
      list = forms-more (own_form c.args.name.now c.args.count c.args.variadic) cat.funcs c.loop-number.number c.func_row-func.result.now before after (unexpanded cat c.args.name.now c.args.count c.args.variadic) c.func_row-func.ensures.row (pushed ∙ ap (λ more. before ++ more) c.in_ok-form.ensures.value) c.loop-number.invariant.list;
      known = All-pushed (IsCandidate cat c.args.count) before after form pushed c.loop-number.invariant.known c.in_ok-form.ensures.known;
      rows = All-pushed (λ candidate. candidate.row.0 < length cat.funcs) before after form pushed c.loop-number.invariant.rows c.in_ok-form.ensures.row;
    }
