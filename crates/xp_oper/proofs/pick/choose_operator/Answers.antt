use Rattle.std.proofs.Common.{◌≡◌, ◌∙◌, ap, subst, length, false, true, Err, Ok}
use Rattle.std.specs.List.{list_any}
use Rattle.xp_candidates.specs.Chosen.{Answers, chosen, is_of, made_of}
use Rattle.xp_candidates.proofs.Made.{Answers-err}
use Rattle.xp_candidates.proofs.Among.{row-among}
use Rattle.xp_oper.specs.Candidates.{candidates}
use Rattle.xp_oper.proofs.pick.choose_operator.Goals as goal

pub returns-in_err-picked-clause-value : goal.returns-in_err-picked-clause-value
returns-in_err-picked-clause-value c =
    let candidates = candidates c.args.c.now c.args.name.now (length c.args.inputs.now) in
    Answers-err (λ picked. picked.row) (chosen c.args.c.now false c.args.inputs.now candidates) c.from_residual-in_err-picked.result c.in_err-picked.field-0.0 c.from_residual-in_err-picked.ensures.1
    (subst (λ list. Answers (chosen c.args.c.now false c.args.inputs.now list) (Err c.in_err-picked.field-0.0)) (c.deref.ensures.value ∙ c.in_ok-candidates.ensures.value) c.in_err-picked.ensures.value)

pub returns-clause-within : goal.returns-clause-within
returns-clause-within c =
    row-among (length c.args.c.now.opers) c.in_ok-picked.picked c.in_ok-candidates.candidates.items c.in_ok-candidates.ensures.rows
    (subst (λ list. list_any (is_of c.in_ok-picked.picked) list ≡ true) c.deref.ensures.value c.in_ok-picked.ensures.among)

pub returns-clause-value : goal.returns-clause-value
returns-clause-value c =
    ap (made_of (λ picked. picked.row))
    (subst (λ list. chosen c.args.c.now false c.args.inputs.now list ≡ Ok c.in_ok-picked.picked) (c.deref.ensures.value ∙ c.in_ok-candidates.ensures.value) c.in_ok-picked.ensures.value)
