use Rattle.std.proofs.Common.{◌≡◌, ◌+◌, length, sym, ◌∙◌, ap, arith, length-append}
use Rattle.std.proofs.lemmas.Result.{err_from_is_err_and}
use Rattle.xp_token.specs.Lexemes.{seen}
use Rattle.xp_lexer.proofs.Whole.{all_placed_push, turn_fails, turn_refuses, turn_ends, turn_goes, turn_skips, rest_within, gap_shorter, token_shorter, admitted_room}
use Rattle.xp_lexer.proofs.lexing.statement.Goals as goal

pub returns-in_err-found-clause-value : goal.returns-in_err-found-clause-value
returns-in_err-found-clause-value c =
    let p = err_from_is_err_and c.from_residual.result c.from_residual.ensures.1 in
    let l = c.loop-tokens in
    rw (p.1, p.2) (turn_fails c.args.total _ l.alone l.z.now _ _ c.in_err-found.field-0.0 l.invariant.same c.in_err-found.ensures)

pub token_at-requires-clause-rest : goal.token_at-requires-clause-rest
token_at-requires-clause-rest c = omega (arith, rest_within _ _ _ _ c.in_ok-found.ensures, c.loop-tokens.invariant.text)

pub token_at-requires-in-Some-clause-rest : goal.token_at-requires-in-Some-clause-rest
token_at-requires-in-Some-clause-rest c = omega (arith, rest_within _ _ _ _ c.in_ok-found.ensures, c.loop-tokens.invariant.text)

pub returns-then-is_end-clause-value : goal.returns-then-is_end-clause-value
returns-then-is_end-clause-value c =
    let l = c.loop-tokens in
    let e = rw c.in-Some.is at c.in_ok-found.ensures in
    turn_ends c.args.total _ l.alone l.z.now c.in_ok-found.rest.now (seen c.in-Some.kind) _ _ _ l.invariant.same e (sym c.is_end.ensures ∙ c.if-is_end.true) (all_placed_push _ _ _ _ c.in_ok-push.ensures.ok c.token_at.ensures)

pub returns-then-is_end-clause-within : goal.returns-then-is_end-clause-within
returns-then-is_end-clause-within c = omega (arith, rest_within _ _ _ _ c.in_ok-found.ensures, c.loop-tokens.invariant.within)

pub returns-in_err-admit-clause-value : goal.returns-in_err-admit-clause-value
returns-in_err-admit-clause-value c =
    let p = err_from_is_err_and c.from_residual-in_err-admit.result c.from_residual-in_err-admit.ensures.1 in
    let l = c.loop-tokens in
    let e = rw c.in-Some.is at c.in_ok-found.ensures in
    let h = rw c.len.ensures at c.in_err-admit.ensures in
    rw (p.1, p.2) (turn_refuses c.args.total _ l.alone l.z.now c.in_ok-found.rest.now (seen c.in-Some.kind) _ _ c.in_err-admit.field-0.0 l.invariant.same e (sym c.is_end.ensures ∙ c.if-is_end.false) h)

pub loop-tokens-smaller-in_ok-push-2 : goal.loop-tokens-smaller-in_ok-push-2
loop-tokens-smaller-in_ok-push-2 c =
    let e = rw c.in-Some.is at c.in_ok-found.ensures in
    token_shorter _ _ _ _ e (sym c.is_end.ensures ∙ c.if-is_end.false)

pub loop-tokens-smaller : goal.loop-tokens-smaller
loop-tokens-smaller c =
    let e = rw c.in_default.is at c.in_ok-found.ensures in
    gap_shorter _ _ _ e

pub loop-tokens-preserved-in_ok-push-2 : goal.loop-tokens-preserved-in_ok-push-2
loop-tokens-preserved-in_ok-push-2 c =
    let l = c.loop-tokens in
    let e = rw c.in-Some.is at c.in_ok-found.ensures in
    let h = rw c.len.ensures at c.in_ok-admit.ensures in
    let pushed : length c.push-in-Some.new.self ≡ length l.tokens + 1 = ap length c.in_ok-push-2.ensures.ok ∙ length-append l.tokens _ in
    let room = admitted_room _ _ _ _ h in
    let within = rest_within _ _ _ _ c.in_ok-found.ensures in
    record {
      same = turn_goes c.args.total _ _ l.alone _ l.z.now c.in_ok-found.rest.now (seen c.in-Some.kind) _ _ _ l.invariant.same e (sym c.is_end.ensures ∙ c.if-is_end.false) h (omega arith) c.is_operator-alone.ensures (all_placed_push _ _ _ _ c.in_ok-push-2.ensures.ok c.token_at-in-Some.ensures);
      count = omega (arith, room, pushed, l.invariant.count);
      text = omega (arith, within, l.invariant.text);
      within = omega (arith, within, l.invariant.within);
    }

pub loop-tokens-preserved : goal.loop-tokens-preserved
loop-tokens-preserved c =
    let l = c.loop-tokens in
    let e = rw c.in_default.is at c.in_ok-found.ensures in
    let within = rest_within _ _ _ _ c.in_ok-found.ensures in
    record {
      same = turn_skips c.args.total _ l.alone l.z.now c.in_ok-found.rest.now _ _ l.invariant.same e;
      count = l.invariant.count;
      text = omega (arith, within, l.invariant.text);
      within = omega (arith, within, l.invariant.within);
    }
