use Rattle.std.proofs.Common.{◌≡◌, ◌-◌, ◌≤◌, false, length}
use Rattle.xp_base.specs.declared.limits.TheConstants.{TOKEN_LIMIT}
use Rattle.xp_token.specs.Lexemes.{all_placed}
use Rattle.xp_lexer.specs.inner.Cutting.{with_front, statement}
use Rattle.xp_lexer.proofs.lexing.statement.Given as goal

abbrev pub invariant-loop-tokens : goal.invariant-loop-tokens
invariant-loop-tokens l = record {
  same : with_front (all_placed l.tokens) (statement l.total (TOKEN_LIMIT - length l.tokens) l.alone l.z) ≡ statement l.total TOKEN_LIMIT false l.fn.z;
  count : length l.tokens ≤ TOKEN_LIMIT;
  text : length l.z ≤ l.total;
  within : length l.z ≤ length l.fn.z;
}

abbrev pub decreases-loop-tokens : goal.decreases-loop-tokens
decreases-loop-tokens l = length l.z
