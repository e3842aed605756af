use Rattle.std.proofs.Common.{sym, ◌∙◌}
use Rattle.xp_io.proofs.Trimming.{cut, kept}
use Rattle.xp_io.proofs.space.trimmed_end.Goals as goal

pub loop-text-preserved : goal.loop-text-preserved
loop-text-preserved c = cut c.loop-text.text.now _ c.in-len1-up.len_at_least (sym c.is_space.ensures ∙ c.if-not-is_space.false) ∙ c.loop-text.invariant

pub returns-then-not-is_space : goal.returns-then-not-is_space
returns-then-not-is_space c = kept c.loop-text.text.now _ c.in-len1-up.len_at_least (sym c.is_space.ensures ∙ c.if-not-is_space.true) ∙ c.loop-text.invariant
