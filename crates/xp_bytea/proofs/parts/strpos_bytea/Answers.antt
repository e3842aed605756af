use Rattle.std.proofs.Common.{ap, arith, sym, ◌∙◌}
use Rattle.xp_characters.specs.Search.{begins}
use Rattle.xp_bytea.proofs.Strpos.{strpos_found, strpos_nowhere}
use Rattle.xp_bytea.proofs.parts.strpos_bytea.Goals as goal

pub returns-then-begins_with-clause-value : goal.returns-then-begins_with-clause-value
returns-then-begins_with-clause-value c =
    let part = c.args.part.now in
    strpos_found c.args.a.now part c.loop-i.i (omega arith) (ap (λ l. begins l part) (sym c.behind.ensures) ∙ sym c.begins_with.ensures ∙ c.if-begins_with.true) c.loop-i.invariant

pub returns-clause-value : goal.returns-clause-value
returns-clause-value c = strpos_nowhere c.args.a.now c.args.part.now (λ k h. c.loop-i.invariant k (omega arith))
