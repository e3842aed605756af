use Rattle.std.proofs.Common.{◌≡◌, ap, sym, ◌∙◌}
use Rattle.xp_like.specs.Patterns.{matches, parts, some_end}
use Rattle.xp_like.proofs.Greedy.{greedy, match_before_any, match_to_end, no_match, whole_end}
use Rattle.xp_like.proofs.matching.step.Goals as goal

pub returns-then-is_empty-clause-leads : goal.returns-then-is_empty-clause-leads
returns-then-is_empty-clause-leads g c =
    let found = c.in-Ends.ensures.found in
    whole_end (matches (parts (g.U.Units.units c.args.pattern))) (g.U.Units.units c.args.text)
    (match_to_end (parts (g.U.Units.units c.args.pattern)) (g.U.Units.units c.args.text) (g.U.Units.units c.in-Ends.rest) found.0 found.1 found.2 ∙ sym c.is_empty.ensures ∙ c.if-is_empty.true)

pub later-requires : goal.later-requires
later-requires g c =
    let found = c.in-Ends.ensures.found in
    match_to_end (parts (g.U.Units.units c.args.pattern)) (g.U.Units.units c.args.text) (g.U.Units.units c.in-Ends.rest) found.0 found.1 found.2 ∙ sym c.is_empty.ensures ∙ c.if-is_empty.false

pub later-requires-in-Fails : goal.later-requires-in-Fails
later-requires-in-Fails g c = no_match (parts (g.U.Units.units c.args.pattern)) (g.U.Units.units c.args.text) c.in-Fails.ensures.found

pub returns-in-Any-clause-leads : goal.returns-in-Any-clause-leads
returns-in-Any-clause-leads g c =
    let found = c.in-Any.ensures.found in
    greedy (parts (g.U.Units.units c.args.pattern)) (parts (g.U.Units.units c.in-Any.behind)) (g.U.Units.units c.args.text) found.1 found.0 ∙ ap (some_end (matches (parts (g.U.Units.units c.in-Any.behind)))) (sym found.2)
