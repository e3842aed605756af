use Rattle.std.proofs.Common.{◌≡◌, ap, sym, ◌∙◌}
use Rattle.xp_like.specs.Patterns.{matches, parts, some_end}
use Rattle.xp_like.proofs.Greedy.{greedy, match_before_any, match_to_end, no_match, whole_end}
use Rattle.xp_like.proofs.matching.matches.Goals as goal

pub returns-in-Fails : goal.returns-in-Fails
returns-in-Fails g c = sym (no_match (parts (g.U.Units.units c.args.pattern)) (g.U.Units.units c.args.text) c.in-Fails.ensures.found)

pub returns-in-Ends : goal.returns-in-Ends
returns-in-Ends g c =
    let found = c.in-Ends.ensures.found in
    c.is_empty.ensures ∙ sym (match_to_end (parts (g.U.Units.units c.args.pattern)) (g.U.Units.units c.args.text) (g.U.Units.units c.in-Ends.rest) found.0 found.1 found.2)

pub returns-in-Any : goal.returns-in-Any
returns-in-Any g c =
    let found = c.in-Any.ensures.found in
    c.matches_end.ensures ∙ sym (match_before_any (parts (g.U.Units.units c.args.pattern)) (parts (g.U.Units.units c.in-Any.behind)) (g.U.Units.units c.args.text) (g.U.Units.units c.in-Any.rest) found.0 found.1 found.2)
