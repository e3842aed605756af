use Rattle.std.proofs.Common.{◌++◌, sym, ap, ◌∙◌, false}
use Rattle.xp_array.specs.Read.{unquoted}
use Rattle.xp_array.proofs.Elements.{behind, continued, stopped}
use Rattle.xp_array.proofs.reading.unquoted.Goals as goal

pub returns-then-is_end : goal.returns-then-is_end
returns-then-is_end c =
    let word = c.past_space-word.result.now in
    c.loop-word.invariant ∙ stopped c.loop-word.bytes c.loop-word.rest.now word c.past_space-word.ensures.value (sym c.is_end.ensures ∙ c.if-is_end.true)

pub loop-word-preserved : goal.loop-word-preserved
loop-word-preserved c =
    let bytes = c.loop-word.bytes in
    let rest = c.loop-word.rest.now in
    let word = c.past_space-word.result.now in
    let byte = c.character.result.0.now in
    let next = c.character.result.1.now in
    c.loop-word.invariant
    ∙ continued bytes rest word byte next c.past_space-word.ensures.value (sym c.is_end.ensures ∙ c.if-is_end.false) c.character.ensures.value
    ∙ ap (λ l. behind (l ++ byte) (unquoted false next)) (sym c.in_ok-append.ensures.ok)
    ∙ ap (λ l. behind l (unquoted false next)) (sym c.in_ok-append-2.ensures.ok)
