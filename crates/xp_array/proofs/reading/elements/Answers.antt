use Rattle.std.proofs.Common.{◌≡◌, ◌+◌, ◌-◌, sym, ap, ◌∙◌, Ok, Err, option_copied}
use Rattle.xp_array.specs.Read.{element, elements}
use Rattle.xp_array.proofs.Lists.{bad_behind, bad_element, behind_texts, handed_on, last_element, next_element, one_fewer, unless_memory}
use Rattle.xp_array.proofs.reading.elements.Goals as goal

pub returns-in-Err : goal.returns-in-Err
returns-in-Err c =
    let left = c.args.limit - (c.loop.counter + 1) in
    let more = ap (λ n. behind_texts c.loop.texts (elements n c.loop.rest.now)) (one_fewer c.args.limit c.loop.counter c.loop-test.true) in
    unless_memory c.in-Err.fault (elements c.args.limit c.args.text.now ≡ Err c.in-Err.fault) (λ m. c.loop.invariant ∙ more ∙ bad_element left c.loop.texts c.loop.rest.now c.in-Err.fault (ap element (sym c.past_space.ensures.value) ∙ c.in-Err.ensures.err m))

pub returns-in_err-more : goal.returns-in_err-more
returns-in_err-more c =
    let left = c.args.limit - (c.loop.counter + 1) in
    let more = ap (λ n. behind_texts c.loop.texts (elements n c.loop.rest.now)) (one_fewer c.args.limit c.loop.counter c.loop-test.true) in
    let found = c.in-Ok.found in
    let fault = c.in_err-more.field-0.0 in
    handed_on (elements c.args.limit c.args.text.now) c.from_residual-in_err-more.result fault c.from_residual-in_err-more.ensures.1 (c.loop.invariant ∙ more ∙ bad_behind left c.loop.texts c.loop.rest.now found.0 found.1.now fault (ap element (sym c.past_space.ensures.value) ∙ c.in-Ok.ensures.ok) c.in_err-more.ensures.err)

pub returns-in-None : goal.returns-in-None
returns-in-None c =
    let left = c.args.limit - (c.loop.counter + 1) in
    let more = ap (λ n. behind_texts c.loop.texts (elements n c.loop.rest.now)) (one_fewer c.args.limit c.loop.counter c.loop-test.true) in
    let found = c.in-Ok.found in
    c.loop.invariant ∙ more ∙ last_element left c.loop.texts c.loop.rest.now found.0 found.1.now (ap element (sym c.past_space.ensures.value) ∙ c.in-Ok.ensures.ok) (c.in_ok-more.ensures.ok ∙ ap (λ o. Ok (option_copied o)) c.in-None.is) ∙ ap Ok (sym c.in_ok-push.ensures.ok)

pub loop-preserved : goal.loop-preserved
loop-preserved c =
    let left = c.args.limit - (c.loop.counter + 1) in
    let more = ap (λ n. behind_texts c.loop.texts (elements n c.loop.rest.now)) (one_fewer c.args.limit c.loop.counter c.loop-test.true) in
    let found = c.in-Ok.found in
    let next = c.in-Some.more.now in
    c.loop.invariant ∙ more ∙ next_element left c.loop.texts c.loop.rest.now found.0 found.1.now next (ap element (sym c.past_space.ensures.value) ∙ c.in-Ok.ensures.ok) (c.in_ok-more.ensures.ok ∙ ap (λ o. Ok (option_copied o)) c.in-Some.is) ∙ ap (λ l. behind_texts l (elements left next)) (sym c.in_ok-push.ensures.ok)
