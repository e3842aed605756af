use Rattle.std.proofs.Common.{◌≡◌, ◌++◌, ◌∷◌, [], ◌<◌, length, Option, List, ℕ, ap, sym, ◌∙◌, arith, rules, drop}
use Rattle.std.proofs.lemmas.Grind.{common_steps}
use Rattle.std.specs.Option.{option_map}
use Rattle.xp_bytea.specs.Texts.{escaped_from}
use Rattle.xp_bytea.proofs.Escapes.{escaped_step, one_more}
use Rattle.xp_bytea.proofs.reading.escaped.Goals as goal

pub loop-rest-preserved : goal.loop-rest-preserved
loop-rest-preserved c =
    let out = c.loop-rest.bytes in
    let rest = c.loop-rest.rest.now in
    let byte = c.in-Some.byte in
    let taken = c.in-Some.taken in
    let some : 0 < length rest = grind arith in
    let step = escaped_step rest byte taken some (sym c.in-Some.ensures.value) c.in-Some.ensures.some in
    let grown : c.append.new.self ≡ out ++ byte ∷ [] = grind (arith, common_steps) in
    c.loop-rest.invariant
    ∙ ap (option_map (λ bytes. out ++ bytes)) step
    ∙ one_more out byte (escaped_from 0 (drop taken rest))
    ∙ ap (λ done. option_map (λ bytes. done ++ bytes) (escaped_from 0 (drop taken rest))) (sym grown)
    ∙ ap (λ l. option_map (λ bytes. c.append.new.self ++ bytes) (escaped_from 0 l)) (sym c.behind-rest.ensures)
