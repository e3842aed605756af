use Rattle.std.proofs.Common.{◌∷◌, [], ◌++◌, ◌∙◌, ap, replicate, append_assoc}
use Rattle.std.proofs.lemmas.List.{replicate-append-replicate}
use Rattle.xp_resolve.proofs.targets.with_copies.Goals as goal

pub loop-copy-preserved : goal.loop-copy-preserved
loop-copy-preserved c =
    let each = c.args.each in
    let copies = replicate c.loop-copy._copy each in
    c.in_ok-push.ensures.ok ∙ ap (λ list. list ++ each ∷ []) c.loop-copy.invariant ∙ append_assoc c.args.targets copies (each ∷ []) ∙ ap (λ more. c.args.targets ++ more) (replicate-append-replicate c.loop-copy._copy 1 each)
