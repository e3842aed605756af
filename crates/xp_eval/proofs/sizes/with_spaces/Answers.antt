use Rattle.std.proofs.Common.{◌-◌, ◌+◌, ◌++◌, [], ◌∷◌, replicate, refl, string_bytes, ap, ◌∙◌, arith}
use Rattle.std.proofs.lemmas.Slice.{pushed}
use Rattle.xp_eval.proofs.Lengths.{one_more}
use Rattle.xp_eval.proofs.sizes.with_spaces.Goals as goal

pub loop-space-preserved : goal.loop-space-preserved
loop-space-preserved c =
    let one = pushed (32 ∷ []) refl c.in_ok-push_str.was c.push_str.ensures.bytes in
    ap (λ made. made ++ replicate (c.args.spaces - (c.loop-space._space + 1)) 32) one
    ∙ one_more (string_bytes c.loop-space.padded) _ c.args.spaces c.loop-space._space (omega arith) c.loop-space.invariant
