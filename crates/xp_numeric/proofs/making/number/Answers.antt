use Rattle.std.proofs.Common.{◌≡◌, refl, sym}
use Rattle.xp_numeric.specs.Numbers.{signed, is_negative}
use Rattle.xp_numeric.proofs.Limited.{made_is, size_of, sign_then, sign_else}
use Rattle.xp_numeric.proofs.making.number.Goals as goal
use Rattle.xp_numeric.proofs.making.number.Goals.{then-neg, else-neg}

pub returns : goal.returns
returns c =
    let e : c.if-neg.result ≡ is_negative (signed c.args.neg c.args.size) = elim c.if-neg.branch [
      | then-neg w ↦ sign_then c.args.neg c.if-neg.result c.args.size w.if-neg.true w.result-is
      | else-neg w ↦ sign_else c.args.neg c.if-neg.result c.args.size w.if-neg.false w.result-is
    ] in
    made_is _ (signed c.args.neg c.args.size) c.args.scale e (sym (size_of c.args.neg c.args.size)) refl
