use Rattle.std.proofs.Common.{◌≡◌, ◌*◌, arith, length}
use Rattle.std.proofs.lemmas.Grind.{common_steps}
use Rattle.hex.specs.Hex.{encode_lower, lower_digits}
use Rattle.hex.proofs.HexLemmas.{length-encode_with}
use Rattle.xp_bytea.proofs.encoding.encode.Goals as goal

pub returns-in_err-check_size : goal.returns-in_err-check_size
returns-in_err-check_size c =
    let size : length (encode_lower c.args.a.now) ≡ 2 * length c.args.a.now = length-encode_with lower_digits c.args.a.now in
    grind (arith, common_steps)

pub returns : goal.returns
returns c =
    let size : length (encode_lower c.args.a.now) ≡ 2 * length c.args.a.now = length-encode_with lower_digits c.args.a.now in
    grind (arith, common_steps)
