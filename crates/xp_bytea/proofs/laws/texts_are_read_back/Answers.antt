use Rattle.std.proofs.Common.{ap}
use Rattle.hex.proofs.HexLemmas.{decode_of-encode_lower}
use Rattle.xp_base.specs.declared.codes.EvalError.TheVariants as error
use Rattle.xp_bytea.specs.Texts.{decoded}
use Rattle.xp_bytea.proofs.laws.texts_are_read_back.Goals as goal

pub returns : goal.returns
returns c = λ bytes h. ap (decoded error.BadText) (decode_of-encode_lower bytes h)
