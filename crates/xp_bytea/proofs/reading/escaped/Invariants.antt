use Rattle.std.proofs.Common.{◌≡◌, ◌++◌, length}
use Rattle.std.specs.Option.{option_map}
use Rattle.xp_bytea.specs.Texts.{escaped_from}
use Rattle.xp_bytea.proofs.reading.escaped.Given as goal

abbrev pub invariant-loop-rest : goal.invariant-loop-rest
invariant-loop-rest l = escaped_from 0 l.fn.text ≡ option_map (λ bytes. l.bytes ++ bytes) (escaped_from 0 l.rest)

abbrev pub decreases-loop-rest : goal.decreases-loop-rest
decreases-loop-rest l = length l.rest
