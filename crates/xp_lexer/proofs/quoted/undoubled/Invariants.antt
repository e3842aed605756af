use Rattle.std.proofs.Common.{◌≡◌, ◌++◌, false, drop}
use Rattle.xp_lexer.specs.inner.Cutting.{undoubled}
use Rattle.xp_lexer.proofs.quoted.undoubled.Given as goal

abbrev pub invariant-loop-b : goal.invariant-loop-b
invariant-loop-b l = l.bytes.items ++ undoubled l.quote l.is_second (drop l.b-index l.raw) ≡ undoubled l.quote false l.raw
