use Rattle.std.proofs.Common.{◌≡◌, drop}
use Rattle.xp_coerce.specs.Asked.{AreTruths}
use Rattle.xp_analyse.specs.Checks.{prepared, prepared_from}
use Rattle.xp_analyse.specs.inner.Ahead.{AreBelow}
use Rattle.xp_analyse.proofs.checks.prepare.Given as goal

-- the checks so far, and those of the other domains, are all
abbrev pub invariant-loop-number : goal.invariant-loop-number
invariant-loop-number l = record {
  truths : AreTruths l.checks;
  below : AreBelow l.number l.checks;
  says : prepared_from l.c l.checks l.number (drop l.number l.c.domains) ≡ prepared l.c;
}
