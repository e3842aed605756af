use Rattle.std.proofs.Common.{◌≡◌, drop}
use Rattle.xp_tree.specs.Checked.{check_of}
use Rattle.xp_tree.proofs.checks.Checks.check_of.Given as goal

-- the rest decides
abbrev pub invariant-loop-entry : goal.invariant-loop-entry
invariant-loop-entry l = check_of (drop l.entry-index l.entry-items) l.domain ≡ check_of l.entry-items l.domain
