use Rattle.std.proofs.Common.{reverse}
use Rattle.xp_base.specs.declared.limits.TheConstants.{DEPTH_LIMIT}
use Rattle.xp_depth.proofs.Deep.{bracket_deepens}
use Rattle.xp_depth.proofs.depth.Groups.read.Goals as goal

pub returns-in-None : goal.returns-in-None
returns-in-None c = rw c.in-Bracket.is (bracket_deepens c.args.self.part (reverse c.args.self.outer.items) DEPTH_LIMIT c.in-None.ensures)
