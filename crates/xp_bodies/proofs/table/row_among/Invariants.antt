use Rattle.std.proofs.Common.{◌≡◌, drop}
use Rattle.std.specs.List.{slice_get}
use Rattle.xp_bodies.specs.Row.{rows_of}
use Rattle.xp_bodies.proofs.table.row_among.Given as goal

-- the row is the one at `left` behind the families before
abbrev pub invariant-loop-family : goal.invariant-loop-family
invariant-loop-family l = slice_get (rows_of l.families) l.place ≡ slice_get (rows_of (drop l.family-index l.families)) l.left
