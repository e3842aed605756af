use Rattle.std.proofs.Common.{◌≡◌, drop, find}
use Rattle.std.specs.Option.{option_map_or}
use Rattle.xp_types.specs.Readers.{is_same, unknown}
use Rattle.xp_poly.specs.Bound.{range_over}
use Rattle.xp_poly.proofs.bound.range_over.Given as goal

-- the ranges from here on answer as all do
abbrev pub invariant-loop-row : goal.invariant-loop-row
invariant-loop-row l = option_map_or (λ range. range.ty) (find (λ range. is_same range.subtype l.ty) (drop l.row l.c.ranges)) unknown ≡ range_over l.c l.ty
