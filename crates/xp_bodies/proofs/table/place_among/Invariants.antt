use Rattle.std.proofs.Common.{◌≡◌, ◌+◌, drop, length}
use Rattle.std.specs.List.{position_from}
use Rattle.std.specs.Str.{bytes_eq}
use Rattle.xp_bodies.specs.Row.{rows_of}
use Rattle.xp_bodies.proofs.table.place_among.Given as goal

-- the name stands in no family before, and `before` rows do
abbrev pub invariant-loop-family : goal.invariant-loop-family
invariant-loop-family l = record {
  same : position_from (λ row. bytes_eq row.name l.name) 0 (rows_of l.families) ≡ position_from (λ row. bytes_eq row.name l.name) l.before (rows_of (drop l.family-index l.families));
  count : l.before + length (rows_of (drop l.family-index l.families)) ≡ length (rows_of l.families);
}
