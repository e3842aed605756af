use Rattle.std.proofs.Common.{◌≡◌, ◌+◌, length}
use Rattle.std.specs.Io.KnownBytes.{Consumes}
use Rattle.xp_files.proofs.reading.read_within.Given as goal

-- what was read was taken from the reader, and it and what may still be read are the limit
abbrev pub invariant-loop : goal.invariant-loop
invariant-loop g l = record {
  taken : Consumes (g.R.Read.remaining l.initial.reader) (g.R.Read.remaining l.reader) l.text;
  budget : length l.text + l.left ≡ l.limit;
}
