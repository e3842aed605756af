use Rattle.std.proofs.Common.{◌≡◌, ◌+◌, ◌-◌, ◌^◌, true}
use Rattle.std.specs.List.{All}
use Rattle.xp_rows.specs.Fits.{fits}
use Rattle.xp_rows.specs.Loading.{rows_from}
use Rattle.xp_rows.specs.inner.Reader.{IsOver, records_left}
use Rattle.xp_rows.proofs.Progress.{behind}
use Rattle.xp_rows.proofs.loading.read_rows.Given as goal

-- the rows of the rest, behind those so far, are the rows of all
abbrev pub invariant-loop-done : goal.invariant-loop-done
invariant-loop-done l = record {
  over : IsOver l.reader;
  says : behind l.rows (rows_from l.c l.header (l.done + 1) (records_left (2 ^ 64 - 1 - l.done) l.reader)) ≡ rows_from l.c l.header 1 (records_left (2 ^ 64 - 1) l.fn.reader);
  fit : All (λ row. fits l.c l.header row ≡ true) l.rows;
}
