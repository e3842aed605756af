use Rattle.std.proofs.Common.{◌≡◌, ◌≤◌, [], drop, length}
use Rattle.csv.specs.Records.{fields_of}
use Rattle.xp_named.specs.Columns.{AreColumns}
use Rattle.xp_rows.specs.Headers.{columns_from}
use Rattle.xp_rows.proofs.header.read_header.Given as goal

-- the rest of the fields, behind the columns so far, name what all of them name
abbrev pub invariant-loop-place : goal.invariant-loop-place
invariant-loop-place l = record {
  count : length l.header ≡ l.place;
  few : l.place ≤ 200;
  columns : AreColumns l.c l.header;
  says : columns_from l.c l.header (drop l.place (fields_of l.fields)) ≡ columns_from l.c [] (fields_of l.fields);
}
