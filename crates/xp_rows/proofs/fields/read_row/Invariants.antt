use Rattle.std.proofs.Common.{◌≡◌, drop, take, true}
use Rattle.csv.specs.Records.{fields_of}
use Rattle.xp_rows.specs.Fields.{values_from}
use Rattle.xp_rows.specs.Fits.{fits}
use Rattle.xp_rows.proofs.Progress.{behind}
use Rattle.xp_rows.proofs.fields.read_row.Given as goal

-- the values of the rest of the columns, behind those so far, are the values of all
abbrev pub invariant-loop-place : goal.invariant-loop-place
invariant-loop-place l = record {
  says : behind l.values.items (values_from l.c l.row (fields_of l.fields) l.place (drop l.place l.header)) ≡ values_from l.c l.row (fields_of l.fields) 0 l.header;
  fits : fits l.c (take l.place l.header) l.values.items ≡ true;
}
