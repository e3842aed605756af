use Rattle.std.proofs.Common.{◌≡◌, ◌++◌, [], drop, map}
use Rattle.csv.specs.Records.{fields_of, partial_of}
use Rattle.xp_run.specs.Fields.{field_of}
use Rattle.xp_run.proofs.fields.set_fields.Given as goal

-- the fields so far and those of the others are all of them
abbrev pub invariant-loop-value : goal.invariant-loop-value
invariant-loop-value l = record {
  fields : fields_of l.row ++ map field_of (drop l.value-index l.values) ≡ map field_of l.values;
  partial : partial_of l.row ≡ [];
}
