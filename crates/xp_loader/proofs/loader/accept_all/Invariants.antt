use Rattle.std.proofs.Common.{◌≡◌, ◌+◌, ◌≤◌, drop, map}
use Rattle.csv.specs.Records.{fields_of}
use Rattle.xp_base.specs.declared.limits.TheConstants.{RECORD_LIMIT}
use Rattle.xp_catalog.specs.Contents.{first_contents}
use Rattle.xp_loader.specs.Loading.{IsLoaded, load_from}
use Rattle.xp_loader.proofs.loader.accept_all.Given as goal

-- the rest of the records, behind the rows so far, say what all of them say
abbrev pub invariant-loop-k : goal.invariant-loop-k
invariant-loop-k l = record {
  loaded : IsLoaded l.k l.catalog;
  few : l.k ≤ RECORD_LIMIT;
  says : load_from l.catalog (l.k + 1) (map fields_of (drop l.k l.rows)) ≡ load_from first_contents 1 (map fields_of l.rows);
}
