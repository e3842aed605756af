-- The rows of the records so far, with one record more.
use Rattle.std.proofs.Common.{◌≡◌, ℕ, ◌+◌, arith}
use Rattle.xp_catalog.specs.declared.record.Record.{Record}
use Rattle.xp_catalog.specs.Contents.{Contents, added, first_contents}
use Rattle.xp_catalog.specs.WellFormed.{more, nothing}
use Rattle.xp_loader.specs.Loading.{IsLoaded}
use Rattle.xp_loader.proofs.Growing.{IsFitted-added}
use Rattle.xp_loader.proofs.Said.{IsKept}

pub IsLoaded-first : IsLoaded 0 first_contents
IsLoaded-first = record { built = nothing; fitted = λ k default within. absurd (omega arith) }

pub IsLoaded-added : (n m : ℕ) (c after : Contents) (r : Record) → IsLoaded n c → IsKept c r → m ≡ n + 1 → after ≡ added c r → IsLoaded m after
IsLoaded-added n m c after r loaded kept e is = record {
  built = rw (e, is) (more n c r loaded.built kept.0);
  fitted = rw is (IsFitted-added c r loaded.fitted kept.1);
}
