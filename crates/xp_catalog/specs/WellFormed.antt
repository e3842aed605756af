-- What holds of every catalogue: each of its records keeps the rules against those before.
use Rattle.std.specs.Prelude.{◌≡◌, ℕ, ◌+◌, ◌<◌, ◌≤◌, true}
use Rattle.xp_base.specs.declared.limits.TheConstants.{RECORD_LIMIT}
use Rattle.xp_catalog.specs.declared.record.Record.{Record}
use Rattle.xp_catalog.specs.Contents.{Contents, added, first_contents}
use Rattle.xp_catalog.specs.Known.{IsKnown}
use Rattle.xp_catalog.specs.Rules.{keeps_rules}

-- the rows of that many records, each of which keeps the rules against those before
pub data IsBuilt : ℕ → Contents → Type 0 where
  nothing : IsBuilt 0 first_contents
  more : (n : ℕ) (before : Contents) (r : Record) → IsBuilt n before → keeps_rules before r ≡ true → IsBuilt (n + 1) (added before r)

-- no more records than their limit. That every number is a row's follows from the rules, and stands here for those who read rows
pub record IsWellFormed (c : Contents) : Type 0 where
  pub count : ℕ
  pub within : count ≤ RECORD_LIMIT
  pub built : IsBuilt count c
  pub known : IsKnown c

-- one record more may come
pub record HasRoom (c : Contents) : Type 0 where
  pub count : ℕ
  pub within : count < RECORD_LIMIT
  pub built : IsBuilt count c
