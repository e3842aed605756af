-- What holds of the record that a call uses.
use Rattle.std.specs.Prelude.{◌≡◌, ◌⊎◌, ◌<◌, ℕ, ◌+◌, List, [], ◌∷◌, ◌++◌, true, length, replicate, slice_get, Some}
use Rattle.std.specs.List.{All}
use Rattle.xp_base.specs.declared.numbers.TypeNo.{TypeNo}
use Rattle.xp_catalog.specs.declared.rows.FuncRow.{FuncRow}
use Rattle.xp_catalog.specs.Contents.{Contents}
use Rattle.xp_types.specs.Readers.{is_known}
use Rattle.xp_types.specs.Within.{IsType}
use Rattle.xp_candidates.specs.declared.candidate.Candidate.{Candidate}
use Rattle.xp_resolve.specs.declared.choice.Choice.{Choice}
use Rattle.xp_resolve.specs.Calls.{bound_pairs}
use Rattle.xp_resolve.specs.Nodes.{taking_of}
use Rattle.xp_resolve.specs.Targets.{targets_of}
use Rattle.xp_resolve.specs.inner.Sources.{IsTarget}

-- the function's parameters as they stand
pub record IsWhole (func : FuncRow) (inputs : ℕ) (candidate : Candidate) : Type 0 where
  pub declared : candidate.declared ≡ func.args
  pub expanded : candidate.expanded ≡ 0
  pub count : length func.args ≡ inputs

-- the last of them stands for several arguments
pub record IsSpread (func : FuncRow) (inputs : ℕ) (candidate : Candidate) : Type 0 where
  pub front : List TypeNo
  pub last : TypeNo
  pub type : TypeNo
  pub args : func.args ≡ front ++ last ∷ []
  pub declared : candidate.declared ≡ front ++ replicate candidate.expanded type
  pub some : 0 < candidate.expanded
  pub count : length front + candidate.expanded ≡ inputs

-- the parameters of the function at which so many arguments stand
abbrev pub IsForm : FuncRow → ℕ → Candidate → Type 0
IsForm func inputs candidate = IsWhole func inputs candidate ⊎ IsSpread func inputs candidate

-- the function is there, the targets are those of its parameters for these inputs, and the result has a type
pub record IsChoice (c : Contents) (choice : Choice) : Type 0 where
  pub inputs : List TypeNo
  pub func : FuncRow
  pub candidate : Candidate
  pub there : slice_get c.funcs choice.row.0 ≡ Some func
  pub stands : IsForm func (length inputs) candidate
  pub extra : choice.extra ≡ candidate.expanded
  pub targeted : targets_of (taking_of func.body) c func.variadic choice.extra (bound_pairs c candidate.declared inputs) ≡ Some choice.targets
  pub within : All (IsTarget c) choice.targets
  pub result : IsType c choice.result
  pub known : is_known choice.result ≡ true
