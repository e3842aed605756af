-- Arms of CASE that may be converted.
use Rattle.std.specs.Prelude.{List}
use Rattle.std.specs.List.{All}
use Rattle.xp_catalog.specs.Contents.{Contents}
use Rattle.xp_coerce.specs.Asked.{IsSource}
use Rattle.xp_forms.specs.declared.cases.When.{When}

pub record IsResolved (c : Contents) (arm : When) : Type 0 where
  pub condition : IsSource c arm.condition.tree
  pub gives : IsSource c arm.result.tree

abbrev pub AreResolved : Contents → List When → Type 0
AreResolved c whens = All (IsResolved c) whens
