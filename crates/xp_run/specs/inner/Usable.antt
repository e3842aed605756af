-- What analysis of statements needs of a run's texts.
use Rattle.std.specs.Prelude.{◌≤◌, length}
use Rattle.xp_base.specs.declared.limits.TheConstants.{COLUMN_LIMIT}
use Rattle.xp_bodies.specs.Fits.{IsFitted}
use Rattle.xp_coerce.specs.Asked.{AreTruths}
use Rattle.xp_named.specs.Columns.{AreColumns}
use Rattle.xp_run.specs.declared.inputs.Inputs.{Inputs}

-- statements can be analysed over these
pub record AreUsable (inputs : Inputs) : Type 0 where
  pub fitted : IsFitted inputs.catalog
  pub checks : AreTruths inputs.checks
  pub columns : AreColumns inputs.catalog inputs.header
  pub few : length inputs.header ≤ COLUMN_LIMIT
