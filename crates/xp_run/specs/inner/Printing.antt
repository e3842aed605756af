-- A writer of rows between two of them.
use Rattle.std.specs.Prelude.{◌≡◌, [], false, true}
use Rattle.csv.specs.Writing.{default_writer, fields_written, has_written, with_flexible, writer_pending, writer_setup}
use Rattle.csv.specs.declared.writer.Writer.{Writer}

-- it writes rows of any width, and holds nothing back
pub record IsIdle {W : Type 0} (w : Writer W) : Type 0 where
  pub setup : writer_setup w ≡ with_flexible default_writer true
  pub fields : fields_written w ≡ 0
  pub wrote : has_written w ≡ false
  pub pending : writer_pending w ≡ []
