use Rattle.xp_io.proofs.Printed.{numeric_utf8}
use Rattle.xp_io.proofs.writing.text_of_numeric.Goals as goal

pub text_in-requires : goal.text_in-requires
text_in-requires c = rw (c.as_slice.ensures, c.in_ok-write_numeric.ensures.ok, c.new-bytes.ensures) (numeric_utf8 c.args.number)
