use Rattle.xp_io.proofs.Bytes.{bytea_utf8}
use Rattle.xp_io.proofs.writing.text_of_bytes.Goals as goal

pub text_in-requires : goal.text_in-requires
text_in-requires c = rw (c.as_slice.ensures, c.in_ok-write_bytea.ensures.ok, c.new-text.ensures) (bytea_utf8 c.args.bytes.now)
