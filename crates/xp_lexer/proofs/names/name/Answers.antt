use Rattle.std.proofs.Common.{le_refl}
use Rattle.xp_lexer.proofs.Ascii.{front_ascii, name_byte_ascii}
use Rattle.xp_lexer.specs.Bytes.{is_name_byte}
use Rattle.xp_lexer.proofs.names.name.Goals as goal

pub ascii-requires : goal.ascii-requires
ascii-requires c = rw (c.split_at.ensures.front, c.name_len.ensures.value) (front_ascii is_name_byte name_byte_ascii c.args.z.now _ (le_refl _))
