use Rattle.std.proofs.Common.{◌≡◌, ◌+◌, ◌*◌, ◌/◌, ◌%◌, ◌<◌, length, arith, ap}
use Rattle.std.specs.Str.{chars, encode_utf8_all}
use Rattle.xp_text.proofs.Filled.{padding_bytes, padding_of_nothing}
use Rattle.xp_text.proofs.padding.filled.Goals as goal

pub returns-then-size-eq0 : goal.returns-then-size-eq0
returns-then-size-eq0 c =
    let none : length (chars c.args.fill.now) ≡ 0 = grind arith in
    ap encode_utf8_all (padding_of_nothing c.args.count (chars c.args.fill.now) none)

pub returns : goal.returns
returns c =
    let n = c.args.count in
    let size = c.length_text-size.result in
    let some : 0 < size = omega arith in
    let parts : n ≡ n / size * size + n % size = omega arith in
    let rest : n % size < size = omega arith in
    padding_bytes c.args.fill.now c.split_characters.result.0.now n (n / size) (n % size) size c.utf8.fill c.length_text-size.ensures.value some parts rest c.split_characters.ensures.bytes
