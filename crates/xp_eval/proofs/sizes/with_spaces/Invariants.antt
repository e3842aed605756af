use Rattle.std.proofs.Common.{◌≡◌, ◌-◌, ◌++◌, replicate, string_bytes}
use Rattle.xp_eval.proofs.sizes.with_spaces.Given as goal

-- with the spaces that are left, it is the text with all of them
abbrev pub invariant-loop-space : goal.invariant-loop-space
invariant-loop-space l = string_bytes l.padded ++ replicate (l.spaces - l._space) 32 ≡ l.text ++ replicate l.spaces 32
