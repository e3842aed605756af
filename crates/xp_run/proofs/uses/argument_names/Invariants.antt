use Rattle.std.proofs.Common.{◌≡◌, ◌++◌, ◌∷◌, [], drop, string_bytes}
use Rattle.xp_run.specs.Uses.{argument_names}
use Rattle.xp_run.proofs.uses.argument_names.Given as goal

-- the names so far and the rest are all of them
abbrev pub invariant-loop-ty : goal.invariant-loop-ty
invariant-loop-ty l =
    string_bytes l.names ++ argument_names l.catalog l.variadic (drop l.ty-index l.before ++ l.last ∷ [])
    ≡ argument_names l.catalog l.variadic (l.before ++ l.last ∷ [])
