use Rattle.std.proofs.Common.{◌≡◌, drop}
use Rattle.std.specs.List.{list_all}
use Rattle.xp_oper.specs.Exact.{may_match}
use Rattle.xp_oper.proofs.exact.all_may_match.Given as goal

-- those from here on answer as all do
abbrev pub invariant-loop-ty : goal.invariant-loop-ty
invariant-loop-ty l = list_all (may_match l.c) (drop l.ty-index l.types) ≡ list_all (may_match l.c) l.types
