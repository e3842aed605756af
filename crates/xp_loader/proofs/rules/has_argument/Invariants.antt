use Rattle.std.proofs.Common.{◌≡◌, drop}
use Rattle.std.specs.List.{list_any}
use Rattle.xp_catalog.specs.Rules.{is_member, kind_of}
use Rattle.xp_loader.proofs.rules.has_argument.Given as goal

-- those from here on answer as all do
abbrev pub invariant-loop-arg : goal.invariant-loop-arg
invariant-loop-arg l = list_any (λ arg. is_member l.family (kind_of l.c arg)) (drop l.arg-index l.args) ≡ list_any (λ arg. is_member l.family (kind_of l.c arg)) l.args
