use Rattle.std.proofs.Common.{◌≡◌, take}
use Rattle.std.specs.Prelude.{map}
use Rattle.std.specs.List.{list_all}
use Rattle.xp_types.specs.Readers.{is_known}
use Rattle.xp_func.specs.Exact.{is_exact}
use Rattle.xp_func.proofs.exact.mark_exact.Given as goal

-- the marks so far
abbrev pub invariant-loop-candidate : goal.invariant-loop-candidate
invariant-loop-candidate l = record {
  known : l.known ≡ list_all is_known l.inputs;
  list : l.marks.items ≡ map (is_exact l.inputs) (take l.candidate-index l.candidates);
}
