use Rattle.std.proofs.Common.{◌≡◌, drop}
use Rattle.xp_call.specs.Calls.{is_built}
use Rattle.xp_meaning.specs.Evaluable.{all_evaluable}
use Rattle.xp_tree.specs.Term.{terms}
use Rattle.xp_analyse.specs.Statements.{first_unready}
use Rattle.xp_analyse.specs.inner.Views.{list_in}
use Rattle.xp_analyse.proofs.ready.first_unready.Given as goal

-- the rest decides
abbrev pub invariant-loop-place : goal.invariant-loop-place
invariant-loop-place l = record {
  place : first_unready (drop l.place (list_in l.list)) (drop l.place l.trees) ≡ first_unready (list_in l.list) l.trees;
  ready : all_evaluable is_built (terms (drop l.place l.trees)) ≡ all_evaluable is_built (terms l.trees);
}
