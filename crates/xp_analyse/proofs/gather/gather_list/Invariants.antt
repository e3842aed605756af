use Rattle.std.proofs.Common.{◌≡◌, drop, length, map, Ok}
use Rattle.std.specs.Prelude.{IfOk}
use Rattle.xp_resolve.specs.inner.Sources.{AreSources}
use Rattle.xp_expressions.specs.Expressions.{resolved}
use Rattle.xp_expressions.specs.Operands.{begun}
use Rattle.xp_analyse.specs.inner.Views.{list_in}
use Rattle.xp_analyse.proofs.Gathering.{Behind}
use Rattle.xp_analyse.proofs.gather.gather_list.Given as goal

-- the expressions so far are what the definition says of them, and with the others what it says of all
abbrev pub invariant-loop-place : goal.invariant-loop-place
invariant-loop-place l = record {
  sources : IfOk l.all (λ g. AreSources l.scene.c g.parts);
  count : IfOk l.all (λ g. length g.parts ≡ l.place);
  says : Behind (Ok (begun l.fn.progress)) l.all (map (resolved l.scene) (drop l.place (list_in l.list))) (map (resolved l.scene) (list_in l.list));
}
