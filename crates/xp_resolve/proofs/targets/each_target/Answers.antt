use Rattle.std.proofs.Common.{◌∙◌, sym}
use Rattle.std.proofs.lemmas.List.Elements.{All-push}
use Rattle.xp_resolve.specs.inner.Sources.{IsTarget}
use Rattle.xp_resolve.proofs.TargetLists.{stepped}
use Rattle.xp_resolve.proofs.targets.each_target.Goals as goal

pub loop-place-preserved : goal.loop-place-preserved
loop-place-preserved c =
    let found = sym c.target_of.ensures.value ∙ c.in-Some.is in
    rw c.in_ok-push-in-Some.ensures.ok (record {
      within = All-push (IsTarget c.args.c.now) c.loop-place.list c.in-Some.target c.loop-place.invariant.within c.in-Some.ensures.within;
      says = stepped c.args.c.now c.args.taking c.args.variadic c.is_spread-spread.result c.loop-place.list c.args.declared.now c.args.types.now c.loop-place.place _ _ c.in-Some.target c.loop-place-test.true c.requires.lengths c.is_spread-spread.ensures found ∙ c.loop-place.invariant.says;
    })
