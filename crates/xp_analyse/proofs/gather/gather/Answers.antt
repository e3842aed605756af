use Rattle.std.proofs.Common.{◌+◌, ◌<◌, ◌∙◌, drop, length, map}
use Rattle.xp_base.proofs.Lists.{drop_one}
use Rattle.xp_analyse.specs.Lists.{with_list}
use Rattle.xp_analyse.specs.inner.Views.{list_in, lists_in}
use Rattle.xp_analyse.proofs.Listing.{long_more, place_more}
use Rattle.xp_analyse.proofs.gather.gather.Goals as goal

pub loop-place-preserved : goal.loop-place-preserved
loop-place-preserved c =
    let few : c.loop-place.place < length (lists_in c.args.lists) = rw c.len-place-end.ensures at c.loop-place-test.true in
    record {
      sources = c.in_ok-all.ensures.sources c.loop-place.invariant.sources;
      shape = long_more (map length c.loop-place.all.lists) (map length c.in_ok-all.all.lists) (drop c.loop-place.place (lists_in c.args.lists)) (drop (c.loop-place.place + 1) (lists_in c.args.lists)) (list_in c.at.result) (map length (lists_in c.args.lists))
          (drop_one (lists_in c.args.lists) c.loop-place.place (list_in c.at.result) few c.at.ensures) c.in_ok-all.ensures.shape c.loop-place.invariant.shape;
      says = place_more (with_list c.args.scene.now) c.loop-place.all c.in_ok-all.all (lists_in c.args.lists) c.loop-place.place (list_in c.at.result) few c.at.ensures c.in_ok-all.ensures.value ∙ c.loop-place.invariant.says;
    }
