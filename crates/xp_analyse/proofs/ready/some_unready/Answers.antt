use Rattle.std.proofs.Common.{◌≡◌, ◌<◌, ◌≤◌, ◌∙◌, length, sym, None}
use Rattle.xp_analyse.specs.inner.Views.{list_in, lists_in}
use Rattle.xp_analyse.proofs.Readying.{IsReady, as_long_at, as_many, lists_next, more_ready, none_ready, not_some, told_ready}
use Rattle.xp_analyse.proofs.ready.some_unready.Goals as goal

pub first_unready-unready-requires : goal.first_unready-unready-requires
first_unready-unready-requires c =
    let few : c.loop-place.place < length (lists_in c.args.lists) = rw c.len-place-end.ensures at c.loop-place-test.true in
    let more : c.loop-place.place < length c.args.trees.now = rw (as_many c.args.trees.now (lists_in c.args.lists) c.requires) few in
    rw c.as_slice.ensures (as_long_at c.args.trees.now (lists_in c.args.lists) c.loop-place.place c.index-trees-place.result (list_in c.at.result) c.requires more c.index-trees-place.is few c.at.ensures)

pub loop-place-preserved : goal.loop-place-preserved
loop-place-preserved c =
    let few : c.loop-place.place < length (lists_in c.args.lists) = rw c.len-place-end.ensures at c.loop-place-test.true in
    let more : c.loop-place.place < length c.args.trees.now = rw (as_many c.args.trees.now (lists_in c.args.lists) c.requires) few in
    let none : c.first_unready-unready.result ≡ None = not_some c.first_unready-unready.result c.if-is_some.ensures in
    let own : IsReady c.index-trees-place.result = rw c.as_slice.ensures at (told_ready c.first_unready-unready.result (IsReady c.as_slice.result.now) none c.first_unready-unready.ensures.ready) in
    record {
      place = lists_next (lists_in c.args.lists) c.args.trees.now c.loop-place.place (list_in c.at.result) c.index-trees-place.result few c.at.ensures more c.index-trees-place.is (rw c.as_slice.ensures at (sym c.first_unready-unready.ensures.place ∙ none)) ∙ c.loop-place.invariant.place;
      ready = λ rest. c.loop-place.invariant.ready (more_ready c.args.trees.now c.loop-place.place c.index-trees-place.result more c.index-trees-place.is own rest);
    }

pub returns-clause-ready : goal.returns-clause-ready
returns-clause-ready c =
    let out : length c.args.trees.now ≤ c.loop-place.place = rw (as_many c.args.trees.now (lists_in c.args.lists) c.requires) (rw c.len-place-end.ensures at c.loop-place-test.false) in
    c.loop-place.invariant.ready (none_ready c.args.trees.now c.loop-place.place out)
