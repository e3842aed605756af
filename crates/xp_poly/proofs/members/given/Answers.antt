use Rattle.std.proofs.Common.{◌++◌, ◌∙◌, ap, arith, drop, filter_map, get_or, sym, take, zip, ◌+◌}
use Rattle.xp_types.specs.Readers.{unknown}
use Rattle.xp_types.specs.Within.{IsType}
use Rattle.xp_poly.specs.Members.{given_at}
use Rattle.xp_poly.proofs.Lists.{all_grown, grown, zip_from}
use Rattle.xp_poly.proofs.members.given.Goals as goal

pub loop-place-preserved : goal.loop-place-preserved
loop-place-preserved c =
    let inv = c.loop-place.invariant in
    let front = take c.loop-place.count c.loop-place.room in
    let new = take c.put-count.result c.put-count.new.room in
    record {
      size = c.put-count.auto.room ∙ inv.size;
      count = omega (arith, inv.count, c.put-count.ensures.count);
      list = grown (given_at c.args.c.now c.args.family) front new c.given_at-one.result (get_or c.args.declared.now c.loop-place.place unknown, get_or c.args.inputs.now c.loop-place.place unknown) (zip (drop (c.loop-place.place + 1) c.args.declared.now) (drop (c.loop-place.place + 1) c.args.inputs.now)) c.put-count.ensures.list c.given_at-one.ensures.value
          ∙ ap (λ pairs. front ++ filter_map (given_at c.args.c.now c.args.family) pairs) (sym (zip_from c.args.declared.now c.args.inputs.now c.loop-place.place unknown unknown (omega (arith, c.requires.lengths, c.loop-place-test.true)) c.loop-place-test.true))
          ∙ inv.list;
      within = all_grown (λ known. IsType c.args.c.now known.input) front new c.given_at-one.result c.put-count.ensures.list inv.within c.given_at-one.ensures.within;
    }
