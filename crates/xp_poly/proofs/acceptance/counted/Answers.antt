use Rattle.std.proofs.Common.{◌+◌, ◌++◌, ◌∙◌, ap, arith, drop, filter_map, get_or, sym, take}
use Rattle.std.proofs.lemmas.List.{drop_more}
use Rattle.xp_types.specs.Readers.{unknown}
use Rattle.xp_types.specs.Within.{IsType}
use Rattle.xp_poly.specs.Members.{counts_as}
use Rattle.xp_poly.specs.declared.members.KnownInput.{KnownInput}
use Rattle.xp_poly.specs.declared.roles.Form.TheVariants.{Element}
use Rattle.xp_poly.proofs.Lists.{all_grown, grown}
use Rattle.xp_poly.proofs.acceptance.counted.Goals as goal

-- stands past the end of a list
abbrev nothing : KnownInput
nothing = record { form = Element; input = unknown }

pub loop-place-preserved : goal.loop-place-preserved
loop-place-preserved c =
    let inv = c.loop-place.invariant in
    let front = take c.loop-place.count c.loop-place.room in
    let new = take c.put-count.result c.put-count.new.room in
    record {
      size = c.put-count.auto.room ∙ inv.size;
      count = omega (arith, inv.count, c.put-count.ensures.count);
      list = grown (counts_as c.args.c.now) front new c.counts_as-one.result (get_or c.args.inputs.now c.loop-place.place nothing) (drop (c.loop-place.place + 1) c.args.inputs.now) c.put-count.ensures.list c.counts_as-one.ensures.value
          ∙ ap (λ rest. front ++ filter_map (counts_as c.args.c.now) rest) (sym (drop_more c.args.inputs.now c.loop-place.place nothing c.loop-place-test.true))
          ∙ inv.list;
      within = all_grown (IsType c.args.c.now) front new c.counts_as-one.result c.put-count.ensures.list inv.within c.counts_as-one.ensures.within;
    }
