use Rattle.std.proofs.Common.{◌+◌, ◌<◌, ◌∙◌, arith, drop, get_or, length, zip}
use Rattle.std.proofs.Math.ListN.{length-set}
use Rattle.xp_types.specs.Readers.{unknown}
use Rattle.xp_types.specs.Within.{IsType}
use Rattle.xp_poly.specs.Bound.{concrete_at}
use Rattle.xp_poly.proofs.Lists.{all_written, written, zip_from}
use Rattle.xp_poly.proofs.bound.write_types.Goals as goal

pub loop-place-preserved : goal.loop-place-preserved
loop-place-preserved c =
    let inv = c.loop-place.invariant in
    let p = c.loop-place.place in
    let within : p < length c.loop-place.out = omega (arith, inv.size, c.loop-place-test.true) in
    record {
      size = length-set c.loop-place.out p c.concrete.result ∙ inv.size;
      list = written (concrete_at c.args.c.now c.args.both) c.loop-place.out p c.concrete.result (get_or c.args.declared.now p unknown, get_or c.args.inputs.now p unknown) (zip (drop p c.args.declared.now) (drop p c.args.inputs.now)) (zip (drop (p + 1) c.args.declared.now) (drop (p + 1) c.args.inputs.now)) within c.concrete.ensures.value
          (zip_from c.args.declared.now c.args.inputs.now p unknown unknown (omega (arith, c.requires.lengths, c.loop-place-test.true)) c.loop-place-test.true)
          ∙ inv.list;
      within = all_written (IsType c.args.c.now) c.loop-place.out p c.concrete.result within inv.within c.concrete.ensures.within;
    }
