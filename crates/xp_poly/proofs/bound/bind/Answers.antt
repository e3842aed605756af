use Rattle.std.proofs.Common.{◌∙◌, sym, take}
use Rattle.xp_poly.proofs.Written.{types_written}
use Rattle.xp_poly.proofs.bound.bind.Goals as goal

pub returns-clause-out : goal.returns-clause-out
returns-clause-out c = types_written c.args.c.now c.args.declared.now c.args.inputs.now c.args.out.now c.write_types.new.out (take c.given-first_count.result c.given-first_count.new.room) (take c.given-second_count.result c.given-second_count.new.room) c.first_bond.result c.second_bond.result
    c.given-first_count.ensures.list c.given-second_count.ensures.list c.first_bond.ensures.value c.second_bond.ensures.value (sym c.is_indeterminate.ensures ∙ c.if-is_indeterminate.false) c.write_types.ensures.value
