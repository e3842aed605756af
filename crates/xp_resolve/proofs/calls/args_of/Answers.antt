use Rattle.std.proofs.Common.{◌≡◌, ◌==◌, ◌-◌, Some, false, length, slice_get, sym, arith}
use Rattle.std.proofs.lemmas.Bool.Decides.{nat_tests}
use Rattle.std.proofs.lemmas.Option.{slice_get_within}
use Rattle.xp_resolve.proofs.ArgsStand.{few_spread_trees, spread_alike, spread_stands, whole_stands}
use Rattle.xp_resolve.proofs.calls.args_of.Goals as goal

pub returns-then-choice-eq0-clause-stands : goal.returns-then-choice-eq0-clause-stands
returns-then-choice-eq0-clause-stands c =
    whole_stands c.args.c.now c.args.choice.now c.args.trees c.is_well_formed_law.ensures c.requires.fitted c.requires.choice c.if-choice-eq0.true c.requires.typed

pub func_row-func-requires : goal.func_row-func-requires
func_row-func-requires c = slice_get_within c.args.c.now.funcs c.args.choice.now.row.0 c.requires.choice.func c.requires.choice.there

pub spread-requires-clause-extra : goal.spread-requires-clause-extra
spread-requires-clause-extra c =
    let some : (c.args.choice.now.extra == 0) ≡ false = grind (arith, nat_tests, c.if-choice-eq0.false) in
    few_spread_trees c.args.c.now c.args.choice.now c.args.trees c.requires.choice some c.requires.typed

pub spread-requires-clause-alike : goal.spread-requires-clause-alike
spread-requires-clause-alike c =
    let some : (c.args.choice.now.extra == 0) ≡ false = grind (arith, nat_tests, c.if-choice-eq0.false) in
    let at : slice_get c.args.choice.now.targets (length c.args.choice.now.targets - 1) ≡ Some c.in-Some-Some.each.now = rw (← c.as_slice-2.ensures) (sym c.in-Some-Some.ensures'.value) in
    spread_alike c.args.c.now c.args.choice.now c.args.trees c.in-Some.array_type c.in-Some-Some.each.now c.requires.choice some c.requires.typed at c.in-Some.ensures.over

pub returns-clause-stands : goal.returns-clause-stands
returns-clause-stands c =
    let some : (c.args.choice.now.extra == 0) ≡ false = grind (arith, nat_tests, c.if-choice-eq0.false) in
    rw c.in_ok-spread.ensures.value (spread_stands c.args.c.now c.args.choice.now c.args.trees c.in-Some.array_type _ c.is_well_formed_law.ensures c.requires.fitted c.requires.choice some c.requires.typed c.in-Some.ensures.over)
