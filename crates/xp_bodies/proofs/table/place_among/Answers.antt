use Rattle.std.proofs.Common.{◌<◌, ◌≤◌, ◌≡◌, List, [], Bor, length, drop, sym, ap, ◌∙◌, arith}
use Rattle.std.specs.List.{position_from}
use Rattle.std.proofs.lemmas.Iterator.Adapters.{position_from-zero}
use Rattle.xp_base.proofs.Lists.{drop_none}
use Rattle.xp_bodies.specs.declared.table.BodySig.{BodySig}
use Rattle.xp_bodies.specs.Row.{rows_of}
use Rattle.xp_bodies.proofs.Rows.{count-passed, has_name, place-found, place-passed}
use Rattle.xp_bodies.proofs.table.place_among.Goals as goal

pub returns-in-Some : goal.returns-in-Some
returns-in-Some c =
    sym (position_from-zero (has_name c.args.name.now) (rows_of c.args.families.now)
    ∙ c.loop-family.invariant.same
    ∙ place-found c.args.name.now c.args.families.now c.loop-family.family-index _ c.loop-family.before c.in-Some.place (omega arith) c.in-Some.ensures.value)

pub loop-family-preserved : goal.loop-family-preserved
loop-family-preserved c =
    let within : c.loop-family.family-index < length c.args.families.now = omega arith in
    record {
      same = c.loop-family.invariant.same ∙ place-passed c.args.name.now c.args.families.now c.loop-family.family-index _ c.loop-family.before within c.in-None.ensures.value;
      count = omega (arith, c.loop-family.invariant.count, count-passed c.args.families.now c.loop-family.family-index (record { ref_ptr = (0, 0); now = [] }) within);
    }

pub returns : goal.returns
returns c =
    let past : length c.args.families.now ≤ c.loop-family.family-index = omega arith in
    let rest : drop c.loop-family.family-index c.args.families.now ≡ [] = drop_none c.args.families.now c.loop-family.family-index past in
    sym (position_from-zero (has_name c.args.name.now) (rows_of c.args.families.now)
    ∙ c.loop-family.invariant.same
    ∙ ap (λ (fs : List (Bor (List BodySig))). position_from (has_name c.args.name.now) c.loop-family.before (rows_of fs)) rest)
