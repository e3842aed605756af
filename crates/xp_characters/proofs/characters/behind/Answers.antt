use Rattle.std.proofs.Common.{◌≡◌, ◌+◌, ◌≤◌, drop, List, [], sym, ◌∙◌, rules, arith, ap}
use Rattle.std.specs.Str.{chars}
use Rattle.xp_characters.proofs.Encoded.{drop_one_more, drop_past, ends_later}
use Rattle.xp_characters.proofs.characters.behind.Goals as goal

pub loop-preserved : goal.loop-preserved
loop-preserved c =
    let inv = c.loop.invariant in
    record {
      utf8 = search rules;
      value = drop_one_more (chars c.args.text.now) (chars c.in-Some.rest.now) c.loop.counter _ (sym inv.value ∙ c.in-Some.ensures.cases);
      end = ends_later c.args.text.now c.loop.back.now c.in-Some.rest.now _ inv.end c.in-Some.ensures.bytes;
      shorter = omega (arith, c.in-Some.ensures.shorter, inv.shorter);
    }

pub returns-in_default-clause-value : goal.returns-in_default-clause-value
returns-in_default-clause-value c =
    let none : chars c.loop.back.now ≡ [] = c.in_default.ensures.cases in
    none ∙ sym (drop_past (chars c.args.text.now) c.loop.counter c.args.count (omega arith) (sym c.loop.invariant.value ∙ none))
