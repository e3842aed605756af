use Rattle.std.proofs.Common.{◌∙◌, length, map, reverse}
use Rattle.std.proofs.lemmas.Result.{err_from_is_err_and}
use Rattle.xp_resolve.specs.inner.Sources.{AreSources}
use Rattle.xp_resolve.proofs.Converting.{first_is, rest_are}
use Rattle.xp_forms.proofs.Armed.{left_is}
use Rattle.xp_analyse.specs.Statements.{all_settled, with_settled}
use Rattle.xp_analyse.proofs.Listing.{left_more, left_stop, long_more}
use Rattle.xp_analyse.proofs.settle.all_settled.Goals as goal

pub with_settled-requires-clause-sources : goal.with_settled-requires-clause-sources
with_settled-requires-clause-sources c =
    first_is (AreSources c.args.scene.now.c) (reverse c.loop-parts.left) c.in-Some.parts (reverse c.pop.new.self) c.loop-parts.invariant.sources (left_is c.loop-parts.left c.pop.new.self c.in-Some.parts c.in-Some.ensures)

pub loop-parts-preserved : goal.loop-parts-preserved
loop-parts-preserved c =
    let next = left_is c.loop-parts.left c.pop.new.self c.in-Some.parts c.in-Some.ensures in
    record {
      sources = rest_are (AreSources c.args.scene.now.c) (reverse c.loop-parts.left) c.in-Some.parts (reverse c.pop.new.self) c.loop-parts.invariant.sources next;
      shape = long_more (map length c.loop-parts.all.lists) (map length c.in_ok-all.all.lists) (reverse c.loop-parts.left) (reverse c.pop.new.self) c.in-Some.parts (map length c.args.table.lists) next c.in_ok-all.ensures.shape c.loop-parts.invariant.shape;
      says = left_more (with_settled c.args.scene.now) c.loop-parts.all c.in_ok-all.all (reverse c.loop-parts.left) (reverse c.pop.new.self) c.in-Some.parts next c.in_ok-all.ensures.value ∙ c.loop-parts.invariant.says;
    }

pub returns-in_err-all-clause-value : goal.returns-in_err-all-clause-value
returns-in_err-all-clause-value c =
    let p = err_from_is_err_and c.from_residual-in_err-all.result c.from_residual-in_err-all.ensures.1 in
    rw (p.1, p.2)
    (left_stop (with_settled c.args.scene.now) c.loop-parts.all (reverse c.loop-parts.left) (reverse c.pop.new.self) c.in-Some.parts c.in_err-all.field-0.0 (all_settled c.args.scene.now c.args.table)
    (left_is c.loop-parts.left c.pop.new.self c.in-Some.parts c.in-Some.ensures) c.in_err-all.ensures.value c.loop-parts.invariant.says)
