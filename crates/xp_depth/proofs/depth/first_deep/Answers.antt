use Rattle.std.proofs.Common.{◌∙◌, ap, ◌≤◌, arith, reverse}
use Rattle.xp_base.proofs.Lists.{drop_one}
use Rattle.xp_base.specs.declared.limits.TheConstants.{DEPTH_LIMIT}
use Rattle.xp_depth.specs.Depth.{deep_from, first_deep, depth_of}
use Rattle.xp_depth.specs.inner.Counted.{seen}
use Rattle.xp_grammar.specs.declared.kind.Kind.TheVariants as k
use Rattle.xp_depth.proofs.Deep.{closed_is, turn_goes, turn_stops}
use Rattle.xp_depth.proofs.depth.first_deep.Goals as goal

pub loop-at-init : goal.loop-at-init
unfolding first_deep
loop-at-init c = ap (λ g. deep_from 0 k.Nothing g c.args.tokens.now) c.new-groups.ensures

pub loop-at-preserved : goal.loop-at-preserved
loop-at-preserved c =
    let d = drop_one c.args.tokens.now c.loop-at.at c.index-tokens-at.result c.loop-at-test.true c.index-tokens-at.is in
    let next = c.in-Some.next in
    let fits : depth_of (seen next.part next.outer.items) ≤ DEPTH_LIMIT = omega (arith, closed_is next.part (reverse next.outer.items), next.fits, next.counted, next.around) in
    turn_goes _ _ _ _ _ _ _ _ _ d c.token_kind-kind.ensures c.role_of.ensures (rw c.in-Some.is at c.in_ok-next.ensures) fits ∙ c.loop-at.invariant

pub returns-in-None-clause-value : goal.returns-in-None-clause-value
returns-in-None-clause-value c =
    let d = drop_one c.args.tokens.now c.loop-at.at c.index-tokens-at.result c.loop-at-test.true c.index-tokens-at.is in
    turn_stops _ _ _ _ _ _ _ _ _ d c.token_kind-kind.ensures c.role_of.ensures (rw c.in-None.is at c.in_ok-next.ensures) c.loop-at.invariant
