use Rattle.std.proofs.Common.{◌∙◌, ap, arith, below_more, not, sym}
use Rattle.xp_types.specs.Common.{at_first}
use Rattle.xp_types.specs.Paths.{converts}
use Rattle.xp_types.specs.Readers.{unknown}
use Rattle.xp_types.proofs.Places.{first_at, none_at}
use Rattle.xp_types.proofs.Converting.{within_any}
use Rattle.xp_types.proofs.common_type.converted.Goals as goal

pub returns-then-not-converts-clause-value : goal.returns-then-not-converts-clause-value
returns-then-not-converts-clause-value c = ap (at_first c.args.ty) (sym (first_at (λ input. not (converts c.args.c.now input c.args.ty)) c.args.inputs.now c.loop-place.place unknown c.loop-place-test.true (ap not (sym c.converts.ensures ∙ c.if-not-converts.true)) (λ k under. ap not (c.loop-place.invariant k under))))

pub loop-place-preserved : goal.loop-place-preserved
loop-place-preserved c = below_more _ _ c.loop-place.invariant (sym c.converts.ensures ∙ c.if-not-converts.false)

pub returns-clause-value : goal.returns-clause-value
returns-clause-value c = ap (at_first c.args.ty) (sym (none_at (λ input. not (converts c.args.c.now input c.args.ty)) c.args.inputs.now unknown (λ k under. ap not (c.loop-place.invariant k (omega (arith, under, c.loop-place-test.false))))))

pub returns-clause-converts : goal.returns-clause-converts
returns-clause-converts c = λ k d within. ap (λ s. converts c.args.c.now s c.args.ty) (within_any c.args.inputs.now k d unknown within) ∙ c.loop-place.invariant k (omega (arith, within, c.loop-place-test.false))
