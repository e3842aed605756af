use Rattle.std.proofs.Common.{◌≡◌, ◌-◌, ◌^◌, ◌<◌, ◌⊎◌, inl, inr, arith}
use Rattle.std.proofs.lemmas.Bool.{cases_lt}
use Rattle.xp_numeric.proofs.Numerals.{placed_down, placed_up, placed_raised}
use Rattle.xp_numeric.proofs.reading.placed.Goals as goal

pub returns-then-exponent : goal.returns-then-exponent
returns-then-exponent c = λ n e f g.
    placed_down c.args.neg c.args.exponent.is_down n e c.args.decimals c.args.size c.args.exponent.by c.at_scale.result c.if-exponent.true f g c.at_scale.ensures

pub returns-then-exponent-decimals : goal.returns-then-exponent-decimals
returns-then-exponent-decimals c = λ n e f g.
    placed_up c.args.neg c.args.exponent.is_down n e c.args.decimals c.args.size c.args.exponent.by c.at_scale-then-exponent-decimals.result c.if-exponent.false f g (omega arith) c.if-exponent-decimals.true c.at_scale-then-exponent-decimals.ensures

pub returns-else-exponent-decimals : goal.returns-else-exponent-decimals
returns-else-exponent-decimals c = λ n e f g.
    let k = c.args.decimals in
    let by = c.args.exponent.by in
    let l : k < e = omega arith in
    let o : (by - k ≡ e - k) ⊎ ((38 < by - k) × (38 < e - k)) = elim (cases_lt e (10 ^ 38)) [ inl h ↦ inl (omega arith) | inr h ↦ inr (omega arith, omega arith) ] in
    placed_raised c.args.neg c.args.exponent.is_down n e k c.raised.result c.made.result c.if-exponent.false l (c.raised.ensures n (e - k) f o) c.made.ensures
