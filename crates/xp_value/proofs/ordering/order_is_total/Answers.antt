use Rattle.std.proofs.lemmas.Cmp.{tied_itself, upto}
use Rattle.xp_value.proofs.Total.{value_order_total}
use Rattle.xp_value.proofs.ordering.order_is_total.Goals as goal

pub returns-clause-reflexive : goal.returns-clause-reflexive
returns-clause-reflexive c a = tied_itself value_order_total a

pub returns-clause-total : goal.returns-clause-total
returns-clause-total c = value_order_total.antisymm

pub returns-clause-transitive : goal.returns-clause-transitive
returns-clause-transitive c = upto value_order_total

pub returns-clause-alike : goal.returns-clause-alike
returns-clause-alike c = value_order_total.congr
