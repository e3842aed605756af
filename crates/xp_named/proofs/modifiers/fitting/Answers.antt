use Rattle.xp_named.proofs.modifiers.fitting.Goals as goal

pub returns-in-Length-Length : goal.returns-in-Length-Length
returns-in-Length-Length c = rw (c.in-Length-Length.is-0, c.in-Length-Length.is-1) (c.length_of.ensures c.in-Length-Length.at-1)

pub returns-in-Digits-Length : goal.returns-in-Digits-Length
returns-in-Digits-Length c = rw (c.in-Digits-Length.is-0, c.in-Digits-Length.is-1) (c.precision_of.ensures c.in-Digits-Length.at-1)

pub returns-in-Digits-Digits : goal.returns-in-Digits-Digits
returns-in-Digits-Digits c = rw (c.in-Digits-Digits.is-0, c.in-Digits-Digits.is-1) (c.digits_of.ensures c.in-Digits-Digits.at-1)
