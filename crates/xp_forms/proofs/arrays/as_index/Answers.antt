use Rattle.xp_forms.proofs.arrays.as_index.Goals as goal

pub returns-clause-value : goal.returns-clause-value
returns-clause-value c = rw c.plainly.ensures at c.convert.ensures.value
