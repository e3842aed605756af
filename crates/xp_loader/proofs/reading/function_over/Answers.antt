use Rattle.xp_loader.proofs.reading.function_over.Goals as goal

pub returns-in-None : goal.returns-in-None
returns-in-None c = rw c.in-None.is c.function_of-in-None.ensures
