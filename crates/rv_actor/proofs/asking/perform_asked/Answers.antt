use Rattle.rv_actor.proofs.asking.perform_asked.Goals as goal

pub returns-clause-does : goal.returns-clause-does
returns-clause-does g c = rw c.asked_of.ensures at c.perform_if.ensures.does
