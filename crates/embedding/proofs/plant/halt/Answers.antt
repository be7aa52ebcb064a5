use Rattle.embedding.proofs.Turns.{told_turn}
use Rattle.embedding.proofs.plant.halt.Goals as goal

pub returns : goal.returns
returns g c = told_turn _ _ _ _ c.halt.ensures
