use Rattle.rv_crew.proofs.Turns.{joined_of_turn}
use Rattle.rv_crew.proofs.laws.joins_keep_the_turn.Goals as goal

pub returns : goal.returns
returns g c = joined_of_turn g.D.Duty.does
