use Rattle.rv_crew.proofs.Turns.{abandoned_of_turn}
use Rattle.rv_crew.proofs.laws.given_up_threads_keep_the_turn.Goals as goal

pub returns : goal.returns
returns g c = abandoned_of_turn
