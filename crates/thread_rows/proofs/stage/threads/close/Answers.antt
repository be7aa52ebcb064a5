use Rattle.std.specs.Prelude.{⊤}
use Rattle.rv_crew.proofs.Turns.{joined_of_turn}
use Rattle.thread_rows.proofs.stage.threads.close.Goals as goal

pub close-requires-clause-turn : goal.close-requires-clause-turn
close-requires-clause-turn g c =
    joined_of_turn (λ _ _ _. ⊤) c.args.control.turn c.args.crew c.join_all.new.self c.requires c.in-Ok.ensures.ok.0 c.in-Ok.ensures.ok.1
