use Rattle.std.specs.Prelude.{is_some}
use Rattle.rv_crew.proofs.Turns.{joined_of_turn}
use Rattle.rv_staff.specs.Working.{Works}
use Rattle.rv_staff.proofs.OneTurn.{closes, waits_stay}
use Rattle.rv_staff.proofs.staff.close.Goals as goal

pub leave-requires-clause-turn : goal.leave-requires-clause-turn
leave-requires-clause-turn g c =
    let stays = waits_stay (is_some c.args.within) c.args.control.turn c.args.crew c.wait.new.crew c.wait.ensures c.requires.none_joined c.requires.one_turn in
    joined_of_turn Works c.args.control.turn c.wait.new.crew c.join_all.new.self stays.1 c.in-Ok.ensures.ok.0 c.in-Ok.ensures.ok.1

pub returns-in-Ok : goal.returns-in-Ok
returns-in-Ok g c =
    closes (is_some c.args.within) c.args.control c.args.crew c.wait.new.crew c.join_all.new.self c.leave.result c.requires c.wait.ensures c.in-Ok.ensures.ok.0
    c.in-Ok.ensures.ok.1 c.leave.ensures
