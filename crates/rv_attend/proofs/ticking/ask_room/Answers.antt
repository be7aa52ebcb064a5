use Rattle.std.proofs.Common.{Bool, rules, subst, sym}
use Rattle.rv_attend.specs.Ticking.{AsksRoom}
use Rattle.rv_attend.proofs.Ticked.{room_of}
use Rattle.rv_attend.proofs.ticking.ask_room.Goals as goal

pub returns-clause-asks : goal.returns-clause-asks
returns-clause-asks g c = subst (λ (b : Bool). AsksRoom c.args.ticks b c.args.staff.now.control c.tick-answer.new.self.control) (sym c.had_room.ensures)
    (room_of c.args.ticks _ c.args.staff.now.control c.tick-answer.new.self.control c.tick-answer.result (search rules) c.tick-answer.ensures.told)
