use Rattle.rv_machine.proofs.Meetings.{at_point}
use Rattle.rv_machine.proofs.machine.Machine.advance.Goals as goal

pub returns-in-At-clause-moves : goal.returns-in-At-clause-moves
returns-in-At-clause-moves c = at_point c.args.unit.now _ _ _ _ _ c.at_step.new.self c.in-At.is c.at_step.ensures.moves

pub returns-in-Ends-clause-moves : goal.returns-in-Ends-clause-moves
returns-in-Ends-clause-moves c = at_point c.args.unit.now _ _ _ _ _ c.at_end.new.self c.in-Ends.is c.at_end.ensures.moves

pub returns-in-Quits-clause-moves : goal.returns-in-Quits-clause-moves
returns-in-Quits-clause-moves c = at_point c.args.unit.now _ _ _ _ _ c.at_task_end.new.self c.in-Quits.is c.at_task_end.ensures.moves

pub returns-in-Closes-clause-moves : goal.returns-in-Closes-clause-moves
returns-in-Closes-clause-moves c = at_point c.args.unit.now _ _ _ _ _ c.body_comes.new.self c.in-Closes.is c.body_comes.ensures.moves

pub returns-in-Reaches-clause-moves : goal.returns-in-Reaches-clause-moves
returns-in-Reaches-clause-moves c = at_point c.args.unit.now _ _ _ _ _ c.request_comes.new.self c.in-Reaches.is c.request_comes.ensures.moves

pub returns-in-Outside-clause-moves : goal.returns-in-Outside-clause-moves
returns-in-Outside-clause-moves c = at_point c.args.unit.now _ _ _ _ _ c.call_comes.new.self c.in-Outside.is c.call_comes.ensures.moves

pub returns-in-Starts-clause-moves : goal.returns-in-Starts-clause-moves
returns-in-Starts-clause-moves c = at_point c.args.unit.now _ _ _ _ _ c.start_comes.new.self c.in-Starts.is c.start_comes.ensures.moves
