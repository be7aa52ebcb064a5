use Rattle.rv_port.specs.Ports.{pass_of}
use Rattle.rv_port.proofs.TextEnds.{left_follows}
use Rattle.rv_crew.proofs.tasks.text_task.Goals as goal

pub returns-clause-followed : goal.returns-clause-followed
returns-clause-followed g c = left_follows c.run_text-ending.new.self.refused c.finish_text.result.refused c.args.budget (pass_of c.args.port) (pass_of c.run_text-ending.new.self) (pass_of c.finish_text.result) c.finish_text.ensures.mark c.finish_text.ensures.leaves c.run_text-ending.ensures.followed
