use Rattle.rv_crew.proofs.tasks.line_task.Goals as goal

pub returns-clause-fires : goal.returns-clause-fires
returns-clause-fires g c = let fires = c.fire_each.ensures.fires in (fires.0, c.fire_each.new.port, fires.1, fires.2, c.finish.ensures.quits, c.finish.ensures.mark)
