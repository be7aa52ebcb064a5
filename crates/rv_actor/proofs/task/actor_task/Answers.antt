use Rattle.rv_port.specs.Ports.{pass_of}
use Rattle.rv_port.proofs.Performing.{stays_both}
use Rattle.rv_actor.proofs.task.actor_task.Goals as goal

pub returns : goal.returns
returns g c = record {
  serves = record {
    done = c.serve-served.new.port;
    serves = c.serve-served.ensures.serves;
    quits = c.finish.ensures.quits;
    mark = c.finish.ensures.mark;
  };
  stays = stays_both (pass_of c.args.port) (pass_of c.serve-served.new.port) (pass_of c.finish.result) c.serve-served.ensures.stays c.finish.ensures.stays;
  explained = c.finish.ensures.explained;
}
