use Rattle.rv_actor.proofs.serving.serve_next.Goals as goal

pub returns : goal.returns
returns g c = record {
  serves = record { item = c.next-item.result; comes = c.next-item.ensures.steps.1; serves = c.serve_item.ensures.serves };
  stays = c.serve_item.ensures.stays;
}
