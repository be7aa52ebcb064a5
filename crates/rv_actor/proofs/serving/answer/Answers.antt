use Rattle.rv_actor.proofs.serving.answer.Goals as goal

pub returns : goal.returns
returns g c = record {
  answers = record { outcome = c.perform_asked-outcome.result; does = c.perform_asked-outcome.ensures.does; tells = c.tell.ensures };
  stays = c.perform_asked-outcome.ensures.stays;
}
