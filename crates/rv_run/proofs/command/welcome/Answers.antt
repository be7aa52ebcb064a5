use Rattle.rv_run.proofs.command.welcome.Goals as goal

pub returns : goal.returns
returns g c = record {
  next = c.tell-told.result;
  said = g.W.Write.contents c.tell-told.new.writer;
  answered = c.tell-told.ensures;
  noted = g.W.Write.contents c.after-goes.new.writer;
  goes = c.after-goes.result;
  behind = c.after-goes.ensures;
  started = c.start_on.ensures;
}
