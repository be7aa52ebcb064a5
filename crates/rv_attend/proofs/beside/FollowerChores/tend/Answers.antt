use Rattle.rv_attend.proofs.beside.FollowerChores.tend.Goals as goal

pub returns : goal.returns
returns g c = λ left. record {
  tends = c.attend.ensures.tends;
  attends = c.attend.ensures.attends left;
  hears = c.attend.ensures.hears;
  goes = c.attend.ensures.goes;
}
