use Rattle.rv_attend.proofs.beside.FollowerChores.admits.Goals as goal

pub returns : goal.returns
returns g c = (c.counted-counted.result, c.lets_in.ensures)
