use Rattle.rv_ends.proofs.meaning.run_again.Goals as goal

pub returns : goal.returns
returns c = let ran = c.run_body-ended.ensures in (ran.trace, ran.along, ran.outside)
