use Rattle.rv_lists.proofs.series_reader.+put_together.Given as goal

abbrev pub decreases-put_together : goal.decreases-put_together
decreases-put_together l = l.number
