use Rattle.rv_attend.proofs.least.+count_protected.Given as goal

abbrev pub decreases-count_protected : goal.decreases-count_protected
decreases-count_protected a = a.below
