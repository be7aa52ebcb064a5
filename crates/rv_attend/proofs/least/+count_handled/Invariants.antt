use Rattle.rv_attend.proofs.least.+count_handled.Given as goal

abbrev pub decreases-count_handled : goal.decreases-count_handled
decreases-count_handled a = a.below
