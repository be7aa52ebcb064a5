use Rattle.rv_attend.proofs.letting.+count_lines.Given as goal

abbrev pub decreases-count_lines : goal.decreases-count_lines
decreases-count_lines a = a.below
