use Rattle.rv_turn.proofs.pass.Pass.split.Given as goal

abbrev pub ghosts-cut_pass : goal.ghosts-cut_pass
ghosts-cut_pass g a = record { actor = a.actor; acts = a.acts }
