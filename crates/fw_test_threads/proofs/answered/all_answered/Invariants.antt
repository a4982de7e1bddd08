use Rattle.fw_test_threads.proofs.answered.all_answered.Given as goal

-- the lists of the split that was just opened
abbrev pub ghosts-answered : goal.ghosts-answered
ghosts-answered g a = record { fronts = a.opened.fronts; posts = a.opened.posts }
