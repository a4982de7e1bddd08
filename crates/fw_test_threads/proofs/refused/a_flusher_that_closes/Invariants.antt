use Rattle.fw_test_threads.proofs.refused.a_flusher_that_closes.Given as goal

-- the lists of the split that was just opened
abbrev pub ghosts-closed : goal.ghosts-closed
ghosts-closed g a = record { fronts = a.opened.fronts; posts = a.opened.posts }
