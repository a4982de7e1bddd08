use Rattle.fw_test_threads.proofs.refused.a_device_that_fails.Given as goal

-- the lists of the split that was just opened
abbrev pub ghosts-failed : goal.ghosts-failed
ghosts-failed g a = record { fronts = a.opened.fronts; posts = a.opened.posts }
