use Rattle.fw_test_threads.proofs.refused.the_same_entry_twice.Given as goal

-- the lists of the split that was just opened
abbrev pub ghosts-repeated : goal.ghosts-repeated
ghosts-repeated g a = record { fronts = a.opened.fronts; posts = a.opened.posts }
