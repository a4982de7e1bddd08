use Rattle.fw_test_threads.proofs.gated.view_while_sync.Given as goal

-- the lists of the split that was just opened
abbrev pub ghosts-viewed : goal.ghosts-viewed
ghosts-viewed g a = record { fronts = a.opened.fronts; posts = a.opened.posts }
