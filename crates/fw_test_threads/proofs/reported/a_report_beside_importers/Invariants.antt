use Rattle.fw_test_threads.proofs.reported.a_report_beside_importers.Given as goal

-- the lists of the split that was just opened
abbrev pub ghosts-reported : goal.ghosts-reported
ghosts-reported g a = record { fronts = a.opened.fronts; posts = a.opened.posts }
