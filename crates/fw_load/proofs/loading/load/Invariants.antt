use Rattle.fw_load.proofs.loading.load.Given as goal

-- the lists of the split that was just opened
abbrev pub ghosts-load_as : goal.ghosts-load_as
ghosts-load_as g a = record { fronts = a.opened.fronts; posts = a.opened.posts }
