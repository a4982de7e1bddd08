use Rattle.fw_test_threads.proofs.gated.learned_while_a_checkpoint_syncs.Given as goal

-- the lists of the split that was just opened
abbrev pub ghosts-checkpointed : goal.ghosts-checkpointed
ghosts-checkpointed g a = record { fronts = a.opened.fronts; posts = a.opened.posts }
