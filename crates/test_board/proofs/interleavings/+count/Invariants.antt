use Rattle.test_board.proofs.interleavings.+count.Given as goal

-- how many more events a run may have
abbrev pub decreases-count : goal.decreases-count
decreases-count l = l.left
