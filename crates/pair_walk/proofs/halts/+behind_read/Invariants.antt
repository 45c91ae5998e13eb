use Rattle.pair_walk.proofs.halts.+behind_read.Given as goal

abbrev pub decreases-behind_read : goal.decreases-behind_read
decreases-behind_read l = l.more
