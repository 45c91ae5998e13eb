use Rattle.lessons.proofs.fitting.+after_levels.Given as goal

-- the levels that are left
abbrev pub decreases-after_levels : goal.decreases-after_levels
decreases-after_levels l = l.count
