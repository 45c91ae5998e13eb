use Rattle.lessons.proofs.fitting.+after_read_bytes.Given as goal

-- the bytes that are left
abbrev pub decreases-after_read_bytes : goal.decreases-after_read_bytes
decreases-after_read_bytes l = l.count
