-- How many bytes a controller reads: any number from the least to the greatest. It ends the read by not acknowledging
-- the last (UM10204, 3.1.6).
use Rattle.std.specs.Prelude.{ℕ, ◌≤◌}
use Rattle.message_tree.specs.declared.counts.Count.{Count}

abbrev pub least_of : Count → ℕ
least_of c = c.least

abbrev pub greatest_of : Count → ℕ
greatest_of c = c.greatest

-- n lies in the range
abbrev pub InRange : Count → ℕ → Type 0
InRange c n = (least_of c ≤ n) × (n ≤ greatest_of c)

-- some number lies in both ranges
abbrev pub Meet : Count → Count → Type 0
Meet c d = (n : ℕ) × InRange c n × InRange d n
