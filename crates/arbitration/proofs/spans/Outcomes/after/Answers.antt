use Rattle.arbitration.specs.Ways.{both_end, first_wins, second_wins}
use Rattle.arbitration.proofs.spans.Outcomes.after.Goals as goal

pub after-requires : goal.after-requires
after-requires c = c.requires both_end

pub after-requires-2 : goal.after-requires-2
after-requires-2 c = c.requires first_wins

pub after-requires-3 : goal.after-requires-3
after-requires-3 c = c.requires second_wins
