use Rattle.brief_text.proofs.syntax.Choice.+count.Given as goal

abbrev pub decreases-count : goal.decreases-count
decreases-count l = l.power
