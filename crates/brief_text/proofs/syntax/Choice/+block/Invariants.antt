use Rattle.brief_text.proofs.syntax.Choice.+block.Given as goal

abbrev pub decreases-block : goal.decreases-block
decreases-block l = l.power
