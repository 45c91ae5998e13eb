use Rattle.spellings.proofs.SpelledBriefs.{written_means}
use Rattle.spellings.proofs.laws.briefs_are_written.Goals as goal

pub returns : goal.returns
returns c = written_means
