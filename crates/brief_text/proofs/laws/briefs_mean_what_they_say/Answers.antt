use Rattle.brief_text.proofs.SaidLemmas.{said_meant, meant_said}
use Rattle.brief_text.proofs.laws.briefs_mean_what_they_say.Goals as goal

pub returns-clause-said : goal.returns-clause-said
returns-clause-said c = meant_said

pub returns-clause-meant : goal.returns-clause-meant
returns-clause-meant c = said_meant
