use Rattle.text_laws.proofs.BriefHeads.{brief_laid_out, head_exact}
use Rattle.text_laws.proofs.Heads.{plan_laid_out}
use Rattle.text_laws.proofs.layouts.what_is_read_is_laid_out.Goals as goal

pub returns-clause-plans : goal.returns-clause-plans
returns-clause-plans c = plan_laid_out

pub returns-clause-briefs : goal.returns-clause-briefs
returns-clause-briefs c = brief_laid_out

pub returns-clause-heads : goal.returns-clause-heads
returns-clause-heads c = head_exact
