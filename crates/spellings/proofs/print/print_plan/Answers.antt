use Rattle.plan_core.proofs.PlanLemmas.{limits_of}
use Rattle.spellings.proofs.CanonicalSpelling.{read_back}
use Rattle.spellings.proofs.print.print_plan.Goals as goal

pub returns-clause-read_back : goal.returns-clause-read_back
returns-clause-read_back c = read_back c.print.result c.args.plan.now (limits_of c.args.plan.now) c.print.ensures
