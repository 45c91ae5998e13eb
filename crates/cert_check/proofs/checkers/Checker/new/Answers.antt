use Rattle.std.proofs.Common.{[], refl, sym}
use Rattle.plan_core.specs.PlanContents.{plan_contents}
use Rattle.cert_check.proofs.checkers.Checker.new.Goals as goal

pub returns-clause-fed : goal.returns-clause-fed
returns-clause-fed c = record { before = []; judged = (refl, c.new-2.ensures (plan_contents c.args.plan.now)); all = sym c.new.ensures.items }
