-- The plan that an accepted plan is.
use Rattle.plan_core.specs.declared.plans.Plan.{Plan}
use Rattle.cert_check.specs.declared.accepted.Accepted.{Accepted}

abbrev pub accepted_plan : Accepted → Plan
accepted_plan accepted = accepted.plan
