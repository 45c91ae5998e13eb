-- What a plan holds.
use Rattle.plan_core.specs.declared.plans.Plan.{Plan}
use Rattle.plan_core.specs.Contents.{Contents}
use Rattle.plan_core.specs.Parts.{contents_of}

unfoldable pub plan_contents : Plan → Contents
plan_contents plan =
    contents_of plan.messages.entries plan.controllers.entries plan.interrupts.entries plan.nevers.items
