-- What the plan in the making holds.
use Rattle.plan_core.specs.declared.builder.Builder.{Builder}
use Rattle.plan_core.specs.Contents.{Contents}
use Rattle.plan_core.specs.PlanContents.{plan_contents}

unfoldable pub builder_contents : Builder → Contents
builder_contents builder = plan_contents builder.plan
