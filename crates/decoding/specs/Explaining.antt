-- What is known of a sink that hands transactions on with those who explain each.
use Rattle.std.specs.Prelude.{◌≡◌, ◌⊎◌}
use Rattle.plan_core.specs.Contents.{Contents}
use Rattle.plan_core.specs.PlanContents.{plan_contents}
use Rattle.decoding.specs.Sinks.{Sink}
use Rattle.decoding.specs.declared.sinks.Explaining.{Explaining}
use Rattle.run_parts.specs.declared.errors.RunError.TheVariants.{NoMemory}

-- the next sink takes them under the plan, which stays; or memory runs out before it is called, or it stops
abbrev pub explaining_sink : {R S : Type 0} → (Contents → Sink S) → Sink (Explaining R S)
explaining_sink sink = record {
  takes = λ before ts after.
      (after.plan ≡ before.plan) × (sink (plan_contents before.plan.now)).takes before.sink ts after.sink;
  stops = λ before ts error after.
      (after.plan ≡ before.plan)
      × (((error ≡ NoMemory) × (after.sink ≡ before.sink))
      ⊎ (sink (plan_contents before.plan.now)).stops before.sink ts error after.sink);
}
