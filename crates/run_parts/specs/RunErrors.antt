-- A refusal of a text, of a dump, and of a bench, as that of a run.
use Rattle.plan_text.specs.declared.briefs.NoBrief.{NoBrief}
use Rattle.plan_text.specs.declared.briefs.NoBrief.TheVariants as brief
use Rattle.run_errors.specs.declared.benches.OpenError.{OpenError}
use Rattle.run_errors.specs.declared.benches.OpenError.TheVariants as opening
use Rattle.plan_text.specs.declared.errors.PlanError.{PlanError}
use Rattle.plan_text.specs.declared.errors.PlanError.TheVariants as plan
use Rattle.run_parts.specs.declared.errors.RunError.{RunError}
use Rattle.run_parts.specs.declared.errors.RunError.TheVariants.{Plan, Brief, Vcd, Bench, NoMemory}
use Rattle.run_errors.specs.declared.dumps.VcdError.{VcdError}
use Rattle.run_errors.specs.declared.dumps.VcdError.TheVariants as vcd

-- the same refusal; out of memory has no place in the text
abbrev pub run_error : PlanError → RunError
run_error plan.NoMemory = NoMemory
run_error e = Plan e

-- where a plan has no brief
abbrev pub brief_error : NoBrief → RunError
brief_error brief.NoMemory = NoMemory
brief_error e = Brief e

-- where a dump is refused
abbrev pub vcd_error : VcdError → RunError
vcd_error vcd.NoMemory = NoMemory
vcd_error e = Vcd e

-- where no bench is opened
abbrev pub open_error : OpenError → RunError
open_error opening.NoMemory = NoMemory
open_error e = Bench e
