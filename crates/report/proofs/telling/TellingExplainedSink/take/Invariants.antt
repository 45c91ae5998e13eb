use Rattle.std.proofs.Common.{List, ◌++◌, map, take}
use Rattle.plan_core.specs.PlanContents.{plan_contents}
use Rattle.capture_check.specs.Transactions.{Recorded}
use Rattle.capture_check.specs.Views.{recorded}
use Rattle.report.specs.CaptureLines.{Tells}
use Rattle.report.specs.CaptureViews.{tally_of}
use Rattle.report.proofs.telling.TellingExplainedSink.take.Given as goal

-- the lines of the first transactions are there
abbrev pub invariant-loop-k : goal.invariant-loop-k
invariant-loop-k l = (ts : List Recorded) → Tells (plan_contents l.plan) ts (tally_of l.initial.self) → Tells (plan_contents l.plan) (ts ++ map recorded (take l.k l.transactions)) (tally_of l.self)
