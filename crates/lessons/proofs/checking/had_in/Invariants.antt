use Rattle.std.proofs.Common.{◌≡◌, All, length, map, take}
use Rattle.plan_core.specs.PlanContents.{plan_contents}
use Rattle.lessons.specs.Lessons.{marked, path_seen}
use Rattle.lessons.specs.Plans.{HasPath}
use Rattle.lessons.proofs.checking.had_in.Given as goal

-- those so far
abbrev pub invariant-loop-number : goal.invariant-loop-number
invariant-loop-number l = record {
  length : length l.had.items ≡ l.number;
  has : All (HasPath (plan_contents l.plan)) (map path_seen (marked l.had.items (take l.number l.sights)));
}
