use Rattle.std.proofs.Common.{◌≡◌, drop}
use Rattle.lessons.specs.Lessons.{unmarked}
use Rattle.lessons.proofs.checking.has_all.Given as goal

-- those that are left are not marked as the rest says
abbrev pub invariant-loop-number : goal.invariant-loop-number
invariant-loop-number l = unmarked l.had l.sights ≡ unmarked (drop l.number l.had) (drop l.number l.sights)
