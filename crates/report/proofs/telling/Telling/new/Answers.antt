use Rattle.std.proofs.Common.{List, ℕ, [], sym, subst}
use Rattle.report.specs.CaptureLines.{Tells, no_transaction}
use Rattle.report.proofs.telling.Telling.new.Goals as goal

pub returns : goal.returns
returns c = λ plan. subst (λ (lines : List ℕ). Tells plan [] (record { lines = lines; stopped = 0; unexplained = 0 })) (sym c.new.ensures.bytes) no_transaction
