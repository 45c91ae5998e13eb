-- The lines of a report on a capture: one for each transaction, with the labels of those that explain it, and one that counts.
use Rattle.std.specs.Prelude.{ℕ, ◌+◌, List, [], ◌∷◌, ◌++◌, codes}
use Rattle.std.specs.Fmt.{decimal}
use Rattle.plan_core.specs.Contents.{Contents}
use Rattle.capture_check.specs.declared.listening.Until.{Until}
use Rattle.capture_check.specs.declared.listening.Until.TheVariants.{Stopped, Cut, Unfinished}
use Rattle.capture_check.specs.Explained.{AreExplainers}
use Rattle.capture_check.specs.Transactions.{Recorded}
use Rattle.run_parts.specs.Lines.{labels}

abbrev pub who : Contents → List ℕ → List ℕ
who plan [] = codes " unexplained"
who plan (p ∷ ps) = labels plan (p ∷ ps)

-- FROM-TO LABEL LABEL .., FROM-TO unexplained, FROM-AT cut or FROM- unfinished, by how the transaction ended
abbrev pub ending_text : Contents → Until → List ℕ → List ℕ
ending_text plan (Stopped time) ps = decimal time ++ who plan ps
ending_text plan (Cut time) ps = decimal time ++ codes " cut"
ending_text plan Unfinished ps = codes " unfinished"

abbrev pub capture_line : Contents → ℕ → Until → List ℕ → List ℕ
capture_line plan from until ps = decimal from ++ (codes "-" ++ (ending_text plan until ps ++ codes "\n"))

-- whether the transaction is counted
abbrev pub stopped : Until → ℕ
stopped (Stopped time) = 1
stopped _ = 0

-- whether it is counted as unexplained
abbrev pub unexplained : Until → List ℕ → ℕ
unexplained (Stopped time) [] = 1
unexplained _ ps = 0

-- what the lines of some transactions are, and the counts
pub record Tally : Type 0 where
  pub lines : List ℕ
  pub stopped : ℕ
  pub unexplained : ℕ

abbrev pub with_line : Contents → Tally → Recorded → List ℕ → Tally
with_line plan tally t ps = record {
  lines = tally.lines ++ capture_line plan t.from t.until ps;
  stopped = tally.stopped + stopped t.until;
  unexplained = tally.unexplained + unexplained t.until ps;
}

-- these transactions, in order, with those that explain each, make this tally
pub data Tells (plan : Contents) : List Recorded → Tally → Type 0 where
  no_transaction : Tells plan [] (record { lines = []; stopped = 0; unexplained = 0 })
  next_transaction : {ts : List Recorded} {tally : Tally} (t : Recorded) (ps : List ℕ) →
      Tells plan ts tally →
      AreExplainers plan t ps →
      Tells plan (ts ++ t ∷ []) (with_line plan tally t ps)

-- N transactions, U unexplained
abbrev pub count_line : ℕ → ℕ → List ℕ
count_line n u = decimal n ++ (codes " transactions, " ++ (decimal u ++ codes " unexplained\n"))

abbrev pub capture_report : Tally → List ℕ
capture_report tally = tally.lines ++ count_line tally.stopped tally.unexplained
