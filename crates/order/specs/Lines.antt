-- The lines of a report on who wins.
use Rattle.std.specs.Prelude.{ℕ, ◌+◌, ◌==◌, ◌&&◌, Option, Some, None, List, [], ◌∷◌, ◌++◌, codes, if◌then◌else◌}
use Rattle.std.specs.Fmt.{decimal}
use Rattle.std.specs.List.{join_by}
use Rattle.arbitration.specs.declared.spans.Outcomes.{Outcomes}
use Rattle.arbitration.specs.declared.spans.Slots.{Slots}
use Rattle.order.specs.declared.totals.Total.{Total}
use Rattle.plan_core.specs.Contents.{Contents}
use Rattle.plan_core.specs.Labels.{label_of}

-- SLOTS: the earliest and the latest one, or the one
unfoldable pub slots_text : Slots → List ℕ
slots_text slots =
    if slots.earliest == slots.latest
    then decimal slots.earliest
    else decimal slots.earliest ++ (codes ".." ++ decimal slots.latest)

-- WHO SLOTS, where it can happen
abbrev pub way_texts : List ℕ → Option Slots → List (List ℕ)
way_texts who None = []
way_texts who (Some slots) = (who ++ (codes " " ++ slots_text slots)) ∷ []

-- `both`, the first and the second, joined by a comma and a blank; or `unsafe`
unfoldable pub ways_text : List ℕ → List ℕ → Option Outcomes → List ℕ
ways_text first second None = codes "unsafe"
ways_text first second (Some outcomes) =
    join_by (λ (text : List ℕ). text) (codes ", ")
    (way_texts (codes "both") outcomes.both ++ (way_texts first outcomes.first ++ way_texts second outcomes.second))

-- pair I X Y: WAYS, or pair I X Y: unsafe
unfoldable pub pair_text : ℕ → List ℕ → List ℕ → Option Outcomes → List ℕ
pair_text i first second way =
    codes "pair " ++ (decimal i ++ (codes " " ++ (first ++ (codes " " ++ (second ++ (codes ": " ++
    (ways_text first second way ++ codes "\n")))))))

-- a line for each of these pairs, of which the first has number i
abbrev pub pair_lines : Contents → ℕ → List (ℕ × ℕ) → List (Option Outcomes) → List ℕ
pair_lines plan i (p ∷ pairs) (way ∷ ways) =
    pair_text i (label_of plan p.0) (label_of plan p.1) way ++ pair_lines plan (i + 1) pairs ways
pair_lines plan i _ _ = []

abbrev pub counts_text : Total → List ℕ
counts_text total =
    codes ": wins " ++ (decimal total.wins ++ (codes ", may win " ++ (decimal total.may_win ++
    (codes ", loses " ++ (decimal total.loses ++ codes "\n")))))

-- total X: wins W, may win M, loses L; nothing where all three are 0
unfoldable pub total_text : List ℕ → Total → List ℕ
total_text label total =
    if total.wins == 0 && (total.may_win == 0 && total.loses == 0)
    then []
    else codes "total " ++ (label ++ counts_text total)

-- those of the participants from p on
abbrev pub total_lines : Contents → ℕ → List Total → List ℕ
total_lines plan p [] = []
total_lines plan p (total ∷ totals) = total_text (label_of plan p) total ++ total_lines plan (p + 1) totals

abbrev pub order_lines : Contents → List (ℕ × ℕ) → List (Option Outcomes) → List Total → List ℕ
order_lines plan pairs ways totals = pair_lines plan 0 pairs ways ++ total_lines plan 0 totals
