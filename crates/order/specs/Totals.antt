-- In how many pairs a participant can win.
use Rattle.std.specs.Prelude.{ℕ, Bool, false, not, ◌&&◌, ◌||◌, ◌==◌, Option, Some, None, is_some, List, map}
use Rattle.std.specs.List.{count_by, range_with_len, zip}
use Rattle.arbitration.specs.declared.spans.Outcomes.{Outcomes}
use Rattle.order.specs.declared.totals.Total.{Total}
use Rattle.plan_core.specs.Contents.{Contents}
use Rattle.plan_core.specs.Pairs.{pairs_of}
use Rattle.plan_core.specs.Participants.{participant_count}

-- two participants, and what is known of how they end
abbrev pub Meeting : Type 0
Meeting = (ℕ × ℕ) × Option Outcomes

abbrev pub first_can : Option Outcomes → Bool
first_can (Some outcomes) = is_some outcomes.first
first_can None = false

abbrev pub second_can : Option Outcomes → Bool
second_can (Some outcomes) = is_some outcomes.second
second_can None = false

-- p is one of the two, and can win
abbrev pub can_win : ℕ → Meeting → Bool
can_win p meeting = (meeting.0.0 == p && first_can meeting.1) || (meeting.0.1 == p && second_can meeting.1)

-- p is one of the two, and the other can win
abbrev pub can_lose : ℕ → Meeting → Bool
can_lose p meeting = (meeting.0.0 == p && second_can meeting.1) || (meeting.0.1 == p && first_can meeting.1)

-- in how many of these p alone can win, in how many either can, and in how many only the other
abbrev pub total_of : List Meeting → ℕ → Total
total_of meetings p = record {
  wins = count_by (λ m. can_win p m && not (can_lose p m)) meetings;
  may_win = count_by (λ m. can_win p m && can_lose p m) meetings;
  loses = count_by (λ m. can_lose p m && not (can_win p m)) meetings;
}

-- the totals of the participants below n
abbrev pub totals_below : ℕ → List Meeting → List Total
totals_below n meetings = map (total_of meetings) (range_with_len 0 n)

-- those of all participants, where the pairs of the plan end so
abbrev pub totals_of : Contents → List (Option Outcomes) → List Total
totals_of plan ways = totals_below (participant_count plan) (zip (pairs_of plan) ways)
