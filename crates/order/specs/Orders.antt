-- Who wins each pair of a plan, as a value and as a report.
use Rattle.std.specs.Prelude.{◌≡◌, ℕ, Option, List}
use Rattle.arbitration.specs.declared.spans.Outcomes.{Outcomes}
use Rattle.order.specs.declared.orders.Order.{Order}
use Rattle.order.specs.Lines.{order_lines}
use Rattle.order.specs.Totals.{totals_of}
use Rattle.order.specs.Ways.{AreWays}
use Rattle.plan_core.specs.Contents.{Contents}
use Rattle.plan_core.specs.Pairs.{pairs_of}

-- the pairs of the plan, how each may end, and in how many each participant can win
pub record IsOrder (plan : Contents) (order : Order) : Type 0 where
  pub pairs : order.pairs.items ≡ pairs_of plan
  pub ways : AreWays plan order.ways.items
  pub totals : order.totals.items ≡ totals_of plan order.ways.items

-- the report is due for the plan: a line for each pair, and then one for each participant that can win or lose
pub record OrderedPlan (plan : Contents) (report : List ℕ) : Type 0 where
  pub ways : List (Option Outcomes)
  pub right : AreWays plan ways
  pub lines : report ≡ order_lines plan (pairs_of plan) ways (totals_of plan ways)
