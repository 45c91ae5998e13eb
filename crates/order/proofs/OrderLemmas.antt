-- The value for a plan gives the report that is due for it.
use Rattle.std.proofs.Common.{◌≡◌, ◌∙◌, ℕ, ◌+◌, ◌<◌, ◌^◌, Some, List, [], ◌∷◌, ◌++◌, length, slice_get, take, ap, sym, arith}
use Rattle.std.proofs.lemmas.List.{take_more}
use Rattle.std.proofs.lemmas.Option.{get_or_from_slice_get, slice_get_within}
use Rattle.order.specs.Lines.{order_lines}
use Rattle.order.specs.Orders.{IsOrder, OrderedPlan}
use Rattle.order.specs.declared.orders.Order.{Order}
use Rattle.plan_core.specs.Contents.{Contents}
use Rattle.plan_core.specs.Pairs.{pairs_of}

pub due_order : (plan : Contents) (order : Order) (report : List ℕ) → IsOrder plan order → report ≡ order_lines plan order.pairs.items order.ways.items order.totals.items → OrderedPlan plan report
due_order plan order report right same = record {
  ways = order.ways.items;
  right = right.ways;
  lines = same
      ∙ (ap (λ ps. order_lines plan ps order.ways.items order.totals.items) right.pairs
      ∙ ap (order_lines plan (pairs_of plan) order.ways.items) right.totals);
}

-- one more is listed
pub next_taken : {X : Type 0} (xs : List X) (i : ℕ) (x : X) (before after : List X) → slice_get xs i ≡ Some x → before ≡ take i xs → after ≡ before ++ x ∷ [] → after ≡ take (i + 1) xs
next_taken xs i x before after at so_far e =
    e ∙ (ap (λ ys. ys ++ x ∷ []) so_far
    ∙ (ap (λ y. take i xs ++ y ∷ []) (sym (get_or_from_slice_get xs i x x at)) ∙ sym (take_more xs i x (slice_get_within xs i x at))))
