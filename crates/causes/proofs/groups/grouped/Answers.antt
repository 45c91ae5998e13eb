use Rattle.std.proofs.Common.{ℕ, List, length, ap, sym, subst, ◌∙◌}
use Rattle.causes.specs.Orders.{AreCounts, AreGroupsAt}
use Rattle.causes.proofs.GroupLemmas.{order_within, grouped}
use Rattle.causes.proofs.groups.grouped.Goals as goal

pub groups_at-requires-clause-causes : goal.groups_at-requires-clause-causes
groups_at-requires-clause-causes c =
    let o = c.requires in
    order_within c.args.causes.now o.wires c.args.order.now o.whole o.sorted

pub groups_at-requires-clause-places : goal.groups_at-requires-clause-places
groups_at-requires-clause-places c = rw c.as_slice-2.ensures.value (c.in_ok-places.ensures.1.below)

pub returns : goal.returns
returns c wires same ord =
    let found = c.in_ok-places.ensures in
    let places = c.in_ok-places.places.items in
    let numbers = c.in_ok-places.numbers.items in
    let counts = c.in_ok-counts.counts.items in
    let groups = c.in_ok-groups.groups.items in
    let count_of = subst (λ (xs : List ℕ). AreCounts c.len.result xs (length xs) counts) c.as_slice.ensures.value c.in_ok-counts.ensures in
    let many = c.len.ensures ∙ (sym c.as_slice-2.ensures.len ∙ ap length c.as_slice-2.ensures.value) in
    let counted = subst (λ (n : ℕ). AreCounts n numbers (length numbers) counts) many count_of in
    let at_places = subst (λ (xs : List ℕ). AreGroupsAt c.args.causes.now c.args.order.now xs c.as_slice-3.result.now (length xs) groups) c.as_slice-2.ensures.value c.in_ok-groups.ensures in
    let at = subst (λ (xs : List ℕ). AreGroupsAt c.args.causes.now c.args.order.now places xs (length places) groups) c.as_slice-3.ensures.value at_places in
    grouped c.args.causes.now wires c.args.order.now found.0 places same ord found.1 numbers counts groups found.2 counted at
