use Rattle.std.proofs.Common.{◌<◌, ◌+◌, ◌-◌, length, arith, ap, sym, ◌∙◌, Some}
use Rattle.std.proofs.lemmas.List.{get_or_default}
use Rattle.plan_core.proofs.PlanLemmas.{HoldsPair, HoldsPair-pair, holds_pair, limits_of, partners_few, pair_count_is, table_of}
use Rattle.plan_core.proofs.ContentsLemmas.{participant_count-few}
use Rattle.plan_core.proofs.PairLemmas.{AreRows-ordered, AreRows-some}
use Rattle.plan_core.proofs.plans.Plan.pair.Goals as goal
use Rattle.plan_core.proofs.plans.Plan.pair.Goals.{After-index-row}

some : (c : goal.After-deref) → 0 < length c.args.self.now.pairs.rows.items
some c = AreRows-some _ _ _ _ _ (table_of c.args.self.now) c.args.i (omega (arith, pair_count_is c.args.self.now, c.requires))

pub last_begun-x-requires-clause-ordered : goal.last_begun-x-requires-clause-ordered
last_begun-x-requires-clause-ordered c = rw c.deref.ensures.value (AreRows-ordered _ _ _ _ _ (table_of c.args.self.now))

pub last_begun-x-requires-clause-some : goal.last_begun-x-requires-clause-some
last_begun-x-requires-clause-some c = rw c.deref.ensures.value (some c)

pub last_begun-x-requires-clause-zero : goal.last_begun-x-requires-clause-zero
last_begun-x-requires-clause-zero c = rw c.deref.ensures.value (λ d. ((table_of c.args.self.now).row 0 d (omega (arith, some c, (table_of c.args.self.now).sized))).first)

pub index-row-requires : goal.index-row-requires
index-row-requires c = omega (arith, c.last_begun-x.ensures.within, c.deref.ensures.len)

-- the row holds the pair
holds : (c : After-index-row) → HoldsPair c.args.self.now c.args.i c.last_begun-x.result c.index-row.result.now
holds c = holds_pair c.args.self.now c.args.i c.last_begun-x.result c.deref.result.now c.index-row.result.now c.deref.ensures.value c.requires c.last_begun-x.ensures.within c.last_begun-x.ensures.begun c.last_begun-x.ensures.last c.index-row.ensures

pub overflow_sub-i : goal.overflow_sub-i
overflow_sub-i c = (holds (goal.at.overflow_sub-i c).After-index-row).from

pub overflow_add-row : goal.overflow_add-row
overflow_add-row c =
    let h = holds (goal.at.overflow_add-row c).After-index-row in
    omega (arith, h.from, h.to, h.is.within, partners_few c.args.self.now)

pub index-y-requires : goal.index-y-requires
index-y-requires c =
    let h = holds (goal.at.index-y-requires c).After-index-row in
    omega (arith, h.from, h.to, h.is.within, c.args.self.now.pairs.partners.ok.0)

pub overflow_cast-result : goal.overflow_cast-result
overflow_cast-result c =
    let h = holds (goal.at.overflow_cast-result c).After-index-row in
    omega (arith, h.within, participant_count-few _ (limits_of c.args.self.now))

pub returns : goal.returns
returns c =
    let h = holds (goal.at.returns c).After-index-row in
    let row = c.index-row.result.now in
    let place : row.partners + (c.args.i - row.first) < length c.args.self.now.pairs.partners.items = omega (arith, h.from, h.to, h.is.within) in
    HoldsPair-pair c.args.self.now c.args.i c.last_begun-x.result row h ∙ ap (λ y. Some (c.last_begun-x.result, y)) (get_or_default c.args.self.now.pairs.partners.items _ 0 c.index-y.result.now place ∙ sym c.index-y.ensures)
