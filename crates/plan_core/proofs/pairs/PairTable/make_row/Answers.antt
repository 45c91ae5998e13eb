use Rattle.std.proofs.Common.{◌<◌, ◌-◌, length, arith, ap, sym, ◌∙◌, subst, length-append}
use Rattle.plan_core.specs.declared.plans.Participant.TheVariants.{Sending}
use Rattle.plan_core.specs.Pairs.{partners_by}
use Rattle.plan_core.specs.PairTables.{are_apart, IsRow}
use Rattle.plan_core.proofs.PairLemmas.{IsRow-next_sending, IsRow-pushed, partners-few}
use Rattle.plan_core.proofs.pairs.PairTable.make_row.Goals as goal

pub returns-then-is_one_controller-clause-row : goal.returns-then-is_one_controller-clause-row
returns-then-is_one_controller-clause-row c =
    let nevers = c.args.nevers.now in
    let participants = c.args.participants.now in
    let all = c.args.self.now.partners.items in
    let last = c.index-last.result.now in
    let before : c.args.x - 1 < c.args.x = omega arith in
    let row = subst (IsRow (are_apart nevers participants) (length participants) all (c.args.x - 1)) (sym c.index-last.ensures) (c.requires.below.row (c.args.x - 1) last before) in
    IsRow-next_sending nevers participants all (c.args.x - 1) c.args.x (Sending 0 0) last _ (omega arith) c.requires.within row (sym c.is_one_controller.ensures ∙ c.if-is_one_controller.true) c.requires.below.pairs (λ i. last.len) (λ i. last.partners)

pub overflow_cast-result-2 : goal.overflow_cast-result-2
overflow_cast-result-2 c =
    let is_apart = are_apart c.args.nevers.now c.args.participants.now in
    let n = length c.args.participants.now in
    let size = ap length c.in_ok-push_partners.ensures ∙ length-append c.args.self.now.partners.items (partners_by is_apart n c.args.x) in
    omega (arith, size, partners-few is_apart n c.args.x)

pub returns-clause-partners : goal.returns-clause-partners
returns-clause-partners c =
    let is_apart = are_apart c.args.nevers.now c.args.participants.now in
    let n = length c.args.participants.now in
    record { more = partners_by is_apart n c.args.x; same = c.in_ok-push_partners.ensures; few = partners-few is_apart n c.args.x }

pub returns-clause-row : goal.returns-clause-row
returns-clause-row c =
    let is_apart = are_apart c.args.nevers.now c.args.participants.now in
    let n = length c.args.participants.now in
    let size = ap length c.in_ok-push_partners.ensures ∙ length-append c.args.self.now.partners.items (partners_by is_apart n c.args.x) in
    IsRow-pushed is_apart n c.args.self.now.partners.items _ c.args.x _ c.in_ok-push_partners.ensures c.requires.below.pairs (omega (arith, size)) (omega arith)
