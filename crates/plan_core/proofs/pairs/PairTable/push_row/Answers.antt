use Rattle.std.proofs.Common.{◌≤◌, ◌+◌, ◌*◌, length, arith, ap, ◌∙◌, ◌++◌, ◌∷◌, []}
use Rattle.std.specs.Vec.{vec_items}
use Rattle.plan_core.specs.PairTables.{are_apart}
use Rattle.plan_core.proofs.PairLemmas.{AreRows-push, pairs_by-few, partners-few}
use Rattle.plan_core.proofs.pairs.PairTable.push_row.Goals as goal

pub overflow_add-self : goal.overflow_add-self
overflow_add-self c =
    let is_apart = are_apart c.args.nevers.now c.args.participants.now in
    let n = length c.args.participants.now in
    let most : c.args.x * n ≤ 544 * 544 = grind arith in
    omega (arith, pairs_by-few is_apart n c.args.x, partners-few is_apart n c.args.x, c.in_ok-row.ensures.row.len, c.make_row.ensures.count ∙ c.requires.below.pairs, most)

pub returns : goal.returns
returns c =
    AreRows-push (are_apart c.args.nevers.now c.args.participants.now) (length c.args.participants.now) c.args.x c.args.self.now.rows.items _ c.args.self.now.partners.items _ c.args.self.now.count _ c.in_ok-row.row c.requires.below c.in_ok-row.ensures.partners c.in_ok-row.ensures.row
    (c.in_ok-push.ensures.items ∙ ap (λ rows. vec_items rows ++ c.in_ok-row.row ∷ []) c.make_row.ensures.rows) (ap (λ n. n + c.in_ok-row.row.len) c.make_row.ensures.count)
