use Rattle.std.proofs.Common.{[], ◌∷◌, subst}
use Rattle.capture_check.specs.Views.{recorded}
use Rattle.capture_check.specs.declared.listening.Transaction.{Transaction}
use Rattle.lessons.specs.Seen.{Sees}
use Rattle.lessons.proofs.SeenLemmas.{sees_next}
use Rattle.lessons.proofs.seen.SightsTransactionSink.take.Goals as goal

pub loop-transaction-preserved : goal.loop-transaction-preserved
loop-transaction-preserved c =
    let ts = c.args.transactions.now in
    let i = c.loop-transaction.transaction-index in
    let b = c.loop-transaction.self in
    sees_next c.args.self.now b c.see.new.self ts i c.transaction-item.result c.loop-transaction-test.true c.loop-transaction.invariant
    (subst (λ (t : Transaction). Sees b (recorded t ∷ []) c.see.new.self) c.transaction-item.is c.in_ok-see.ensures)
