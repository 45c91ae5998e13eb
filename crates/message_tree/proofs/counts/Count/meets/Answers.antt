use Rattle.std.proofs.Common.{max, arith}
use Rattle.std.proofs.lemmas.Bool.Decides.{nat_tests}
use Rattle.message_tree.proofs.counts.Count.meets.Goals as goal

pub returns-then-other-self : goal.returns-then-other-self
returns-then-other-self c = (
  (λ meets. (max c.args.self.now.least c.args.other.now.least, (omega arith, grind (arith, nat_tests)), (omega arith, grind (arith, nat_tests)))),
  (λ (n, own, others). grind (arith, nat_tests)),
)
