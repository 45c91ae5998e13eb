use Rattle.std.proofs.Common.{◌+◌, sym, ap, ◌∙◌}
use Rattle.pair_queue.proofs.ReturnLemmas.{each_once}
use Rattle.pair_queue.proofs.StepLemmas.{counts}
use Rattle.pair_queue.proofs.settling.count.Goals as goal

pub len_as-requires : goal.len_as-requires
len_as-requires c =
    let back = c.take_back-deque.ensures in
    counts _ _ back.live (back.parts ∙ ap (λ n. n + 1) c.requires.all ∙ sym back.all) (back.marks c.requires.ended)

pub returns : goal.returns
returns c = each_once c.args.owner c.args.thieves.items _ c.take_back-deque.ensures c.len_as.ensures.rule.2
