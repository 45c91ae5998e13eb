use Rattle.std.proofs.Common.{◌++◌, string_bytes, append-nil, ap, sym, ◌∙◌, arith}
use Rattle.order.proofs.LineLemmas.{no_pair_left}
use Rattle.order.proofs.lines.push_pairs.Goals as goal

pub returns : goal.returns
returns c plan labels =
    let report = string_bytes c.loop-k.report in
    let none = no_pair_left plan c.args.pairs.now c.args.ways.now c.loop-k.k c.loop-k.k (omega (arith, c.min-k-end.ensures)) in
    sym (append-nil report) ∙ (ap (λ t. string_bytes c.loop-k.report ++ t) (sym none) ∙ c.loop-k.invariant plan labels)
