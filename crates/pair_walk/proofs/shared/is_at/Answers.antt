use Rattle.std.proofs.Common.{◌≡◌, length, Some, ap, ◌∙◌, refl, arith, slice_get}
use Rattle.std.proofs.lemmas.Option.{slice_get_read}
use Rattle.pair_walk.specs.declared.shared.Node.{Node}
use Rattle.pair_walk.proofs.SharedLemmas.{on_true}
use Rattle.pair_walk.proofs.shared.is_at.Goals as goal

pub returns-then-k-nodes : goal.returns-then-k-nodes
returns-then-k-nodes c =
    let nodes = c.args.nodes.now in
    let got = slice_get_read nodes (length nodes) c.args.k c.index-nodes-k.result refl (omega arith) c.index-nodes-k.is in
    on_true c.are_equal.result (c.index-nodes-k.result ≡ c.args.node) (slice_get nodes c.args.k ≡ Some c.args.node) (λ e. got ∙ ap (λ (n : Node). Some n) e) c.are_equal.ensures
