use Rattle.std.proofs.Common.{◌++◌, List, ℕ, ap, ◌∙◌, lit<}
use Rattle.std.specs.Prelude.{string_bytes}
use Rattle.certificate.specs.Proofs.{proof_tree}
use Rattle.certificate.specs.Texts.{proof_text}
use Rattle.certificate.proofs.PrintLemmas.{line_more, line_less}
use Rattle.certificate.proofs.print.line.Goals as goal

pub loop-next-smaller : goal.loop-next-smaller
loop-next-smaller c =
    line_less c.loop-next.pending.items c.pop.new.self.items c.node-in-Some.new.pending.items c.in-Some.next c.in-Some.ensures.items c.in_ok-node-2.ensures.less

pub loop-next-preserved : goal.loop-next-preserved
loop-next-preserved c =
    line_more c.loop-next.pending.items c.pop.new.self.items c.node-in-Some.new.pending.items c.in-Some.next c.in-Some.ensures.items
    (string_bytes c.args.text.now ++ proof_text (proof_tree c.args.proof.now)) (string_bytes c.loop-next.text) (string_bytes c.push.new.self) (string_bytes c.node-in-Some.new.text) c.loop-next.invariant (c.in_ok-push.ensures.bytes ∙ ap (λ (b : List ℕ). string_bytes c.loop-next.text ++ b) (c.push.ensures.ascii (lit< tt))) c.in_ok-node-2.ensures.writes
