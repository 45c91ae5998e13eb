use Rattle.std.proofs.Common.{◌++◌, List, ℕ, ap, ◌∙◌, lit<, rules}
use Rattle.std.specs.Prelude.{string_bytes}
use Rattle.certificate.specs.Proofs.{proof_tree}
use Rattle.certificate.proofs.PrintLemmas.{again_written, again_less, both_written, both_less}
use Rattle.certificate.proofs.print.node.Goals as goal

pub returns-in_ok-push-in-Again-2-clause-writes : goal.returns-in_ok-push-in-Again-2-clause-writes
returns-in_ok-push-in-Again-2-clause-writes c =
    rw c.in-Again.is (again_written (string_bytes c.args.text.now) (string_bytes c.push-in-Again.new.self) c.args.pending.now.items c.push-in-Again-2.new.self.items c.deref.result (proof_tree c.in-Again.frames.value) (c.in_ok-push-in-Again.ensures.bytes ∙ ap (λ (b : List ℕ). string_bytes c.args.text.now ++ b) (c.push-in-Again.ensures.ascii (lit< tt))) c.in_ok-push-in-Again-2.ensures.items (search rules))

pub returns-in_ok-push-in-Again-2-clause-less : goal.returns-in_ok-push-in-Again-2-clause-less
returns-in_ok-push-in-Again-2-clause-less c =
    rw c.in-Again.is (again_less c.args.pending.now.items c.push-in-Again-2.new.self.items c.deref.result (proof_tree c.in-Again.frames.value) c.in_ok-push-in-Again-2.ensures.items (search rules))

pub returns-in_ok-push-in-Byte-3-clause-writes : goal.returns-in_ok-push-in-Byte-3-clause-writes
returns-in_ok-push-in-Byte-3-clause-writes c =
    rw c.in-Byte.is (both_written c.args.pending.now.items c.push-in-Byte-2.new.self.items c.push-in-Byte-3.new.self.items c.deref-in-Byte-2.result c.deref-in-Byte.result (proof_tree c.in-Byte.acked.value) (proof_tree c.in-Byte.refused.value) c.in_ok-push-in-Byte-2.ensures.items c.in_ok-push-in-Byte-3.ensures.items (search rules) (search rules) (string_bytes c.args.text.now) (string_bytes c.push-in-Byte.new.self) 66 (c.in_ok-push-in-Byte.ensures.bytes ∙ ap (λ (b : List ℕ). string_bytes c.args.text.now ++ b) (c.push-in-Byte.ensures.ascii (lit< tt))))

pub returns-in_ok-push-in-Byte-3-clause-less : goal.returns-in_ok-push-in-Byte-3-clause-less
returns-in_ok-push-in-Byte-3-clause-less c =
    rw c.in-Byte.is (both_less c.args.pending.now.items c.push-in-Byte-2.new.self.items c.push-in-Byte-3.new.self.items c.deref-in-Byte-2.result c.deref-in-Byte.result (proof_tree c.in-Byte.acked.value) (proof_tree c.in-Byte.refused.value) c.in_ok-push-in-Byte-2.ensures.items c.in_ok-push-in-Byte-3.ensures.items (search rules) (search rules))

pub returns-in_ok-push-in-Read-3-clause-writes : goal.returns-in_ok-push-in-Read-3-clause-writes
returns-in_ok-push-in-Read-3-clause-writes c =
    rw c.in-Read.is (both_written c.args.pending.now.items c.push-in-Read-2.new.self.items c.push-in-Read-3.new.self.items c.deref-in-Read-2.result c.deref-in-Read.result (proof_tree c.in-Read.after.value) (proof_tree c.in-Read.refused.value) c.in_ok-push-in-Read-2.ensures.items c.in_ok-push-in-Read-3.ensures.items (search rules) (search rules) (string_bytes c.args.text.now) (string_bytes c.push-in-Read.new.self) 68 (c.in_ok-push-in-Read.ensures.bytes ∙ ap (λ (b : List ℕ). string_bytes c.args.text.now ++ b) (c.push-in-Read.ensures.ascii (lit< tt))))

pub returns-in_ok-push-in-Read-3-clause-less : goal.returns-in_ok-push-in-Read-3-clause-less
returns-in_ok-push-in-Read-3-clause-less c =
    rw c.in-Read.is (both_less c.args.pending.now.items c.push-in-Read-2.new.self.items c.push-in-Read-3.new.self.items c.deref-in-Read-2.result c.deref-in-Read.result (proof_tree c.in-Read.after.value) (proof_tree c.in-Read.refused.value) c.in_ok-push-in-Read-2.ensures.items c.in_ok-push-in-Read-3.ensures.items (search rules) (search rules))
