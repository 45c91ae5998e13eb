use Rattle.std.proofs.Common.{◌++◌, ℕ, List, sym, ap, ◌∙◌, append-nil, arith}
use Rattle.std.proofs.lemmas.List.{drop_all}
use Rattle.verdicts.specs.Texts.{lines_after_head, text_of, joined}
use Rattle.verdicts.proofs.ProofLines.{line_goes_on}
use Rattle.verdicts.proofs.texts.CertificateLines.joined.Goals as goal

pub loop-k-preserved : goal.loop-k-preserved
loop-k-preserved c =
    let it = c.args.self.now in
    line_goes_on c.loop-k.text.items c.extend_from_slice-in-loop-k.new.self.items (lines_after_head it) c.loop-k.k c.line.result.now (text_of it) c.loop-k.invariant c.line.ensures c.in_ok-extend_from_slice-2.ensures.items

pub returns : goal.returns
returns c =
    let text = c.loop-k.text.items in
    let none = drop_all c.loop-k.k (lines_after_head c.args.self.now) (omega (arith, c.loop-k-test.false, c.len-k-end.ensures)) in
    sym (append-nil text) ∙ (sym (ap (λ (ls : List (List ℕ)). text ++ joined ls) none) ∙ c.loop-k.invariant)
