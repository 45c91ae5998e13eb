use Rattle.std.proofs.Common.{◌≡◌, ◌++◌, ℕ, List, ap, ◌∙◌, append-nil, arith}
use Rattle.plan_core.specs.PlanContents.{plan_contents}
use Rattle.verdicts.specs.Faults.{fault_list}
use Rattle.verdicts.specs.Texts.{lines_at, joined}
use Rattle.verdicts.proofs.FaultLemmas.{safe_without_faults}
use Rattle.verdicts.proofs.ProofLines.{flaw_written}
use Rattle.verdicts.proofs.certificates.certificate_lines.Goals as goal

pub lines_of_proofs-requires : goal.lines_of_proofs-requires
lines_of_proofs-requires c =
    safe_without_faults (plan_contents c.args.plan.now) (fault_list c.args.faults.now) c.requires (omega (arith, c.len.ensures, c.if-len-eq0.true))

pub returns : goal.returns
returns c =
    let plan = plan_contents c.args.plan.now in
    let head = c.in_ok-head.head.items in
    let order = c.new-2.result.items in
    let alone : head ++ joined (lines_at c.new.result.items order) ≡ head =
    ap (λ (ks : List ℕ). head ++ joined (lines_at c.new.result.items ks)) c.new-2.ensures.items ∙ append-nil head in
    flaw_written plan (fault_list c.args.faults.now) c.get-pair.result.0 c.get-pair.result.1.now (head ++ joined (lines_at c.new.result.items order)) c.requires c.get-pair.ensures (alone ∙ c.in_ok-head.ensures)
