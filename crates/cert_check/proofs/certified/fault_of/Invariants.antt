use Rattle.std.proofs.Common.{map, take}
use Rattle.certificate.specs.Proofs.{proof_tree}
use Rattle.plan_core.specs.PlanContents.{plan_contents}
use Rattle.cert_check.specs.Judged.{Tallies}
use Rattle.cert_check.proofs.certified.fault_of.Given as goal

-- the tally of the proofs so far
abbrev pub invariant-loop-cert : goal.invariant-loop-cert
invariant-loop-cert l = Tallies (plan_contents l.plan) (map proof_tree (take l.cert-index l.certs)) l.tally
