use Rattle.std.proofs.Common.{◌≡◌, ◌+◌, ◌≤◌, map, reverse, vec_len, vec_capacity}
use Rattle.certificate.specs.Proofs.{proof_tree}
use Rattle.verdicts.specs.Certificates.{certificate_for}
use Rattle.verdicts.proofs.CertificateLemmas.{with_proofs}
use Rattle.verdicts.proofs.tables.Table.certify.Given as goal

abbrev pub invariant-loop-pair : goal.invariant-loop-pair
invariant-loop-pair l = record {
  so_far : with_proofs (map proof_tree l.proofs.items) (certificate_for (reverse l.verdicts.items)) ≡ certificate_for l.fn.self.verdicts.items;
  room : vec_len l.proofs + vec_len l.verdicts ≤ vec_capacity l.proofs;
}

abbrev pub decreases-loop-pair : goal.decreases-loop-pair
decreases-loop-pair l = vec_len l.verdicts
