use Rattle.std.proofs.Common.{List, map, reverse, sym, ap, ◌∙◌, arith}
use Rattle.std.proofs.lemmas.List.{map_push}
use Rattle.certificate.specs.Proofs.{proof_tree}
use Rattle.pair_walk.specs.declared.walk_pair.Verdict.{Verdict}
use Rattle.verdicts.specs.Certificates.{certificate_for}
use Rattle.verdicts.proofs.CertificateLemmas.{with_proofs, with_proofs-none, taken, taken_safe, taken_unsafe, none_left}
use Rattle.verdicts.proofs.tables.Table.certify.Goals as goal

pub loop-pair-preserved : goal.loop-pair-preserved
loop-pair-preserved c =
    let trees = map proof_tree c.loop-pair.proofs.items in
    let left = taken trees c.loop-pair.verdicts.items c.pop.new.self.items c.in-Some.field-0 (certificate_for c.args.self.verdicts.items) c.in-Some.ensures.items c.loop-pair.invariant.so_far in
    record {
      so_far = ap (λ ts. with_proofs ts (certificate_for (reverse c.pop.new.self.items))) (ap (map proof_tree) c.push_reserved.ensures.items ∙ map_push proof_tree c.loop-pair.proofs.items c.in-Safe.proof)
          ∙ taken_safe trees c.pop.new.self.items c.in-Some.field-0 c.in-Safe.proof (certificate_for c.args.self.verdicts.items) c.in-Safe.is left;
      room = omega (arith, c.push_reserved.ensures.len, c.push_reserved.ensures.capacity, c.in-Some.ensures.cases, c.loop-pair.invariant.room);
    }

pub returns-in-Unsafe-clause-certificate : goal.returns-in-Unsafe-clause-certificate
returns-in-Unsafe-clause-certificate c =
    let trees = map proof_tree c.loop-pair.proofs.items in
    let left = taken trees c.loop-pair.verdicts.items c.pop.new.self.items c.in-Some.field-0 (certificate_for c.args.self.verdicts.items) c.in-Some.ensures.items c.loop-pair.invariant.so_far in
    taken_unsafe trees c.pop.new.self.items c.in-Some.field-0 c.in-Unsafe.fault (certificate_for c.args.self.verdicts.items) c.in-Unsafe.is left

pub returns-clause-certificate : goal.returns-clause-certificate
returns-clause-certificate c =
    let trees = map proof_tree c.loop-pair.proofs.items in
    let none = none_left c.loop-pair.verdicts.items (omega (arith, c.in_default.ensures.cases, c.loop-pair.verdicts.ok.0)) in
    sym (with_proofs-none trees) ∙ sym (ap (λ (vs : List Verdict). with_proofs trees (certificate_for (reverse vs))) none) ∙ c.loop-pair.invariant.so_far
