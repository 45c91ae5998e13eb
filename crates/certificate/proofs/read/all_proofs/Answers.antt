use Rattle.std.proofs.Common.{List, Option, ap, map, sym, subst, ◌∙◌, [], ◌∷◌}
use Rattle.std.specs.Prelude.{IfSome, IfNone}
use Rattle.std.proofs.lemmas.List.{map-append}
use Rattle.std.proofs.lemmas.Result.{err_from_is_err_and}
use Rattle.certificate.specs.declared.values.Cert.{Cert}
use Rattle.certificate.specs.Proofs.{ProofTree, proof_tree}
use Rattle.certificate.specs.Reading.{ReadSoFar, AddsProof, EndsHere}
use Rattle.certificate.proofs.read.all_proofs.Goals as goal

pub returns-in_err-proof-clause-refused : goal.returns-in_err-proof-clause-refused
returns-in_err-proof-clause-refused c =
    let p = err_from_is_err_and c.from_residual.result c.from_residual.ensures.1 in
    rw (p.1, p.2) (λ text so_far. c.in_err-proof.ensures.refused text _ (c.loop-proofs.invariant text so_far))

pub loop-proofs-preserved : goal.loop-proofs-preserved
loop-proofs-preserved c text so_far =
    let items = c.loop-proofs.proofs.items in
    let added = subst (λ (o : Option Cert). IfSome o (λ it. AddsProof it c.loop-proofs.lines c.next_proof.new.self)) c.in-Some.is c.in_ok-proof.ensures.read in
    let more = ap (map proof_tree) c.in_ok-push.ensures.items ∙ map-append proof_tree items (c.in-Some.proof ∷ []) in
    subst (λ (ts : List ProofTree). ReadSoFar text ts c.next_proof.new.self) (sym more) (added text (map proof_tree items) (c.loop-proofs.invariant text so_far))

pub returns-clause-read : goal.returns-clause-read
returns-clause-read c text so_far =
    let end = subst (λ (o : Option Cert). IfNone o (EndsHere c.loop-proofs.lines)) c.in_default.is c.in_ok-proof.ensures.end in
    end text (map proof_tree c.loop-proofs.proofs.items) (c.loop-proofs.invariant text so_far)
