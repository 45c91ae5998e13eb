use Rattle.std.proofs.Common.{◌≡◌, subst, codes}
use Rattle.std.specs.Prelude.{Ok}
use Rattle.certificate.specs.Places.{place}
use Rattle.certificate.specs.Reader.{Place, each_at, faulty}
use Rattle.certificate.proofs.ReadLemmas.{proofs_begun}
use Rattle.certificate.proofs.TextTakes.{front_takes, flaw_takes}
use Rattle.certificate.proofs.read.front.Goals as goal

pub returns-in_ok-proof_lines-in-112-clause-read :
    goal.returns-in_ok-proof_lines-in-112-clause-read
returns-in_ok-proof_lines-in-112-clause-read c text begins =
    let version = subst (λ (p : Place). each_at (codes "cert 1\n") p ≡ Ok (place c.each.new.self)) begins c.in_ok-each.ensures.read in
    proofs_begun text (place c.each.new.self) (place c.take.new.self) c.in_ok-proof_lines-in-112.field-0 version (rw (← c.in-112.is) c.in_ok-take.ensures.read) c.in_ok-proof_lines-in-112.ensures.read c.in_ok-proof_lines-in-112.ensures.none_seen

pub returns-in_ok-pair-in-102-clause-read : goal.returns-in_ok-pair-in-102-clause-read
returns-in_ok-pair-in-102-clause-read c text begins =
    let version = subst (λ (p : Place). each_at (codes "cert 1\n") p ≡ Ok (place c.each.new.self)) begins c.in_ok-each.ensures.read in
    let front = front_takes text (place c.each.new.self) (102, place c.take.new.self) version (rw (← c.in-102.is) c.in_ok-take.ensures.read) in
    let fault = c.in_ok-pair-in-102.fault in
    flaw_takes text (place c.take.new.self) (faulty c.in_ok-pair-in-102.pair fault.wire.items fault.first fault.second) front c.in_ok-pair-in-102.ensures.read
