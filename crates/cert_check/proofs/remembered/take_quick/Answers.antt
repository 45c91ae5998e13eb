use Rattle.std.proofs.Common.{ℕ, List, take, subst}
use Rattle.certificate.specs.Texts.{SpellsLine}
use Rattle.cert_check.proofs.remembered.take_quick.Goals as goal

pub returns-clause-read : goal.returns-clause-read
returns-clause-read c =
    let it = c.in_ok-size.ensures.proved in
    (it.0, it.2, c.take_line.ensures.read it.0 (subst (λ (t : List ℕ). SpellsLine (take c.in_ok-size.size t) it.0) c.rest.ensures it.1))
