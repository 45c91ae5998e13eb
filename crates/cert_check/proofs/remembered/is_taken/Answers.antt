use Rattle.cert_check.proofs.remembered.is_taken.Goals as goal

pub returns-in-Some-clause-taken : goal.returns-in-Some-clause-taken
returns-in-Some-clause-taken c = λ taken.
    let it = c.in-Some.ensures in (it.0, it.2, c.takes_again.ensures.read taken it.0 it.1)
