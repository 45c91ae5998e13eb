use Rattle.std.proofs.Common.{◌∙◌, ◌++◌, ◌∷◌, List, ap, refl}
use Rattle.vcd_read.specs.declared.samples.Sample.{Sample}
use Rattle.pulses.proofs.filtering.Filter.next.Goals as goal

pub returns-in_ok-hand_out-clause-handed : goal.returns-in_ok-hand_out-clause-handed
returns-in_ok-hand_out-clause-handed c = λ more.
    let s = c.args.sample.now in
    rw (c.hear.ensures.begun, c.in_ok-hand_out.ensures.begun, c.pass.ensures.begun, c.if-self.true)
    (ap (λ (rest : List Sample). c.hand_out.new.quiet.items ++ rest) (c.hear.ensures.to_come more)
    ∙ (c.in_ok-hand_out.ensures.to_come (s ∷ more)
    ∙ ap (λ (rest : List Sample). c.args.quiet.now.items ++ rest) (c.pass.ensures.to_come s more refl)))
