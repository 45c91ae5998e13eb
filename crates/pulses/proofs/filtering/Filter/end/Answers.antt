use Rattle.std.proofs.Common.{◌≡◌, ◌∙◌, ◌++◌, [], List, ap, sym, append-nil}
use Rattle.vcd_read.specs.declared.samples.Sample.{Sample}
use Rattle.pulses.specs.Filtering.{to_come}
use Rattle.pulses.proofs.ComingLemmas.{coming_end, coming_last}
use Rattle.pulses.proofs.filtering.Filter.end.Goals as goal

pub returns-in_ok-hand_out-clause-handed : goal.returns-in_ok-hand_out-clause-handed
returns-in_ok-hand_out-clause-handed c =
    let f = c.hand_out.new.self in
    let given = c.in_ok-hand_out.ensures in
    let none : to_come f [] ≡ [] = coming_end f.least f.first f.scl f.sda f.time
    (given.go_on.0 given.missing.0) (given.go_on.1 given.missing.1) in
    rw c.if-self.true
    (sym (append-nil c.hand_out.new.quiet.items)
    ∙ (ap (λ (rest : List Sample). c.hand_out.new.quiet.items ++ rest) (sym none)
    ∙ (given.to_come []
    ∙ ap (λ (rest : List Sample). c.args.quiet.now.items ++ rest)
    (coming_last c.args.self.now.least c.args.self.now.first c.args.self.now.scl c.args.self.now.sda c.args.self.now.time))))
