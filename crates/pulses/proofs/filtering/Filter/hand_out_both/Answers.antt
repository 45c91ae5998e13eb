use Rattle.std.proofs.Common.{◌≡◌, ◌∙◌, sym, true, ◌||◌}
use Rattle.pulses.specs.Wires.{is_due}
use Rattle.pulses.proofs.ComingLemmas.{first_due, second_due, out}
use Rattle.pulses.proofs.filtering.Filter.hand_out_both.Goals.{then-is_due-via-then-is_due, then-is_due-via-else-is_due+then-is_due-2}
use Rattle.pulses.proofs.filtering.Filter.hand_out_both.Goals as goal

pub returns-in_ok-push-clause-to_come : goal.returns-in_ok-push-clause-to_come
returns-in_ok-push-clause-to_come c = λ more.
    let f = c.args.self.now in
    let due : is_due f.scl || is_due f.sda ≡ true = elim c.then-is_due.branch [
      | then-is_due-via-then-is_due w ↦ first_due (is_due f.scl) (is_due f.sda) (sym c.is_due.ensures ∙ w.if-is_due.true)
      | then-is_due-via-else-is_due+then-is_due-2 w ↦ second_due (is_due f.scl) (is_due f.sda) (sym w.is_due-else-is_due.ensures ∙ w.if-is_due-2.true)
    ] in
    rw c.requires (out f.least f.scl f.sda c.go_on.new.self c.go_on-then-is_due.new.self f.time c.sample_at.result
    c.args.quiet.now.items c.push.new.self.items more c.go_on.ensures c.go_on-then-is_due.ensures c.sample_at.ensures
    c.in_ok-push.ensures.items (f.both_last c.requires) due)
