use Rattle.std.proofs.Common.{◌∙◌, sym}
use Rattle.pulses.proofs.ComingLemmas.{scl_out}
use Rattle.pulses.proofs.filtering.Filter.hand_out_scl.Goals as goal

pub returns-in_ok-push-clause-to_come : goal.returns-in_ok-push-clause-to_come
returns-in_ok-push-clause-to_come c = λ more.
    let f = c.args.self.now in
    scl_out f.least f.first f.scl f.sda c.go_on.new.self f.time c.sample_at.result c.args.quiet.now.items
    c.push.new.self.items more c.go_on.ensures c.sample_at.ensures c.in_ok-push.ensures.items c.requires.alone
    c.requires.behind f.sda_is_first (sym c.is_due.ensures ∙ c.if-is_due.true)
