use Rattle.pulses.proofs.ComingLemmas.{coming_later}
use Rattle.pulses.proofs.filtering.Filter.pass.Goals as goal

pub returns-clause-to_come : goal.returns-clause-to_come
returns-clause-to_come c = λ s more e.
    coming_later c.args.self.now.least c.args.self.now.first c.args.self.now.scl c.args.self.now.sda
    c.pass.new.self c.pass-2.new.self c.saturating_sub-passed.result c.args.self.now.time c.args.time s more
    c.pass.ensures c.pass-2.ensures c.saturating_sub-passed.ensures e
