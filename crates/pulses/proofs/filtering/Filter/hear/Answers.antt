use Rattle.pulses.proofs.ComingLemmas.{coming_on, coming_scl, coming_sda, coming_both}
use Rattle.pulses.proofs.filtering.Filter.hear.Goals as goal

pub returns-in-true-true-clause-to_come : goal.returns-in-true-true-clause-to_come
returns-in-true-true-clause-to_come c =
    let f = c.args.self.now in
    coming_on f.least f.first f.scl f.sda f.time c.args.sample.now c.requires.time
    c.in-true-true.ensures c.in-true-true.ensures'

pub returns-in-true-false-clause-to_come : goal.returns-in-true-false-clause-to_come
returns-in-true-false-clause-to_come c =
    let f = c.args.self.now in
    coming_sda f.least f.first f.scl f.sda c.begin.new.self f.time c.args.sample.now c.requires.time c.begin.ensures
    c.in-true-false.ensures c.in-true-false.ensures' c.requires.sda

pub returns-in-false-true-clause-to_come : goal.returns-in-false-true-clause-to_come
returns-in-false-true-clause-to_come c =
    let f = c.args.self.now in
    coming_scl f.least f.first f.scl f.sda c.begin-in-false-true.new.self f.time c.args.sample.now c.requires.time
    c.begin-in-false-true.ensures f.both_begin
    c.in-false-true.ensures c.in-false-true.ensures' c.requires.scl

pub returns-in-false-false-clause-to_come : goal.returns-in-false-false-clause-to_come
returns-in-false-false-clause-to_come c =
    let f = c.args.self.now in
    coming_both f.least f.first f.scl f.sda c.begin-in-false-false.new.self c.begin-in-false-false-2.new.self f.time
    c.args.sample.now c.requires.time c.begin-in-false-false.ensures c.begin-in-false-false-2.ensures
    c.in-false-false.ensures c.in-false-false.ensures' c.requires.scl c.requires.sda
