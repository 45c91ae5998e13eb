use Rattle.std.proofs.Common.{get_or, ap}
use Rattle.given_plans.proofs.SourceLemmas.{several_give, several_stop, one_reads, one_stops, one_refused}
use Rattle.given_plans.proofs.sources.find_among.Goals as goal

pub returns-then-readers-eq1-clause-read : goal.returns-then-readers-eq1-clause-read
returns-then-readers-eq1-clause-read g c =
    one_reads g.I.Input.reader c.args.readers.now (get_or c.args.readers.now 0 c.index-readers-0.result) c.find_given.new.text c.if-readers-eq1.true (ap (λ y. get_or c.args.readers.now 0 y) c.index-readers-0.is) c.find_given.result c.find_given.ensures.found

pub returns-then-readers-eq1-clause-stops : goal.returns-then-readers-eq1-clause-stops
returns-then-readers-eq1-clause-stops g c =
    one_stops g.I.Input.reader c.args.readers.now (get_or c.args.readers.now 0 c.index-readers-0.result) c.find_given.new.text c.if-readers-eq1.true (ap (λ y. get_or c.args.readers.now 0 y) c.index-readers-0.is) c.find_given.result c.find_given.ensures.stops

pub returns-then-readers-eq1-clause-text : goal.returns-then-readers-eq1-clause-text
returns-then-readers-eq1-clause-text g c =
    one_refused g.I.Input.reader c.args.readers.now (get_or c.args.readers.now 0 c.index-readers-0.result) c.find_given.new.text c.if-readers-eq1.true (ap (λ y. get_or c.args.readers.now 0 y) c.index-readers-0.is) c.find_given.result c.find_given.ensures.text

pub returns-else-readers-eq1-clause-given : goal.returns-else-readers-eq1-clause-given
returns-else-readers-eq1-clause-given g c =
    several_give g.I.Input.reader c.args.readers.now c.find_in_briefs.new.readers c.if-readers-eq1.false c.find_in_briefs.result c.find_in_briefs.ensures.read c.find_in_briefs.ensures.meant

pub returns-else-readers-eq1-clause-stops : goal.returns-else-readers-eq1-clause-stops
returns-else-readers-eq1-clause-stops g c =
    several_stop g.I.Input.reader c.args.readers.now c.find_in_briefs.new.readers c.if-readers-eq1.false c.find_in_briefs.result c.find_in_briefs.ensures.stops
