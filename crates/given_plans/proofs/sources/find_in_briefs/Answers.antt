use Rattle.given_plans.proofs.SourceLemmas.{all_are_read, all_mean, memory_halts, brief_halts, brief_refused}
use Rattle.given_plans.proofs.sources.find_in_briefs.Goals as goal

pub returns-in-Ok-clause-read : goal.returns-in-Ok-clause-read
returns-in-Ok-clause-read g c =
    all_are_read g.I.Input.reader _ c.in-Ok.read c.args.readers.now c.read_from.new.readers c.new-2.ensures.items c.in-Ok.ensures.read c.given_together.result c.given_together.ensures.texts

pub returns-in-Ok-clause-meant : goal.returns-in-Ok-clause-meant
returns-in-Ok-clause-meant g c =
    all_mean g.I.Input.reader _ c.in-Ok.read c.args.readers.now c.read_from.new.readers c.new-2.ensures.items c.in-Ok.ensures.read c.given_together.result c.new.ensures c.given_together.ensures.texts c.given_together.ensures.plan

pub returns-in-Ok-clause-stops : goal.returns-in-Ok-clause-stops
returns-in-Ok-clause-stops g c =
    memory_halts g.I.Input.reader _ c.in-Ok.read c.args.readers.now c.read_from.new.readers c.new-2.ensures.items c.in-Ok.ensures.read c.given_together.result c.given_together.ensures.error

pub returns-in-Err-clause-stops : goal.returns-in-Err-clause-stops
returns-in-Err-clause-stops g c =
    brief_halts g.I.Input.reader (record { briefs = c.new.result; texts = c.new-2.result; spans = c.new-3.result }) (record { briefs = c.new.result; texts = c.new-2.result; spans = c.new-3.result }) c.args.readers.now c.read_from.new.readers c.new-2.ensures.items c.in-Err.halted.error c.new.ensures c.in-Err.ensures.stops

pub returns-in-Err-clause-text : goal.returns-in-Err-clause-text
returns-in-Err-clause-text g c =
    brief_refused g.I.Input.reader (record { briefs = c.new.result; texts = c.new-2.result; spans = c.new-3.result }) (record { briefs = c.new.result; texts = c.new-2.result; spans = c.new-3.result }) c.args.readers.now c.read_from.new.readers c.new-2.ensures.items c.in-Err.halted.text c.in-Err.ensures.text
