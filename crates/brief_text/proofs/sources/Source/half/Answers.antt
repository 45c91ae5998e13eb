use Rattle.std.proofs.Common.{inr, refl}
use Rattle.plan_text.proofs.NameLemmas.{no_name}
use Rattle.brief_text.proofs.sources.Source.half.Goals as goal

pub returns-in_default-clause-refused : goal.returns-in_default-clause-refused
returns-in_default-clause-refused c = inr (rw (no_name c.args.half.now c.in_default.ensures.cases.0) refl, c.unexpected.ensures)
