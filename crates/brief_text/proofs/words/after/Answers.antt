use Rattle.plan_core.proofs.LabelLemmas.{front_cases}
use Rattle.brief_text.proofs.words.after.Goals as goal

pub returns : goal.returns
returns c = rw (← c.as_slice.ensures) (front_cases c.strip_prefix.result c.as_slice.result.now c.args.word.now c.strip_prefix.ensures.cases)
