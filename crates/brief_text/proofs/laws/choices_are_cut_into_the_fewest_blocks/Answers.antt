use Rattle.brief_text.proofs.CutLemmas as cuts
use Rattle.brief_text.proofs.FewestLemmas as least
use Rattle.brief_text.proofs.laws.choices_are_cut_into_the_fewest_blocks.Goals as goal

pub returns-clause-cut : goal.returns-clause-cut
returns-clause-cut c = cuts.cut

pub returns-clause-once : goal.returns-clause-once
returns-clause-once c = cuts.once

pub returns-clause-ascending : goal.returns-clause-ascending
returns-clause-ascending c = cuts.ascending

pub returns-clause-fewest : goal.returns-clause-fewest
returns-clause-fewest c = λ choice others is cut. least.fewest choice is others cut
