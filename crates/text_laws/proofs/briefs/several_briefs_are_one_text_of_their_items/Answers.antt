use Rattle.text_laws.proofs.SeveralLemmas.{one_says, one_means, all_say, all_mean}
use Rattle.text_laws.proofs.briefs.several_briefs_are_one_text_of_their_items.Goals as goal

pub returns-clause-one : goal.returns-clause-one
returns-clause-one c = λ text plan. (one_says text plan, one_means text plan)

pub returns-clause-several : goal.returns-clause-several
returns-clause-several c = λ texts plan. (all_say texts plan, all_mean texts plan)
