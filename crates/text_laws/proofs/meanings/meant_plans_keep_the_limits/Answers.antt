use Rattle.text_laws.proofs.MeantLemmas.{one_within, all_within, so_far_within, all_added}
use Rattle.text_laws.proofs.meanings.meant_plans_keep_the_limits.Goals as goal

pub returns-clause-one : goal.returns-clause-one
returns-clause-one c = one_within

pub returns-clause-several : goal.returns-clause-several
returns-clause-several c = all_within

pub returns-clause-added : goal.returns-clause-added
returns-clause-added c = all_added

pub returns-clause-so_far : goal.returns-clause-so_far
returns-clause-so_far c = so_far_within
