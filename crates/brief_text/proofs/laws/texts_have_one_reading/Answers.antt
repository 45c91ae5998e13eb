use Rattle.brief_text.proofs.OneReadingLemmas.{one_tree, one_draft, not_both, one_of_both}
use Rattle.brief_text.proofs.laws.texts_have_one_reading.Goals as goal

pub returns-clause-one_tree : goal.returns-clause-one_tree
returns-clause-one_tree c = one_tree

pub returns-clause-one_draft : goal.returns-clause-one_draft
returns-clause-one_draft c = one_draft

pub returns-clause-not_both : goal.returns-clause-not_both
returns-clause-not_both c = not_both

pub returns-clause-one_of_both : goal.returns-clause-one_of_both
returns-clause-one_of_both c = one_of_both
