use Rattle.text_laws.proofs.PlanWords.{same_spells}
use Rattle.text_laws.proofs.SameMeanings.{turned, same_read, same_means, same_first, same_refused}
use Rattle.text_laws.proofs.layouts.same_words_have_one_meaning.Goals as goal

pub returns-clause-spells : goal.returns-clause-spells
returns-clause-spells c = λ one other plan same. (same_spells one other plan same, same_spells other one plan (turned one other same))

pub returns-clause-means : goal.returns-clause-means
returns-clause-means c = λ one other plan same. (same_means one other plan same, same_means other one plan (turned one other same))

pub returns-clause-after_others : goal.returns-clause-after_others
returns-clause-after_others c = λ one other draft after same. (same_read one other draft after same, same_read other one draft after (turned one other same))

pub returns-clause-refused_plans : goal.returns-clause-refused_plans
returns-clause-refused_plans c = same_first

pub returns-clause-refused_briefs : goal.returns-clause-refused_briefs
returns-clause-refused_briefs c = same_refused
