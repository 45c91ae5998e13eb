use Rattle.text_laws.proofs.MeantLemmas.{told_of_read}
use Rattle.text_laws.proofs.meanings.sendings_are_apart_as_briefs_say.Goals as goal

pub returns : goal.returns
returns c = told_of_read
