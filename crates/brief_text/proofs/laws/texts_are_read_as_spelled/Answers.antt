use Rattle.brief_text.proofs.SaidLemmas.{text_again}
use Rattle.brief_text.proofs.SaysLemmas.{text_takes}
use Rattle.brief_text.proofs.laws.texts_are_read_as_spelled.Goals as goal

pub returns-clause-read : goal.returns-clause-read
returns-clause-read c = text_takes

pub returns-clause-spelled : goal.returns-clause-spelled
returns-clause-spelled c = text_again
