use Rattle.certificate.proofs.EitherText.{said_again}
use Rattle.certificate.proofs.TextTakes.{text_takes}
use Rattle.certificate.proofs.laws.texts_are_read_as_spelled.Goals as goal

pub returns-clause-read : goal.returns-clause-read
returns-clause-read c = text_takes

pub returns-clause-spelled : goal.returns-clause-spelled
returns-clause-spelled c = said_again
