use Rattle.certificate.proofs.EitherText.{values, refusals}
use Rattle.certificate.proofs.read.read_cert.Goals as goal

pub returns-clause-values : goal.returns-clause-values
returns-clause-values c = values c.args.text.now c.read.result c.read.ensures.spelled c.read.ensures.refused

pub returns-clause-refusals : goal.returns-clause-refusals
returns-clause-refusals c = refusals c.args.text.now c.read.result c.read.ensures.spelled c.read.ensures.refused
