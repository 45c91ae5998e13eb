use Rattle.certificate.proofs.EitherText.{not_both, one_refusal, one_of_both, one_value}
use Rattle.certificate.proofs.laws.texts_have_one_reading.Goals as goal

pub returns-clause-one_value : goal.returns-clause-one_value
returns-clause-one_value c = one_value

pub returns-clause-one_refusal : goal.returns-clause-one_refusal
returns-clause-one_refusal c = one_refusal

pub returns-clause-not_both : goal.returns-clause-not_both
returns-clause-not_both c = not_both

pub returns-clause-one_of_both : goal.returns-clause-one_of_both
returns-clause-one_of_both c = one_of_both
