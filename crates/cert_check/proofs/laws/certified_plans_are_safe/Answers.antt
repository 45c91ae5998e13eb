use Rattle.cert_check.proofs.Checked.{certified_is_safe}
use Rattle.cert_check.proofs.laws.certified_plans_are_safe.Goals as goal

pub returns : goal.returns
returns c plan proofs h = certified_is_safe plan proofs h
