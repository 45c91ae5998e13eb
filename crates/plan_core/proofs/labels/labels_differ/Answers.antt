use Rattle.plan_core.proofs.LabelLaws.{labels_differ_of}
use Rattle.plan_core.proofs.labels.labels_differ.Goals as goal

pub returns : goal.returns
returns c = labels_differ_of
