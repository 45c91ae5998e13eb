use Rattle.std.proofs.Common.{length}
use Rattle.edits.proofs.replacing.+push_edited.Given as goal

abbrev pub decreases-push_edited : goal.decreases-push_edited
decreases-push_edited l = length l.texts.now
