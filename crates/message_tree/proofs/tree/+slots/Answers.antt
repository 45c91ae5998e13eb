use Rattle.message_tree.specs.Trees.{frame_tree}
use Rattle.message_tree.proofs.TextLengths.{longest_frame}
use Rattle.message_tree.proofs.tree.+slots.Goals as goal

pub Frame::slots-returns-in-Write-clause-longest : goal.Frame::slots-returns-in-Write-clause-longest
Frame::slots-returns-in-Write-clause-longest t c = longest_frame (frame_tree c.args.self.now)

pub Frame::slots-returns-in-Read-clause-longest : goal.Frame::slots-returns-in-Read-clause-longest
Frame::slots-returns-in-Read-clause-longest t c = longest_frame (frame_tree c.args.self.now)
