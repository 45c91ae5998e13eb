use Rattle.message_tree.specs.Texts.{FrameText}
use Rattle.message_tree.specs.Trees.{frame_tree}
use Rattle.places.specs.Places.{rest_of}
use Rattle.capture_check.proofs.AlongLemmas.{IsLeft}
use Rattle.capture_check.proofs.texts.frame_fits.Given as goal

-- the place is that after the marks so far
abbrev pub invariant-loop-mark : goal.invariant-loop-mark
invariant-loop-mark l = IsLeft (FrameText (frame_tree l.frame)) l.marks l.mark-index (rest_of l.place)
