use Rattle.std.proofs.Common.{false}
use Rattle.message_tree.specs.Texts.{FrameText}
use Rattle.message_tree.specs.Trees.{frame_tree}
use Rattle.places.specs.Places.{rest_of}
use Rattle.capture_check.specs.declared.listening.Mark.TheVariants.{Level}
use Rattle.capture_check.proofs.AlongLemmas.{along, one_more, not_along, at_end}
use Rattle.capture_check.proofs.texts.frame_fits.Goals as goal

pub returns-in_default : goal.returns-in_default
returns-in_default c = (
  λ h. cc,
  λ f. absurd (not_along (FrameText (frame_tree c.args.frame.now)) c.args.marks.now c.loop-mark.mark-index (Level false) (rest_of c.loop-mark.place) c.loop-mark-test.true c.loop-mark.invariant
      (λ y b l. let some = c.item_leaving.ensures.only y ((c.offered.ensures.items y).0 b) l in c.in_default.not-Some y some) f),
)

pub loop-mark-preserved : goal.loop-mark-preserved
loop-mark-preserved c =
    one_more (FrameText (frame_tree c.args.frame.now)) c.args.marks.now c.loop-mark.mark-index (Level false) c.in-Some.item (rest_of c.loop-mark.place) (rest_of c.after-place.result) c.loop-mark-test.true c.loop-mark.invariant c.in-Some.ensures.some.1
    (λ y b l. let some = c.in-Some.ensures.only y ((c.offered.ensures.items y).0 b) l in cc) c.after-place.ensures

pub returns : goal.returns
returns c =
    along c.is_over.ensures
    (along (c.offered-2.ensures.end.1, c.offered-2.ensures.end.0)
    (at_end (FrameText (frame_tree c.args.frame.now)) c.args.marks.now c.loop-mark.mark-index (rest_of c.loop-mark.place) c.loop-mark-test.false c.loop-mark.invariant))
