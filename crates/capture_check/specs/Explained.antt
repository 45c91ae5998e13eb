-- Who explains a transaction that a STOP ended: a controller with a message that has a text with these marks, the STOP among
-- them; or an interrupt whose header is the first eight of them (our profile). Nobody explains another transaction.
use Rattle.std.specs.Prelude.{◌≡◌, ◌↔◌, ℕ, ◌<◌, List, ◌∷◌, [], ◌++◌, Option, Some, None, AllPairs, Contains}
use Rattle.message_tree.specs.declared.bits.Bit.TheVariants.{One}
use Rattle.message_tree.specs.Texts.{Language, Sender, message, interrupt, SentThen, FrameText}
use Rattle.plan_core.specs.Contents.{Contents}
use Rattle.plan_core.specs.Participants.{sender_at}
use Rattle.capture_check.specs.declared.listening.Mark.{Mark}
use Rattle.capture_check.specs.declared.listening.Until.{Until}
use Rattle.capture_check.specs.declared.listening.Until.TheVariants as ending
use Rattle.capture_check.specs.Marks.{Fits}
use Rattle.capture_check.specs.Transactions.{Recorded}

-- whatever comes
abbrev pub Whatever : Language
Whatever u = Unit {0}

abbrev pub MayLeave : Sender → List Mark → Type 0
MayLeave (message frame) marks = Fits (FrameText frame) marks
MayLeave (interrupt address) marks = Fits (SentThen (address ++ One ∷ []) Whatever) marks

abbrev pub SomebodyMayLeave : Option Sender → List Mark → Type 0
SomebodyMayLeave (Some sender) marks = MayLeave sender marks
SomebodyMayLeave None marks = ⊥

-- participant p may leave these marks
abbrev pub Leaver : Contents → List Mark → ℕ → Type 0
Leaver plan marks p = SomebodyMayLeave (sender_at plan p) marks

-- those that may leave these marks, and no others, in increasing order
pub record AreLeavers (plan : Contents) (marks : List Mark) (ps : List ℕ) : Type 0 where
  pub increasing : AllPairs ◌<◌ ps
  pub each : (p : ℕ) → Contains ps p ↔ Leaver plan marks p

-- whether and by whom a transaction that ended so is explained
abbrev pub AreExplainersUntil : Until → Contents → List Mark → List ℕ → Type 0
AreExplainersUntil (ending.Stopped time) plan marks ps = AreLeavers plan marks ps
AreExplainersUntil _ plan marks ps = ps ≡ []

abbrev pub AreExplainers : Contents → Recorded → List ℕ → Type 0
AreExplainers plan t ps = AreExplainersUntil t.until plan t.marks ps
