-- What is meant by drafts that were read.
use Rattle.std.proofs.Common.{◌≡◌, ℕ, ◌+◌, true, false, List, [], ◌∷◌, ap, sym, subst, Some, slice_get, map}
use Rattle.std.specs.Prelude.{Result, Contains}
use Rattle.std.specs.List.{count_by}
use Rattle.std.specs.Map.{keys_of}
use Rattle.plan_core.specs.Contents.{Contents}
use Rattle.plan_core.specs.Limits.{IsWithinLimits}
use Rattle.plan_text.specs.declared.errors.PlanError.{PlanError}
use Rattle.brief_text.specs.Briefs.{texts_read, in_text, then_read, Means, AllMean}
use Rattle.brief_text.specs.Drafts.{Draft, no_items}
use Rattle.brief_text.specs.Splitting.{part_name, parts, parts_of, plan_meant}
use Rattle.brief_text.proofs.SaidLemmas.{text_again, meant_said}
use Rattle.plan_core.specs.Participants.{apart, participants_of}
use Rattle.plan_core.specs.declared.plans.Participant.TheVariants.{Sending}
use Rattle.text_laws.specs.Adding.{NoneIsRefused}
use Rattle.text_laws.specs.Covering.{Sent, sent_by, told_apart, SendsFor}
use Rattle.text_laws.specs.Sendings.{sends, lists}
use Rattle.text_laws.specs.Several.{WasRead}
use Rattle.text_laws.proofs.ApartLemmas.{apart_told, plan_keys, somebody, listed_by, each_sending, one_participant}
use Rattle.text_laws.proofs.PartLemmas.{parts_once, parts_only}
use Rattle.text_laws.proofs.MeantPlans.{parts_added, meant_within}
use Rattle.text_laws.proofs.Membership.{in_contained, holds_in, not_holds, contained_in, in_holds}
use Rattle.text_laws.proofs.SeveralLemmas.{all_read}
use Rattle.text_laws.proofs.SoundItems.{read_sound}

pub one_within : (text : List ℕ) (plan : Contents) → Means text plan → IsWithinLimits plan
one_within text plan means =
    let said = meant_said text plan means in
    let read = ap (λ (r : Result Draft PlanError). then_read (in_text 0 r) (λ more. texts_read (0 + 1) more [])) (text_again text no_items said.0 said.1) in
    subst IsWithinLimits (sym said.2) (meant_within said.0 (read_sound said.0 (text ∷ [], read)))

pub all_within : (texts : List (List ℕ)) (plan : Contents) → AllMean texts plan → IsWithinLimits plan
all_within texts plan means =
    let read = all_read texts plan means in
    subst IsWithinLimits (sym read.2) (meant_within read.0 (read_sound read.0 (texts, read.1)))

pub so_far_within : (draft : Draft) → WasRead draft → IsWithinLimits draft.plan
so_far_within draft read = (read_sound draft read).limits

pub all_added : (draft : Draft) → WasRead draft → NoneIsRefused draft.plan (parts draft)
all_added draft read = (parts_added draft (read_sound draft read)).0

module _ (draft : Draft) (controller : List ℕ × List (List ℕ)) (message : List ℕ) (read : WasRead draft) (at : Contains draft.controllers controller) where
  pub in_one_part : lists controller message ≡ true → count_by (sends message) (parts_of draft controller) ≡ 1
  in_one_part listed = parts_once draft (read_sound draft read) controller (in_contained draft.controllers controller at) message (holds_in message controller.1 listed)

  pub in_no_part : lists controller message ≡ false → count_by (sends message) (parts_of draft controller) ≡ 0
  in_no_part foreign = parts_only draft (read_sound draft read) controller (in_contained draft.controllers controller at) message (not_holds message controller.1 foreign)

pub told_of_read : (draft : Draft) (p q : ℕ) (x y : Sent) → WasRead draft → SendsFor draft p x → SendsFor draft q y → apart (plan_meant draft) p q ≡ told_apart draft x y
told_of_read draft p q x y read first second = apart_told draft (read_sound draft read) p q x y first second

module _ (draft : Draft) (read : WasRead draft) where
  pub somebody_sends : (controller : List ℕ × List (List ℕ)) (message : List ℕ) → Contains draft.controllers controller → lists controller message ≡ true → (p : ℕ) × SendsFor draft p (sent_by controller message)
  somebody_sends controller message at listed = somebody draft (read_sound draft read) controller (in_contained draft.controllers controller at) message (holds_in message controller.1 listed)

  pub nobody_else : (p q : ℕ) (x : Sent) → SendsFor draft p x → SendsFor draft q x → p ≡ q
  nobody_else p q x first second = one_participant draft (read_sound draft read) p q x first second

  pub all_listed : (p : ℕ) (x : Sent) → SendsFor draft p x → (controller : List ℕ × List (List ℕ)) × Contains draft.controllers controller × (controller.0 ≡ x.controller) × (lists controller x.message ≡ true)
  all_listed p x sends =
      let c = listed_by draft (read_sound draft read) p x sends in
      (c.0, contained_in draft.controllers c.0 c.1, c.2, in_holds x.message c.0.1 c.3)

  pub all_send : (p c k : ℕ) → slice_get (participants_of (plan_meant draft)) p ≡ Some (Sending c k) → (x : Sent) × SendsFor draft p x
  all_send p c k at = each_sending draft (read_sound draft read) p c k at

  pub controllers_are : keys_of (plan_meant draft).controllers ≡ map part_name (parts draft)
  controllers_are = plan_keys draft (read_sound draft read)
