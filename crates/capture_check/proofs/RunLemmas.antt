-- A participant has a text with some marks exactly where it is live at the end of a run that leaves them.
use Rattle.std.proofs.Common.{◌≡◌, ◌↔◌, ◌≢◌, ℕ, zero, suc, ◌<◌, List, [], ◌∷◌, ◌++◌, length, length-append, take, Contains, Option, Some, None, slice_get, refl, sym, ◌∙◌, subst, append-nil, arith, inl, inr}
use Rattle.std.proofs.lemmas.Bool.Decides.{nat_tests}
use Rattle.message_tree.specs.declared.bits.Bit.{Bit}
use Rattle.message_tree.specs.declared.bits.Bit.TheVariants.{One}
use Rattle.message_tree.specs.declared.items.Item.{Item}
use Rattle.message_tree.specs.declared.items.Item.TheVariants.{Sent, Stop, Claim}
use Rattle.message_tree.specs.Texts.{Sender, message, interrupt, SentThen, Only}
use Rattle.message_tree.specs.Trees.{FrameTree}
use Rattle.message_tree.proofs.TextLaws.{lawful_frame, lawful_interrupt}
use Rattle.plan_core.specs.declared.plans.Participant.{Participant}
use Rattle.plan_core.specs.declared.plans.Participant.TheVariants.{Sending, Interrupt}
use Rattle.plan_core.specs.Contents.{Contents}
use Rattle.plan_core.specs.Lawful.{In, IsLawful, pair}
use Rattle.plan_core.specs.Participants.{Text, TextOf, sender_at, sender_of, message_sender, interrupt_sender, participants_of, participant_count}
use Rattle.plan_core.specs.Rounds.{Follows}
use Rattle.plan_core.specs.Runs.{HasEnded}
use Rattle.plan_core.proofs.Model.{both_live, in_pair, somebody, followed_on}
use Rattle.plan_core.proofs.Texts.{end_bound}
use Rattle.capture_check.specs.declared.listening.Mark.{Mark}
use Rattle.capture_check.specs.declared.listening.Until.{Until}
use Rattle.capture_check.specs.declared.listening.Until.TheVariants.{Stopped}
use Rattle.capture_check.specs.Explained.{Whatever, SomebodyMayLeave, Leaver, AreExplainers, AreExplainersUntil}
use Rattle.capture_check.specs.Marks.{LeaveAll, Fits}
use Rattle.capture_check.specs.RunMarks.{EndsWithMarks, SomeRunEndsWith, EndsRunWith}
use Rattle.capture_check.specs.Transactions.{Recorded}
use Rattle.capture_check.proofs.AlongLemmas.{begins_with}
use Rattle.capture_check.proofs.LeaverLemmas.{participant_within}

-- ---- headers

-- a header and whatever comes, and the header and a claim: their first marks are alike
claim_after : (bs : List Bit) (u : List Item) (marks : List Mark) → SentThen bs Whatever u → LeaveAll u marks → (w : List Item) × SentThen bs (Only Claim) w × LeaveAll (take (length bs) w) (take (length bs) marks)
claim_after [] u marks p l = (Claim ∷ [], refl, tt)
claim_after (b ∷ bs) [] marks p l = absurd p
claim_after (b ∷ bs) (x ∷ u) [] p l = absurd l
claim_after (b ∷ bs) (Sent s ∷ u) (m ∷ marks) p l =
    let r = claim_after bs u marks p.1 l.1 in
    (Sent s ∷ r.0, (p.0, r.1), (l.0, r.2))
claim_after (b ∷ bs) (_ ∷ u) (m ∷ marks) p l = absurd p

header_before : (bs : List Bit) (w : List Item) (marks : List Mark) → SentThen bs (Only Claim) w → LeaveAll (take (length bs) w) (take (length bs) marks) → Fits (SentThen bs Whatever) marks
header_before [] w marks p l = begins_with marks
header_before (b ∷ bs) [] marks p l = absurd p
header_before (b ∷ bs) (x ∷ w) [] p l = absurd l
header_before (b ∷ bs) (Sent s ∷ w) (m ∷ marks) p l =
    let r = header_before bs w marks p.1 l.1 in
    (Sent s ∷ r.0, (p.0, r.1), (l.0, r.2))
header_before (b ∷ bs) (_ ∷ w) (m ∷ marks) p l = absurd p

-- ---- ends

last_is : (v w : List Item) (x y : Item) → v ++ x ∷ [] ≡ w ++ y ∷ [] → x ≡ y
last_is [] [] x y e = cc
last_is [] (b ∷ []) x y e = cc
last_is [] (b ∷ c ∷ w) x y e = cc
last_is (a ∷ []) [] x y e = cc
last_is (a ∷ c ∷ v) [] x y e = cc
last_is (a ∷ v) (b ∷ w) x y e = last_is v w x y cc

-- ---- what a participant sends

-- an interrupt has seven address bits
HasSevenBits : Option Sender → Type 0
HasSevenBits (Some (interrupt address)) = length address ≡ 7
HasSevenBits _ = Unit {0}

message_bits : (ms : List (List ℕ × FrameTree)) (k : ℕ) → HasSevenBits (message_sender (slice_get ms k))
unfolding HasSevenBits
message_bits [] k = tt
message_bits (m ∷ ms) zero = tt
message_bits (m ∷ ms) (suc k) = message_bits ms k

interrupt_bits_are_seven : (is : List (List ℕ × ℕ)) (k : ℕ) → HasSevenBits (interrupt_sender (slice_get is k))
unfolding HasSevenBits
interrupt_bits_are_seven [] k = tt
interrupt_bits_are_seven (i ∷ is) zero = refl
interrupt_bits_are_seven (i ∷ is) (suc k) = interrupt_bits_are_seven is k

seven_bits_of : (plan : Contents) (q : Option Participant) → HasSevenBits (sender_of plan q)
unfolding HasSevenBits
seven_bits_of plan None = tt
seven_bits_of plan (Some (Sending c m)) = message_bits plan.messages m
seven_bits_of plan (Some (Interrupt k)) = interrupt_bits_are_seven plan.interrupts k

seven_bits : (plan : Contents) (p : ℕ) → HasSevenBits (sender_at plan p)
unfolding sender_at
seven_bits plan p = seven_bits_of plan (slice_get (participants_of plan) p)

eight : (a : List Bit) → length a ≡ 7 → length (a ++ One ∷ []) ≡ 8
eight a e = omega (arith, e, length-append a (One ∷ []))

text_with : (s : Option Sender) (marks : List Mark) → HasSevenBits s → SomebodyMayLeave s marks → (u : List Item) × TextOf s u × EndsWithMarks u marks
unfolding HasSevenBits
text_with None marks h f = absurd f
text_with (Some (message frame)) marks h (u, t, l) =
    let e = (lawful_frame frame).ends u t in
    (u, t, inl ((e.0, e.2), l))
text_with (Some (interrupt a)) marks h (u, t, l) =
    let r = claim_after (a ++ One ∷ []) u marks t l in
    let e = (lawful_interrupt a).ends r.0 r.1 in
    (r.0, r.1, inr ((e.0, e.2), subst (λ (n : ℕ). LeaveAll (take n r.0) (take n marks)) (eight a h) r.2))

leaves_text : (s : Option Sender) (marks : List Mark) (u : List Item) → HasSevenBits s → TextOf s u → EndsWithMarks u marks → SomebodyMayLeave s marks
unfolding HasSevenBits
leaves_text None marks u h t e = absurd t
leaves_text (Some (message frame)) marks u h t (inl e) = (u, t, e.1)
leaves_text (Some (message frame)) marks u h t (inr e) =
    let r = (lawful_frame frame).ends u t in
    let same = last_is r.0 e.0.0 Stop Claim (sym r.2 ∙ e.0.1) in
    cc
leaves_text (Some (interrupt a)) marks u h t (inl e) =
    let r = (lawful_interrupt a).ends u t in
    let same = last_is r.0 e.0.0 Claim Stop (sym r.2 ∙ e.0.1) in
    cc
leaves_text (Some (interrupt a)) marks u h t (inr e) =
    header_before (a ++ One ∷ []) u marks t (subst (λ (n : ℕ). LeaveAll (take n u) (take n marks)) (sym (eight a h)) e.1)

-- ---- runs

same_one : (p x : ℕ) → In x (pair p p) → x ≡ p
same_one p x h = elim (in_pair p p x h) [ inl e ↦ e | inr e ↦ e ]

in_alone : (p : ℕ) → In p (pair p p)
in_alone p = grind (arith, nat_tests)

-- a participant alone is a lawful set
alone_is_lawful : (plan : Contents) (p : ℕ) → p < participant_count plan → IsLawful plan (pair p p)
alone_is_lawful plan p h = record {
  some = (p, in_alone p);
  participants = λ q j. subst (λ (x : ℕ). x < participant_count plan) (sym (same_one p q j)) h;
  together = λ x y n j k. absurd (n (same_one p x j ∙ sym (same_one p y k)));
}

pub run_of_leaver : (plan : Contents) (marks : List Mark) (p : ℕ) → Leaver plan marks p → EndsRunWith plan marks p
run_of_leaver plan marks p h =
    let t = text_with (sender_at plan p) marks (seven_bits plan p) h in
    let follows : Follows plan p t.0 = ([], subst (Text plan p) (sym (append-nil t.0)) t.1) in
    let b = both_live plan p p t.0 (inr refl) follows follows in
    (t.0, pair p p, b.0, (alone_is_lawful plan p (participant_within plan marks p h), b.1), b.2, t.2)

has_ended : (u : List Item) (marks : List Mark) → EndsWithMarks u marks → HasEnded u
has_ended u marks (inl e) = (e.0.0, inl e.0.1)
has_ended u marks (inr e) = (e.0.0, inr e.0.1)

pub leaver_of_run : (plan : Contents) (marks : List Mark) (p : ℕ) → EndsRunWith plan marks p → Leaver plan marks p
leaver_of_run plan marks p (u, s, live, r, i, e) =
    leaves_text (sender_at plan p) marks u (seven_bits plan p) (end_bound plan p u (has_ended u marks e) (followed_on r.1 p i)) e

pub run_of_somebody : (plan : Contents) (marks : List Mark) → ((p : ℕ) × Leaver plan marks p) → SomeRunEndsWith plan marks
run_of_somebody plan marks (p, h) =
    let r = run_of_leaver plan marks p h in
    (r.0, r.1, r.2, r.3, r.5)

pub somebody_of_run : (plan : Contents) (marks : List Mark) → SomeRunEndsWith plan marks → (p : ℕ) × Leaver plan marks p
somebody_of_run plan marks (u, s, live, r, e) =
    let p = somebody r.0.some r.1 in
    (p.0, leaver_of_run plan marks p.0 (u, s, live, r, p.1, e))

-- ---- lists of those who explain

somebody_listed : (plan : Contents) (marks : List Mark) (ps : List ℕ) → ((p : ℕ) → Contains ps p → Leaver plan marks p) → ps ≢ [] → (p : ℕ) × Leaver plan marks p
somebody_listed plan marks [] f n = absurd (n refl)
somebody_listed plan marks (p ∷ ps) f n = (p, f p (zero, omega arith, refl))

nobody_in_nil : (p : ℕ) (ps : List ℕ) → Contains ps p → ps ≡ [] → ⊥
nobody_in_nil p ps c e = let has : Contains [] p = subst (λ (qs : List ℕ). Contains qs p) e c in absurd (omega (arith, has.1))

pub listed : (plan : Contents) (t : Recorded) (time : ℕ) (ps : List ℕ) → AreExplainers plan t ps → t.until ≡ Stopped time → ps ≢ [] ↔ SomeRunEndsWith plan t.marks
listed plan t time ps are until =
    let a = subst (λ (x : Until). AreExplainersUntil x plan t.marks ps) until are in (
      λ n. run_of_somebody plan t.marks (somebody_listed plan t.marks ps (λ p c. (a.each p).0 c) n),
      λ r. let p = somebody_of_run plan t.marks r in nobody_in_nil p.0 ps ((a.each p.0).1 p.1),
    )
