-- In a safe plan nobody shares an interrupt's whole header with it.
use Rattle.std.proofs.Common.{◌≡◌, ◌≢◌, ℕ, Option, Some, None, List, [], ◌∷◌, ◌++◌, length, slice_get, refl, subst, arith, inl, inr, ◌==◌}
use Rattle.std.proofs.lemmas.Bool.Decides.{nat_tests}
use Rattle.message_tree.specs.declared.bits.Bit.{Bit}
use Rattle.message_tree.specs.declared.bits.Bit.TheVariants.{One}
use Rattle.message_tree.specs.declared.items.Item.{Item}
use Rattle.message_tree.specs.declared.items.Item.TheVariants.{Sent, Heard, Again, Stop, Claim}
use Rattle.message_tree.specs.Items.{Clash}
use Rattle.message_tree.specs.Texts.{Language, SentThen, Only}
use Rattle.plan_core.specs.declared.plans.Participant.{Participant}
use Rattle.plan_core.specs.Contents.{Contents}
use Rattle.plan_core.specs.Participants.{Text, TextOf, IsInterrupt, sender_at, sender_of, interrupt_sender, interrupt_bits}
use Rattle.plan_core.specs.Lawful.{Set, In}
use Rattle.plan_core.specs.Rounds.{Follows, Offers}
use Rattle.plan_core.specs.Runs.{IsReached}
use Rattle.plan_core.specs.Faults.{IsSafe}
use Rattle.plan_core.proofs.Model.{followed_on}
use Rattle.plan_core.proofs.Safety.{either, never_clash, not_ended, offers_some}

-- what comes after all the bits that are sent first
after_bits : (bits : List Bit) (P : Language) (u rest : List Item) → length u ≡ length bits → SentThen bits P (u ++ rest) → P rest
after_bits [] P [] rest n t = t
after_bits [] P (x ∷ u) rest n t = absurd (omega arith)
after_bits (b ∷ bs) P [] rest n t = absurd (omega arith)
after_bits (b ∷ bs) P (Sent c ∷ u) rest n t = after_bits bs P u rest (omega arith) t.1
after_bits (b ∷ bs) P (Heard c ∷ u) rest n t = absurd t
after_bits (b ∷ bs) P (Again ∷ u) rest n t = absurd t
after_bits (b ∷ bs) P (Stop ∷ u) rest n t = absurd t
after_bits (b ∷ bs) P (Claim ∷ u) rest n t = absurd t

after_header : (o : Option (List ℕ × ℕ)) (u rest : List Item) → length u ≡ 8 → TextOf (interrupt_sender o) (u ++ rest) → rest ≡ Claim ∷ []
after_header None u rest n t = absurd t
after_header (Some i) u rest n t = after_bits (interrupt_bits i.1 ++ One ∷ []) (Only Claim) u rest n t

-- an interrupt that has sent its whole header claims
claims : (plan : Contents) (p : ℕ) (u : List Item) → IsInterrupt plan p → length u ≡ 8 → Follows plan p u → Offers plan p u Claim
unfolding sender_at
claims plan p u (k, e) n (rest, t) =
    let sent = subst (λ (o : Option Participant). TextOf (sender_of plan o) (u ++ rest)) e t in
    let claim = after_header (slice_get plan.interrupts k) u rest n sent in
    ([], subst (λ (r : List Item). Text plan p (u ++ r)) claim t)

-- a claim clashes with whatever is put beside it
clashes_with_claim : (x : Item) → Clash x Claim
clashes_with_claim Claim = inr (refl, refl)
clashes_with_claim (Sent b) = inl (λ e. cc)
clashes_with_claim (Heard b) = inl (λ e. cc)
clashes_with_claim Again = inl (λ e. cc)
clashes_with_claim Stop = inl (λ e. cc)

module _ (plan : Contents) (s : Set) (u : List Item) (live : Set) (safe : IsSafe plan) (reached : IsReached plan s u live) where
  follows : (p : ℕ) → length u ≡ 8 → In p live → Follows plan p u
  follows p n i = elim (followed_on reached.1 p i) [ inl e ↦ absurd (let none : length u ≡ 0 = ap_length u e in omega arith) | inr f ↦ f ]
    where
      ap_length : (v : List Item) → v ≡ [] → length v ≡ 0
      ap_length [] e = refl
      ap_length (x ∷ v) e = cc

  pub alone_after_header : (p q : ℕ) → IsInterrupt plan p → length u ≡ 8 → In p live → In q live → q ≡ p
  alone_after_header p q is n i j =
      elim (either (q == p)) [
        | inl same ↦ grind (arith, nat_tests)
        | inr other ↦
            let apart : q ≢ p = grind (arith, nat_tests) in
            let claim = claims plan p u is n (follows p n i) in
            let x = offers_some plan q u (not_ended plan p u Claim claim) (follows q n j) in
            absurd (never_clash plan s u live safe reached x.0 Claim q p apart j i x.1 claim (clashes_with_claim x.0))
      ]
