-- What a participant of a plan sends, by its number.
use Rattle.std.proofs.Common.{◌≡◌, ℕ, zero, suc, Some, List, [], ◌∷◌, slice_get, ap, sym, ◌∙◌}
use Rattle.std.specs.Map.{values_of}
use Rattle.message_tree.specs.declared.bits.Bit.{Bit}
use Rattle.message_tree.specs.Bits.{bits_below}
use Rattle.message_tree.specs.Texts.{message, interrupt}
use Rattle.message_tree.specs.Trees.{FrameTree}
use Rattle.plan_core.specs.declared.plans.Participant.TheVariants.{Sending, Interrupt}
use Rattle.plan_core.specs.Contents.{Contents}
use Rattle.plan_core.specs.Participants.{participants_of, sender_at, sender_of, message_sender, interrupt_sender, interrupt_bits}

message_value : (ms : List (List ℕ × FrameTree)) (k : ℕ) (t : FrameTree) → slice_get (values_of ms) k ≡ Some t → message_sender (slice_get ms k) ≡ Some (message t)
message_value [] k t e = cc
message_value (m ∷ ms) zero t e = let d : m.1 ≡ t = cc in ap (λ (u : FrameTree). Some (message u)) d
message_value (m ∷ ms) (suc k) t e = message_value ms k t e

interrupt_value : (is : List (List ℕ × ℕ)) (k a : ℕ) → slice_get (values_of is) k ≡ Some a → interrupt_sender (slice_get is k) ≡ Some (interrupt (interrupt_bits a))
interrupt_value [] k a e = cc
interrupt_value (i ∷ is) zero a e = let d : i.1 ≡ a = cc in ap (λ (b : ℕ). Some (interrupt (interrupt_bits b))) d
interrupt_value (i ∷ is) (suc k) a e = interrupt_value is k a e

pub sends_message : (plan : Contents) (p c m : ℕ) (t : FrameTree) → slice_get (participants_of plan) p ≡ Some (Sending c m) → slice_get (values_of plan.messages) m ≡ Some t → sender_at plan p ≡ Some (message t)
unfolding sender_at
sends_message plan p c m t e v = ap (sender_of plan) e ∙ message_value plan.messages m t v

pub sends_interrupt : (plan : Contents) (p k a : ℕ) (bits : List Bit) → slice_get (participants_of plan) p ≡ Some (Interrupt k) → slice_get (values_of plan.interrupts) k ≡ Some a → bits ≡ bits_below 7 127 a → sender_at plan p ≡ Some (interrupt bits)
unfolding sender_at
sends_interrupt plan p k a bits e v b =
    ap (sender_of plan) e ∙ (interrupt_value plan.interrupts k a v ∙ ap (λ (c : List Bit). Some (interrupt c)) (sym b))
