-- Two headers that read, one of them perhaps an interrupt's, and what meets after them.
use Rattle.std.proofs.Common.{◌≡◌, Result, Ok, Err, true, false, List, [], ◌∷◌, ◌++◌, take, length, reverse, refl, ap, sym, ◌∙◌, subst, inl, inr}
use Rattle.message_tree.specs.declared.bits.Bit.TheVariants.{One}
use Rattle.message_tree.specs.declared.bits.Address.{Address}
use Rattle.message_tree.specs.declared.items.Item.{Item}
use Rattle.message_tree.specs.declared.items.Item.TheVariants.{Sent, Heard, Claim}
use Rattle.message_tree.specs.declared.items.Kind.{Kind}
use Rattle.message_tree.specs.declared.items.Kind.TheVariants as kind
use Rattle.message_tree.specs.Bits.{NeverSplit}
use Rattle.message_tree.specs.Items.{KindsClash}
use Rattle.message_tree.specs.Patterns.{address_bits}
use Rattle.message_tree.specs.Trees as tree
use Rattle.message_tree.specs.Trees.{FrameTree}
use Rattle.message_tree.specs.Texts.{Language, SentThen, AnswerThen, Only, ReadThen, read_header, TailText, message, interrupt}
use Rattle.message_tree.specs.declared.counts.Count.{Count}
use Rattle.message_tree.proofs.TextLaws.{lawful_tail}
use Rattle.certificate.specs.Proofs.{ProofTree}
use Rattle.pair_walk.specs.declared.halts.Halt.{Halt}
use Rattle.pair_walk.specs.declared.halts.Halt.TheVariants as halt
use Rattle.pair_walk.specs.Compare.{HaltsBehind, ClashesAtOnce, MeetsBehindReads, ComparesSenders}
use Rattle.pair_walk.specs.FirstClash.{GoesOnWith, IsFirstClash}
use Rattle.pair_walk.specs.Wires.{agreed}
use Rattle.pair_walk.proofs.First.{first_sent, first_here}
use Rattle.pair_walk.proofs.HeaderLemmas.{never_in_header}
use Rattle.pair_walk.proofs.Nodes.{length_of_address}

header_wire : (a b : Address) → take 8 (agreed (address_bits a) (address_bits b) ++ (Sent true ∷ Heard false ∷ [])) ++ [] ≡ agreed (read_header a) (read_header b)
unfolding address_bits
header_wire a b = refl

no_more : (a b : Address) → agreed (read_header a) (read_header b) ++ [] ≡ agreed (read_header a) (read_header b)
unfolding address_bits
no_more a b = refl

length_of_read : (a b : Address) → length (read_header a) ≡ length (read_header b)
unfolding address_bits
length_of_read a b = refl

module _ {M : Type 0} (shown : M → ProofTree → Type 0) where
  -- a clash at once, put after the two headers
  pub meets_behind : (a b : Address) (j k : Kind) (items : List Item) (h m : Halt) → NeverSplit (address_bits a) (address_bits b) → items ≡ take 8 (agreed (address_bits a) (address_bits b) ++ (Sent true ∷ Heard false ∷ [])) → ClashesAtOnce j k h → HaltsBehind items h m → MeetsBehindReads shown a b j k (Err m)
  meets_behind a b j k items (halt.Clash c) (halt.Clash d) n i e f =
      (n, f.0 ∙ (ap (λ (u : List Item). items ++ reverse u) e.0 ∙ (ap (λ (u : List Item). u ++ []) i ∙ header_wire a b)), f.1 ∙ e.1, f.2 ∙ e.2)
  meets_behind a b j k items halt.NoMemory (halt.Clash d) n i e f = absurd f
  meets_behind a b j k items h halt.NoMemory n i e f = tt

-- what follows two equal headers, and how it begins
headers_meet : (a b : Address) (P Q : Language) (j k first second : Kind) (wire : List Item) → GoesOnWith P [] j → GoesOnWith Q [] k → KindsClash j k → NeverSplit (address_bits a) (address_bits b) → wire ≡ agreed (read_header a) (read_header b) → first ≡ j → second ≡ k → IsFirstClash (SentThen (read_header a) P) (SentThen (read_header b) Q) wire first second
headers_meet a b P Q j k first second wire p q c n w f s =
    let never = never_in_header (address_bits a) (address_bits b) One (length_of_address a ∙ sym (length_of_address b)) n in
    let meet = first_sent (read_header a) (read_header b) P Q [] j k (length_of_read a b) never (first_here P Q j k p q c) in
    rw (w, f, s) (subst (λ (u : List Item). IsFirstClash (SentThen (read_header a) P) (SentThen (read_header b) Q) u j k) (no_more a b) meet)

claims : GoesOnWith (Only Claim) [] kind.Claim
claims = (Claim, [], refl, refl)

-- what follows an acknowledged read header has a text
waits : (c : Count) (x r : tree.TailTree) → GoesOnWith (AnswerThen (ReadThen c (TailText x)) (TailText r)) [] kind.Heard
waits c x r = let t = (lawful_tail r).some in (Heard true, t.0, t.1, refl)

module _ {M : Type 0} (shown : M → ProofTree → Type 0) where
  pub read_meets_interrupt : (f : FrameTree) (a b : Address) (c : Count) (x r : tree.TailTree) → f ≡ tree.read a c x r → (result : Result M Halt) → MeetsBehindReads shown a b kind.Heard kind.Claim result → ComparesSenders shown (message f) (interrupt (address_bits b)) result
  read_meets_interrupt f a b c x r is_f (Ok made) h = rw is_f h
  read_meets_interrupt f a b c x r is_f (Err halt.NoMemory) h = tt
  read_meets_interrupt f a b c x r is_f (Err (halt.Clash m)) h =
      rw is_f (headers_meet a b (AnswerThen (ReadThen c (TailText x)) (TailText r)) (Only Claim) kind.Heard kind.Claim m.first m.second (reverse m.back.items) (waits c x r) claims (inl (λ d. cc)) h.0 h.1 h.2 h.3)

  pub interrupt_meets_read : (f : FrameTree) (a b : Address) (c : Count) (x r : tree.TailTree) → f ≡ tree.read b c x r → (result : Result M Halt) → MeetsBehindReads shown a b kind.Claim kind.Heard result → ComparesSenders shown (interrupt (address_bits a)) (message f) result
  interrupt_meets_read f a b c x r is_f (Ok made) h = rw is_f h
  interrupt_meets_read f a b c x r is_f (Err halt.NoMemory) h = tt
  interrupt_meets_read f a b c x r is_f (Err (halt.Clash m)) h =
      rw is_f (headers_meet a b (Only Claim) (AnswerThen (ReadThen c (TailText x)) (TailText r)) kind.Claim kind.Heard m.first m.second (reverse m.back.items) claims (waits c x r) (inl (λ d. cc)) h.0 h.1 h.2 h.3)

  pub interrupts_meet : (a b : Address) (result : Result M Halt) → MeetsBehindReads shown a b kind.Claim kind.Claim result → ComparesSenders shown (interrupt (address_bits a)) (interrupt (address_bits b)) result
  interrupts_meet a b (Ok made) h = h
  interrupts_meet a b (Err halt.NoMemory) h = tt
  interrupts_meet a b (Err (halt.Clash m)) h =
      headers_meet a b (Only Claim) (Only Claim) kind.Claim kind.Claim m.first m.second (reverse m.back.items) claims claims (inr (refl, refl)) h.0 h.1 h.2 h.3
