-- A proved pair never clashes: a lemma for each part that a text is made of, and then an induction over the trees.
use Rattle.std.proofs.Common.{◌≡◌, ℕ, zero, suc, ◌+◌, Bool, true, false, Some, List, [], ◌∷◌, ◌++◌, length, refl, ap, sym, ◌∙◌, subst, arith, inl, inr, ◌⊎◌}
use Rattle.message_tree.specs.declared.bits.Bit.{Bit}
use Rattle.message_tree.specs.declared.bits.Bit.TheVariants.{Zero, One, Either}
use Rattle.message_tree.specs.declared.bits.Address.{Address}
use Rattle.message_tree.specs.declared.bits.Pattern.{Pattern}
use Rattle.message_tree.specs.declared.counts.Count.{Count}
use Rattle.message_tree.specs.declared.items.Item.{Item}
use Rattle.message_tree.specs.declared.items.Item.TheVariants.{Sent, Heard, Again, Stop, Claim}
use Rattle.message_tree.specs.declared.items.Kind.TheVariants as kind
use Rattle.message_tree.specs.Bits.{SplitAt}
use Rattle.message_tree.specs.Counts.{InRange, Meet}
use Rattle.message_tree.specs.Items.{kind_of, Clash}
use Rattle.message_tree.specs.Patterns.{pattern_bits, address_bits}
use Rattle.message_tree.specs.Trees as tree
use Rattle.message_tree.specs.Trees.{FrameTree, PayloadTree, TailTree}
use Rattle.message_tree.specs.Texts.{Language, Allows, SentThen, HeardThen, AnswerThen, AgainThen, Only, ByteThen, BytesThen, ReadThen, write_header, read_header, FrameText, PayloadText, TailText, Sender, message, interrupt, SenderText}
use Rattle.message_tree.proofs.KindLemmas.{one_kind}
use Rattle.certificate.specs.Proofs.{ProofTree, part, short, byte, read, again, alike}
use Rattle.certificate.specs.Laws.{OneKind, NeverClash}
use Rattle.certificate.specs.Proves.{ProvesFrames, ProvesPayloads, ProvesTails, header_of, ProvesHeaders, Proves}

-- ---- bits that are sent

-- two bits may stand in one slot
pub both_sent : (s t : Bool) → Clash (Sent s) (Sent t) → ⊥
both_sent s t (inl n) = n refl
both_sent s t (inr h) = cc (h.0)

pub both_heard : (s t : Bool) → Clash (Heard s) (Heard t) → ⊥
both_heard s t (inl n) = n refl
both_heard s t (inr h) = cc (h.0)

-- bits of which none need be different
pub never_sent : (bs cs : List Bit) (P Q : Language) → length bs ≡ length cs → NeverClash P Q → NeverClash (SentThen bs P) (SentThen cs Q)
never_sent [] [] P Q l n u v w x y p q c = n u v w x y p q c
never_sent [] (c ∷ cs) P Q l n u v w x y p q k = absurd (omega arith)
never_sent (b ∷ bs) [] P Q l n u v w x y p q k = absurd (omega arith)
never_sent (b ∷ bs) (c ∷ cs) P Q l n [] v w (Sent s) (Sent t) p q k = both_sent s t k
never_sent (b ∷ bs) (c ∷ cs) P Q l n [] v w (Sent s) _ p q k = absurd q
never_sent (b ∷ bs) (c ∷ cs) P Q l n [] v w _ y p q k = absurd p
never_sent (b ∷ bs) (c ∷ cs) P Q l n (Sent s ∷ u) v w x y p q k =
    never_sent bs cs P Q (omega arith) n u v w x y p.1 q.1 k
never_sent (b ∷ bs) (c ∷ cs) P Q l n (_ ∷ u) v w x y p q k = absurd p

-- no bit is sent where both are known and different
no_common : (b c : Bit) (s : Bool) → ((Some b ≡ Some Zero) × (Some c ≡ Some One)) ⊎ ((Some b ≡ Some One) × (Some c ≡ Some Zero)) → Allows b s → Allows c s → ⊥
no_common Zero One s h a d = cc
no_common One Zero s h a d = cc
no_common Zero Zero s (inl h) a d = cc (h.1)
no_common Zero Zero s (inr h) a d = cc (h.0)
no_common One One s (inl h) a d = cc (h.0)
no_common One One s (inr h) a d = cc (h.1)
no_common Either c s (inl h) a d = cc (h.0)
no_common Either c s (inr h) a d = cc (h.0)
no_common b Either s (inl h) a d = cc (h.1)
no_common b Either s (inr h) a d = cc (h.1)

-- a bit that is known in both and different: from there on only one is live
pub never_split : (bs cs : List Bit) (k : ℕ) (P Q : Language) → SplitAt bs cs k → NeverClash (SentThen bs P) (SentThen cs Q)
never_split [] cs k P Q (inl h) u v w x y p q e = cc (h.0)
never_split [] cs k P Q (inr h) u v w x y p q e = cc (h.0)
never_split (b ∷ bs) [] k P Q (inl h) u v w x y p q e = cc (h.1)
never_split (b ∷ bs) [] k P Q (inr h) u v w x y p q e = cc (h.1)
never_split (b ∷ bs) (c ∷ cs) k P Q h [] v w (Sent s) (Sent t) p q e = both_sent s t e
never_split (b ∷ bs) (c ∷ cs) k P Q h [] v w (Sent s) _ p q e = absurd q
never_split (b ∷ bs) (c ∷ cs) k P Q h [] v w _ y p q e = absurd p
never_split (b ∷ bs) (c ∷ cs) zero P Q h (Sent s ∷ u) v w x y p q e = no_common b c s h p.0 q.0
never_split (b ∷ bs) (c ∷ cs) (suc k) P Q h (Sent s ∷ u) v w x y p q e = never_split bs cs k P Q h u v w x y p.1 q.1 e
never_split (b ∷ bs) (c ∷ cs) k P Q h (_ ∷ u) v w x y p q e = absurd p

-- ---- bits that are heard, and answers

never_heard : (n : ℕ) (P Q : Language) → NeverClash P Q → NeverClash (HeardThen n P) (HeardThen n Q)
never_heard zero P Q n u v w x y p q c = n u v w x y p q c
never_heard (suc k) P Q n [] v w (Heard s) (Heard t) p q c = both_heard s t c
never_heard (suc k) P Q n [] v w (Heard s) _ p q c = absurd q
never_heard (suc k) P Q n [] v w _ y p q c = absurd p
never_heard (suc k) P Q n (Heard s ∷ u) v w x y p q c = never_heard k P Q n u v w x y p q c
never_heard (suc k) P Q n (_ ∷ u) v w x y p q c = absurd p

pub never_answer : (P Q R S : Language) → NeverClash P R → NeverClash Q S → NeverClash (AnswerThen P Q) (AnswerThen R S)
never_answer P Q R S m n [] v w (Heard false) (Heard t) p q c = both_heard false t c
never_answer P Q R S m n [] v w (Heard true) (Heard t) p q c = both_heard true t c
never_answer P Q R S m n [] v w (Heard s) _ p q c = absurd q
never_answer P Q R S m n [] v w _ y p q c = absurd p
never_answer P Q R S m n (Heard false ∷ u) v w x y p q c = m u v w x y p q c
never_answer P Q R S m n (Heard true ∷ u) v w x y p q c = n u v w x y p q c
never_answer P Q R S m n (_ ∷ u) v w x y p q c = absurd p

-- ---- reads

never_byte : (a b : Bit) (P Q : Language) → NeverClash (SentThen (a ∷ []) P) (SentThen (b ∷ []) Q) → NeverClash (ByteThen a P) (ByteThen b Q)
never_byte a b P Q n = never_heard 8 (SentThen (a ∷ []) P) (SentThen (b ∷ []) Q) n

-- reads of m + 1 and of n + 1 bytes clash only after the last, where they are of one length
pub never_bytes : (m n : ℕ) (P Q : Language) → (m ≡ n → NeverClash P Q) → NeverClash (BytesThen m (ByteThen One P)) (BytesThen n (ByteThen One Q))
never_bytes zero zero P Q h = never_byte One One P Q (never_sent (One ∷ []) (One ∷ []) P Q refl (h refl))
never_bytes zero (suc n) P Q h =
    never_byte One Zero P (BytesThen n (ByteThen One Q)) (never_split (One ∷ []) (Zero ∷ []) 0 P (BytesThen n (ByteThen One Q)) (inr (refl, refl)))
never_bytes (suc m) zero P Q h =
    never_byte Zero One (BytesThen m (ByteThen One P)) Q (never_split (Zero ∷ []) (One ∷ []) 0 (BytesThen m (ByteThen One P)) Q (inl (refl, refl)))
never_bytes (suc m) (suc n) P Q h =
    never_byte Zero Zero (BytesThen m (ByteThen One P)) (BytesThen n (ByteThen One Q))
    (never_sent (Zero ∷ []) (Zero ∷ []) (BytesThen m (ByteThen One P)) (BytesThen n (ByteThen One Q)) refl (never_bytes m n P Q (λ e. h (ap suc e))))

pub never_read : (c d : Count) (P Q : Language) → (Meet c d → NeverClash P Q) → NeverClash (ReadThen c P) (ReadThen d Q)
never_read c d P Q h u v w x y p q k =
    never_bytes p.0 q.0 P Q (λ e. h (p.0 + 1, p.1, subst (λ (n : ℕ). InRange d (n + 1)) (sym e) q.1)) u v w x y p.2 q.2 k

-- ---- ends

pub never_again : (P Q : Language) → NeverClash P Q → NeverClash (AgainThen P) (AgainThen Q)
never_again P Q n [] v w Again Again p q (inl c) = c refl
never_again P Q n [] v w Again Again p q (inr c) = cc (c.0)
never_again P Q n [] v w Again _ p q c = absurd q
never_again P Q n [] v w _ y p q c = absurd p
never_again P Q n (Again ∷ u) v w x y p q c = n u v w x y p q c
never_again P Q n (_ ∷ u) v w x y p q c = absurd p

never_stop : NeverClash (Only Stop) (Only Stop)
never_stop [] v w x y p q (inl c) = c (let e : x ≡ Stop = cc in let f : y ≡ Stop = cc in ap kind_of (e ∙ sym f))
never_stop [] v w x y p q (inr c) = let e : x ≡ Stop = cc in let k : kind_of x ≡ kind.Stop = ap kind_of e in cc (c.0)
never_stop (a ∷ []) v w x y p q c = cc
never_stop (a ∷ b ∷ u) v w x y p q c = cc

-- ---- trees

length_of_write : (a : Address) → length (write_header a) ≡ 8
unfolding address_bits
length_of_write a = refl

length_of_read : (a : Address) → length (read_header a) ≡ 8
unfolding address_bits
length_of_read a = refl

length_of_pattern : (p : Pattern) → length (pattern_bits p) ≡ 8
unfolding pattern_bits
length_of_pattern p = refl

-- what a frame sends: its header, and what follows
pub behind_header : FrameTree → Language
behind_header (tree.write a x r) = AnswerThen (PayloadText x) (TailText r)
behind_header (tree.read a c x r) = AnswerThen (ReadThen c (TailText x)) (TailText r)

-- two headers or bytes without a known and different bit, and what follows each answer
pub never_answered : (bs cs : List Bit) (P Q R S : Language) → length bs ≡ length cs → NeverClash P R → NeverClash Q S → NeverClash (SentThen bs (AnswerThen P Q)) (SentThen cs (AnswerThen R S))
never_answered bs cs P Q R S l m n = never_sent bs cs (AnswerThen P Q) (AnswerThen R S) l (never_answer P Q R S m n)

mutual
  pub sound_frames : (p : ProofTree) (f g : FrameTree) → ProvesFrames p f g → NeverClash (FrameText f) (FrameText g)
  sound_frames (part k) (tree.write a x r) (tree.write b y s) h =
      never_split (write_header a) (write_header b) k (AnswerThen (PayloadText x) (TailText r)) (AnswerThen (PayloadText y) (TailText s)) h
  sound_frames (part k) (tree.write a x r) (tree.read b d y s) h =
      never_split (write_header a) (read_header b) k (AnswerThen (PayloadText x) (TailText r)) (AnswerThen (ReadThen d (TailText y)) (TailText s)) h
  sound_frames (part k) (tree.read a c x r) (tree.write b y s) h =
      never_split (read_header a) (write_header b) k (AnswerThen (ReadThen c (TailText x)) (TailText r)) (AnswerThen (PayloadText y) (TailText s)) h
  sound_frames (part k) (tree.read a c x r) (tree.read b d y s) h =
      never_split (read_header a) (read_header b) k (AnswerThen (ReadThen c (TailText x)) (TailText r)) (AnswerThen (ReadThen d (TailText y)) (TailText s)) h
  sound_frames (byte p q) (tree.write a x r) (tree.write b y s) h =
      never_answered (write_header a) (write_header b) (PayloadText x) (TailText r) (PayloadText y) (TailText s) (length_of_write a ∙ sym (length_of_write b)) (sound_payloads p x y h.0) (sound_tails q r s h.1)
  sound_frames (read p q) (tree.read a c x r) (tree.read b d y s) h =
      never_answered (read_header a) (read_header b) (ReadThen c (TailText x)) (TailText r) (ReadThen d (TailText y)) (TailText s) (length_of_read a ∙ sym (length_of_read b))
      (never_read c d (TailText x) (TailText y) (λ m. elim h.0 [ inl e ↦ absurd (e.1 m) | inr k ↦ sound_tails p x y k.1 ]))
      (sound_tails q r s h.1)
  sound_frames _ f g h = absurd h

  pub sound_payloads : (p : ProofTree) (x y : PayloadTree) → ProvesPayloads p x y → NeverClash (PayloadText x) (PayloadText y)
  sound_payloads (part k) (tree.byte a x r) (tree.byte b y s) h =
      never_split (pattern_bits a) (pattern_bits b) k (AnswerThen (PayloadText x) (TailText r)) (AnswerThen (PayloadText y) (TailText s)) h
  sound_payloads (byte p q) (tree.byte a x r) (tree.byte b y s) h =
      never_answered (pattern_bits a) (pattern_bits b) (PayloadText x) (TailText r) (PayloadText y) (TailText s) (length_of_pattern a ∙ sym (length_of_pattern b)) (sound_payloads p x y h.0) (sound_tails q r s h.1)
  sound_payloads p (tree.last r) (tree.last s) h = sound_tails p r s h
  sound_payloads _ x y h = absurd h

  pub sound_tails : (p : ProofTree) (r s : TailTree) → ProvesTails p r s → NeverClash (TailText r) (TailText s)
  sound_tails alike tree.stop tree.stop h = never_stop
  sound_tails (again p) (tree.again f) (tree.again g) h = never_again (FrameText f) (FrameText g) (sound_frames p f g h)
  sound_tails _ r s h = absurd h

-- what follows a participant's first header
behind : Sender → Language
behind (message f) = behind_header f
behind (interrupt a) = Only Claim

sender_sends : (s : Sender) (u : List Item) → SenderText s u → SentThen (header_of s) (behind s) u
unfolding behind behind_header
sender_sends (message (tree.write a x r)) u h = h
sender_sends (message (tree.read a c x r)) u h = h
sender_sends (interrupt a) u h = h

sound_headers : (p : ProofTree) (s t : Sender) → ProvesHeaders p (header_of s) (header_of t) → NeverClash (SenderText s) (SenderText t)
sound_headers (part k) s t h = λ u v w x y p q c.
    never_split (header_of s) (header_of t) k (behind s) (behind t) h u v w x y (sender_sends s (u ++ x ∷ v) p) (sender_sends t (u ++ y ∷ w) q) c
sound_headers _ s t h = absurd h

pub sound : (p : ProofTree) (s t : Sender) → Proves p s t → NeverClash (SenderText s) (SenderText t)
sound p (message f) (message g) h = sound_frames p f g h
sound p (message f) (interrupt b) h = sound_headers p (message f) (interrupt b) h
sound p (interrupt a) (message g) h = sound_headers p (interrupt a) (message g) h
sound p (interrupt a) (interrupt b) h = sound_headers p (interrupt a) (interrupt b) h

-- ---- a message never clashes with itself

abbrev mutual
  self_proof : FrameTree → ProofTree
  self_proof (tree.write a x r) = byte (payload_proof x) (tail_proof r)
  self_proof (tree.read a c x r) = read (tail_proof x) (tail_proof r)

  payload_proof : PayloadTree → ProofTree
  payload_proof (tree.byte a x r) = byte (payload_proof x) (tail_proof r)
  payload_proof (tree.last r) = tail_proof r

  tail_proof : TailTree → ProofTree
  tail_proof tree.stop = alike
  tail_proof (tree.again f) = again (self_proof f)

last_proves : (p : ProofTree) (r s : TailTree) → ProvesTails p r s → ProvesPayloads p (tree.last r) (tree.last s)
last_proves (part k) r s h = h
last_proves short r s h = h
last_proves (byte p q) r s h = h
last_proves (read p q) r s h = h
last_proves (again p) r s h = h
last_proves alike r s h = h

mutual
  frame_proves_itself : (f : FrameTree) → ProvesFrames (self_proof f) f f
  frame_proves_itself (tree.write a x r) = (payload_proves_itself x, tail_proves_itself r)
  frame_proves_itself (tree.read a c x r) = (inr ((c.least, (omega arith, c.ordered), (omega arith, c.ordered)), tail_proves_itself x), tail_proves_itself r)

  payload_proves_itself : (x : PayloadTree) → ProvesPayloads (payload_proof x) x x
  payload_proves_itself (tree.byte a x r) = (payload_proves_itself x, tail_proves_itself r)
  payload_proves_itself (tree.last r) = last_proves (tail_proof r) r r (tail_proves_itself r)

  tail_proves_itself : (t : TailTree) → ProvesTails (tail_proof t) t t
  tail_proves_itself tree.stop = tt
  tail_proves_itself (tree.again f) = frame_proves_itself f

one_kind_sent : (bs : List Bit) (P : Language) → OneKind P → OneKind (SentThen bs P)
one_kind_sent [] P o u v w x y p q = o u v w x y p q
one_kind_sent (b ∷ bs) P o [] v w (Sent s) (Sent t) p q = refl
one_kind_sent (b ∷ bs) P o [] v w (Sent s) _ p q = absurd q
one_kind_sent (b ∷ bs) P o [] v w _ y p q = absurd p
one_kind_sent (b ∷ bs) P o (Sent s ∷ u) v w x y p q = one_kind_sent bs P o u v w x y p.1 q.1
one_kind_sent (b ∷ bs) P o (_ ∷ u) v w x y p q = absurd p

one_kind_only : (e : Item) → OneKind (Only e)
one_kind_only e [] v w x y p q = ap kind_of (let f : x ≡ e = cc in let g : y ≡ e = cc in f ∙ sym g)
one_kind_only e (a ∷ []) v w x y p q = cc
one_kind_only e (a ∷ b ∷ u) v w x y p q = cc

pub offers_one_kind : (s : Sender) → OneKind (SenderText s)
offers_one_kind (message f) u v w x y p q =
    one_kind (kind_of x) (kind_of y) (λ c. sound_frames (self_proof f) f f (frame_proves_itself f) u v w x y p q c)
offers_one_kind (interrupt a) u v w x y p q =
    one_kind_sent (a ++ One ∷ []) (Only Claim) (one_kind_only Claim) u v w x y p q
