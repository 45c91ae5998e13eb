-- What the numbers of a list of nodes show: one tree each, and of two numbers when their trees never clash.
use Rattle.std.proofs.Common.{◌≡◌, ℕ, zero, suc, ◌+◌, ◌<◌, Bool, true, false, Some, Result, Ok, Err, IfOk, OnOk, List, [], ◌∷◌, ◌++◌, length, length-append, slice_get, refl, ap, sym, ◌∙◌, subst, arith, inl, inr, ◌⊎◌}
use Rattle.std.specs.Bool.{OnTrue}
use Rattle.std.specs.declared.alloc.AllocError.{AllocError}
use Rattle.std.specs.Map.{values_of}
use Rattle.message_tree.specs.declared.bits.Bit.{Bit}
use Rattle.message_tree.specs.declared.bits.Bit.TheVariants.{Zero, One}
use Rattle.message_tree.specs.declared.bits.Address.{Address}
use Rattle.message_tree.specs.declared.bits.Pattern.{Pattern}
use Rattle.message_tree.specs.declared.counts.Count.{Count}
use Rattle.message_tree.specs.Bits.{IsFirstSplit, NeverSplit}
use Rattle.message_tree.specs.Counts.{Meet, least_of}
use Rattle.message_tree.specs.Patterns.{pattern_bits, address_bits}
use Rattle.message_tree.specs.Trees as tree
use Rattle.message_tree.specs.Trees.{FrameTree, PayloadTree, TailTree}
use Rattle.certificate.specs.Proofs.{ProofTree, part, short, byte, read, again, alike}
use Rattle.pair_walk.specs.declared.shared.Node.{Node}
use Rattle.pair_walk.specs.declared.shared.Node.TheVariants as node
use Rattle.pair_walk.specs.Canonical.{CanonicalFrames, CanonicalPayloads, CanonicalTails}
use Rattle.pair_walk.specs.Shared.{ShowsFrame, ShowsPayload, ShowsTail, Keeps, NeverMeet, AreRoots}
use Rattle.plan_core.specs.Contents.{Contents}
use Rattle.pair_walk.proofs.HeaderLemmas.{first_in_header}
use Rattle.pair_walk.proofs.Nodes.{writes_proved, reads_proved}

pub on_true : (b : Bool) (P Q : Type 0) → (P → Q) → OnTrue b P → OnTrue b Q
on_true true P Q f h = f h
on_true false P Q f h = h

with_ok : (result : Result ℕ AllocError) (P Q : ℕ → Type 0) (R : Type 0) → OnOk result R → ((k : ℕ) → R → P k → Q k) → IfOk result P → IfOk result Q
with_ok (Ok k) P Q R r f h = f k r h
with_ok (Err e) P Q R r f h = tt

-- ---- what a number shows, by the node that stands there

module _ (nodes : List Node) (k : ℕ) where
  pub at_write : (a : Address) (i j : ℕ) → slice_get nodes k ≡ Some (node.Write a i j) → (f : FrameTree) → ShowsFrame nodes k f
      → (x : PayloadTree) × (r : TailTree) × (f ≡ tree.write a x r) × ShowsPayload nodes i x × ShowsTail nodes j r
  at_write a i j e (tree.write b x r) h =
      let d : Some (node.Write a i j) ≡ Some (node.Write b h.0 h.1) = sym e ∙ h.2 in
      let p : b ≡ a = cc in
      let q : h.0 ≡ i = cc in
      let s : h.1 ≡ j = cc in
      (x, r, ap (λ (c : Address). tree.write c x r) p, subst (λ (n : ℕ). ShowsPayload nodes n x) q h.3, subst (λ (n : ℕ). ShowsTail nodes n r) s h.4)
  at_write a i j e (tree.read b c x r) h =
      let d : Some (node.Write a i j) ≡ Some (node.Read b c h.0 h.1) = sym e ∙ h.2 in cc

  pub at_read : (a : Address) (c : Count) (i j : ℕ) → slice_get nodes k ≡ Some (node.Read a c i j) → (f : FrameTree) → ShowsFrame nodes k f
      → (x : TailTree) × (r : TailTree) × (f ≡ tree.read a c x r) × ShowsTail nodes i x × ShowsTail nodes j r
  at_read a c i j e (tree.read b d x r) h =
      let m : Some (node.Read a c i j) ≡ Some (node.Read b d h.0 h.1) = sym e ∙ h.2 in
      let p : b ≡ a = cc in
      let o : d ≡ c = cc in
      let q : h.0 ≡ i = cc in
      let s : h.1 ≡ j = cc in
      (x, r, ap (λ (v : Address). tree.read v d x r) p ∙ ap (λ (w : Count). tree.read a w x r) o, subst (λ (n : ℕ). ShowsTail nodes n x) q h.3, subst (λ (n : ℕ). ShowsTail nodes n r) s h.4)
  at_read a c i j e (tree.write b x r) h =
      let d : Some (node.Read a c i j) ≡ Some (node.Write b h.0 h.1) = sym e ∙ h.2 in cc

  pub at_again : (i : ℕ) → slice_get nodes k ≡ Some (node.Again i) → (t : TailTree) → ShowsTail nodes k t → (f : FrameTree) × (t ≡ tree.again f) × ShowsFrame nodes i f
  at_again i e (tree.again f) h =
      let d : Some (node.Again i) ≡ Some (node.Again h.0) = sym e ∙ h.1 in
      let q : h.0 ≡ i = cc in
      (f, refl, subst (λ (n : ℕ). ShowsFrame nodes n f) q h.2)
  at_again i e tree.stop h = let d : Some (node.Again i) ≡ Some node.Stop = sym e ∙ h in cc

  at_stop : slice_get nodes k ≡ Some node.Stop → (t : TailTree) → ShowsTail nodes k t → t ≡ tree.stop
  at_stop e tree.stop h = refl
  at_stop e (tree.again f) h = let d : Some node.Stop ≡ Some (node.Again h.0) = sym e ∙ h.1 in cc

  write_no_tail : (a : Address) (i j : ℕ) → slice_get nodes k ≡ Some (node.Write a i j) → (t : TailTree) → ShowsTail nodes k t → ⊥
  write_no_tail a i j e tree.stop h = let d : Some (node.Write a i j) ≡ Some node.Stop = sym e ∙ h in cc
  write_no_tail a i j e (tree.again f) h = let d : Some (node.Write a i j) ≡ Some (node.Again h.0) = sym e ∙ h.1 in cc

  read_no_tail : (a : Address) (c : Count) (i j : ℕ) → slice_get nodes k ≡ Some (node.Read a c i j) → (t : TailTree) → ShowsTail nodes k t → ⊥
  read_no_tail a c i j e tree.stop h = let d : Some (node.Read a c i j) ≡ Some node.Stop = sym e ∙ h in cc
  read_no_tail a c i j e (tree.again f) h = let d : Some (node.Read a c i j) ≡ Some (node.Again h.0) = sym e ∙ h.1 in cc

  byte_no_tail : (p : Pattern) (i j : ℕ) → slice_get nodes k ≡ Some (node.Byte p i j) → (t : TailTree) → ShowsTail nodes k t → ⊥
  byte_no_tail p i j e tree.stop h = let d : Some (node.Byte p i j) ≡ Some node.Stop = sym e ∙ h in cc
  byte_no_tail p i j e (tree.again f) h = let d : Some (node.Byte p i j) ≡ Some (node.Again h.0) = sym e ∙ h.1 in cc

  pub at_byte : (p : Pattern) (i j : ℕ) → slice_get nodes k ≡ Some (node.Byte p i j) → (v : PayloadTree) → ShowsPayload nodes k v
      → (x : PayloadTree) × (r : TailTree) × (v ≡ tree.byte p x r) × ShowsPayload nodes i x × ShowsTail nodes j r
  at_byte p i j e (tree.byte b x r) h =
      let d : Some (node.Byte p i j) ≡ Some (node.Byte b h.0 h.1) = sym e ∙ h.2 in
      let o : b ≡ p = cc in
      let q : h.0 ≡ i = cc in
      let s : h.1 ≡ j = cc in
      (x, r, ap (λ (c : Pattern). tree.byte c x r) o, subst (λ (n : ℕ). ShowsPayload nodes n x) q h.3, subst (λ (n : ℕ). ShowsTail nodes n r) s h.4)
  at_byte p i j e (tree.last t) h = absurd (byte_no_tail p i j e t h)

  write_no_payload : (a : Address) (i j : ℕ) → slice_get nodes k ≡ Some (node.Write a i j) → (v : PayloadTree) → ShowsPayload nodes k v → ⊥
  write_no_payload a i j e (tree.byte b x r) h = let d : Some (node.Write a i j) ≡ Some (node.Byte b h.0 h.1) = sym e ∙ h.2 in cc
  write_no_payload a i j e (tree.last t) h = write_no_tail a i j e t h

  read_no_payload : (a : Address) (c : Count) (i j : ℕ) → slice_get nodes k ≡ Some (node.Read a c i j) → (v : PayloadTree) → ShowsPayload nodes k v → ⊥
  read_no_payload a c i j e (tree.byte b x r) h = let d : Some (node.Read a c i j) ≡ Some (node.Byte b h.0 h.1) = sym e ∙ h.2 in cc
  read_no_payload a c i j e (tree.last t) h = read_no_tail a c i j e t h

  byte_no_frame : (p : Pattern) (i j : ℕ) → slice_get nodes k ≡ Some (node.Byte p i j) → (f : FrameTree) → ShowsFrame nodes k f → ⊥
  byte_no_frame p i j e (tree.write b x r) h = let d : Some (node.Byte p i j) ≡ Some (node.Write b h.0 h.1) = sym e ∙ h.2 in cc
  byte_no_frame p i j e (tree.read b c x r) h = let d : Some (node.Byte p i j) ≡ Some (node.Read b c h.0 h.1) = sym e ∙ h.2 in cc

  again_no_frame : (i : ℕ) → slice_get nodes k ≡ Some (node.Again i) → (f : FrameTree) → ShowsFrame nodes k f → ⊥
  again_no_frame i e (tree.write b x r) h = let d : Some (node.Again i) ≡ Some (node.Write b h.0 h.1) = sym e ∙ h.2 in cc
  again_no_frame i e (tree.read b c x r) h = let d : Some (node.Again i) ≡ Some (node.Read b c h.0 h.1) = sym e ∙ h.2 in cc

  again_payload : (i : ℕ) → slice_get nodes k ≡ Some (node.Again i) → (v : PayloadTree) → ShowsPayload nodes k v → (f : FrameTree) × (v ≡ tree.last (tree.again f)) × ShowsFrame nodes i f
  again_payload i e (tree.byte b x r) h = let d : Some (node.Again i) ≡ Some (node.Byte b h.0 h.1) = sym e ∙ h.2 in cc
  again_payload i e (tree.last t) h =
      let w = at_again i e t h in
      (w.0, ap (λ (s : TailTree). tree.last s) w.1, w.2)

-- ---- a number shows one tree

mutual
  one_frame : (nodes : List Node) (k : ℕ) (f g : FrameTree) → ShowsFrame nodes k f → ShowsFrame nodes k g → f ≡ g
  one_frame nodes k (tree.write a x r) g h i =
      let w = at_write nodes k a h.0 h.1 h.2 g i in
      let e = one_payload nodes h.0 x w.0 h.3 w.3 in
      let d = one_tail nodes h.1 r w.1 h.4 w.4 in
      let s = w.2 in
      cc (e, d, s)
  one_frame nodes k (tree.read a c x r) g h i =
      let w = at_read nodes k a c h.0 h.1 h.2 g i in
      let e = one_tail nodes h.0 x w.0 h.3 w.3 in
      let d = one_tail nodes h.1 r w.1 h.4 w.4 in
      let s = w.2 in
      cc (e, d, s)

  one_payload : (nodes : List Node) (k : ℕ) (v w : PayloadTree) → ShowsPayload nodes k v → ShowsPayload nodes k w → v ≡ w
  one_payload nodes k (tree.byte p x r) v h i =
      let w = at_byte nodes k p h.0 h.1 h.2 v i in
      let e = one_payload nodes h.0 x w.0 h.3 w.3 in
      let d = one_tail nodes h.1 r w.1 h.4 w.4 in
      let s = w.2 in
      cc (e, d, s)
  one_payload nodes k (tree.last t) (tree.last s) h i = ap (λ (r : TailTree). tree.last r) (one_tail nodes k t s h i)
  one_payload nodes k (tree.last t) (tree.byte p x r) h i = absurd (byte_no_tail nodes k p i.0 i.1 i.2 t h)

  one_tail : (nodes : List Node) (k : ℕ) (r s : TailTree) → ShowsTail nodes k r → ShowsTail nodes k s → r ≡ s
  one_tail nodes k tree.stop s h i = sym (at_stop nodes k h s i)
  one_tail nodes k (tree.again f) s h i =
      let w = at_again nodes k h.0 h.1 s i in
      ap (λ (g : FrameTree). tree.again g) (one_frame nodes h.0 f w.0 h.2 w.2) ∙ sym w.1

-- ---- a tree never clashes with itself

pub never_itself : (xs : List Bit) → NeverSplit xs xs
never_itself xs k (inl h) = let d : Some Zero ≡ Some One = sym h.0 ∙ h.1 in cc
never_itself xs k (inr h) = let d : Some One ≡ Some Zero = sym h.0 ∙ h.1 in cc

pub meets_itself : (c : Count) → Meet c c
meets_itself c = (least_of c, (omega arith, c.ordered), (omega arith, c.ordered))

tails_between : (p : ProofTree) (r s : TailTree) → CanonicalTails p r s → CanonicalPayloads p (tree.last r) (tree.last s)
tails_between (part k) r s h = h
tails_between short r s h = h
tails_between (byte p q) r s h = h
tails_between (read p q) r s h = h
tails_between (again p) r s h = h
tails_between alike r s h = h

mutual
  frame_itself : (f : FrameTree) → (p : ProofTree) × CanonicalFrames p f f
  frame_itself (tree.write a x r) =
      let p = payload_itself x in
      let q = tail_itself r in
      (byte p.0 q.0, writes_proved a a x r x r (never_itself (address_bits a)) p.0 q.0 p.1 q.1)
  frame_itself (tree.read a c x r) =
      let p = tail_itself x in
      let q = tail_itself r in
      (read p.0 q.0, reads_proved a a c c x r x r (never_itself (address_bits a)) p.0 q.0 (inr (meets_itself c, p.1)) q.1)

  payload_itself : (x : PayloadTree) → (p : ProofTree) × CanonicalPayloads p x x
  payload_itself (tree.byte b x r) =
      let p = payload_itself x in
      let q = tail_itself r in
      (byte p.0 q.0, (never_itself (pattern_bits b), p.1, q.1))
  payload_itself (tree.last t) =
      let p = tail_itself t in
      (p.0, tails_between p.0 t t p.1)

  tail_itself : (t : TailTree) → (p : ProofTree) × CanonicalTails p t t
  tail_itself tree.stop = (alike, tt)
  tail_itself (tree.again f) =
      let p = frame_itself f in
      (again p.0, p.1)

pub never_same : (nodes : List Node) (a b : ℕ) → a ≡ b → NeverMeet nodes a b
never_same nodes a b e =
    let same : NeverMeet nodes a a = record {
      frames = λ f g h i. subst (λ (t : FrameTree). (p : ProofTree) × CanonicalFrames p f t) (one_frame nodes a f g h i) (frame_itself f);
      payloads = λ x y h i. subst (λ (t : PayloadTree). (p : ProofTree) × CanonicalPayloads p x t) (one_payload nodes a x y h i) (payload_itself x);
      tails = λ r s h i. subst (λ (t : TailTree). (p : ProofTree) × CanonicalTails p r t) (one_tail nodes a r s h i) (tail_itself r);
    } in
    subst (NeverMeet nodes a) e same

-- ---- two nodes

module _ (nodes : List Node) (a b : ℕ) where
  pub agains_follow : (x y : ℕ) → slice_get nodes a ≡ Some (node.Again x) → slice_get nodes b ≡ Some (node.Again y) → NeverMeet nodes x y → NeverMeet nodes a b
  agains_follow x y e d n = record {
    frames = λ f g h i. absurd (again_no_frame nodes a x e f h);
    payloads = λ u v h i.
        let w = again_payload nodes a x e u h in
        let z = again_payload nodes b y d v i in
        let c = n.frames w.0 z.0 w.2 z.2 in
        rw (w.1, z.1) (again c.0, c.1);
    tails = λ r s h i.
        let w = at_again nodes a x e r h in
        let z = at_again nodes b y d s i in
        let c = n.frames w.0 z.0 w.2 z.2 in
        rw (w.1, z.1) (again c.0, c.1);
  }

  module _ (p q : Pattern) (x y r s : ℕ) (e : slice_get nodes a ≡ Some (node.Byte p x r)) (d : slice_get nodes b ≡ Some (node.Byte q y s)) where
    by_bytes : ((x' y' : PayloadTree) (r' s' : TailTree) → ShowsPayload nodes x x' → ShowsPayload nodes y y' → ShowsTail nodes r r' → ShowsTail nodes s s' → (c : ProofTree) × CanonicalPayloads c (tree.byte p x' r') (tree.byte q y' s'))
        → NeverMeet nodes a b
    by_bytes make = record {
      frames = λ f g h i. absurd (byte_no_frame nodes a p x r e f h);
      payloads = λ u v h i.
          let w = at_byte nodes a p x r e u h in
          let z = at_byte nodes b q y s d v i in
          rw (w.2, z.2) (make w.0 z.0 w.1 z.1 w.3 z.3 w.4 z.4);
      tails = λ t o h i. absurd (byte_no_tail nodes a p x r e t h);
    }

    pub bytes_part : (k : ℕ) → IsFirstSplit (pattern_bits p) (pattern_bits q) k → NeverMeet nodes a b
    bytes_part k f = by_bytes (λ x' y' r' s' h i j o. (part k, f))

    pub bytes_follow : NeverSplit (pattern_bits p) (pattern_bits q) → NeverMeet nodes x y × NeverMeet nodes r s → NeverMeet nodes a b
    bytes_follow n m = by_bytes (λ x' y' r' s' h i j o.
        let u = m.0.payloads x' y' h i in
        let v = m.1.tails r' s' j o in
        (byte u.0 v.0, (n, u.1, v.1)))

  module _ (p q : Address) (x y r s : ℕ) (e : slice_get nodes a ≡ Some (node.Write p x r)) (d : slice_get nodes b ≡ Some (node.Write q y s)) where
    by_writes : ((x' y' : PayloadTree) (r' s' : TailTree) → ShowsPayload nodes x x' → ShowsPayload nodes y y' → ShowsTail nodes r r' → ShowsTail nodes s s' → (c : ProofTree) × CanonicalFrames c (tree.write p x' r') (tree.write q y' s'))
        → NeverMeet nodes a b
    by_writes make = record {
      frames = λ f g h i.
          let w = at_write nodes a p x r e f h in
          let z = at_write nodes b q y s d g i in
          rw (w.2, z.2) (make w.0 z.0 w.1 z.1 w.3 z.3 w.4 z.4);
      payloads = λ u v h i. absurd (write_no_payload nodes a p x r e u h);
      tails = λ t o h i. absurd (write_no_tail nodes a p x r e t h);
    }

    pub writes_part : (k : ℕ) → IsFirstSplit (address_bits p) (address_bits q) k → NeverMeet nodes a b
    writes_part k f = by_writes (λ x' y' r' s' h i j o. (part k, first_in_header (address_bits p) (address_bits q) (Zero ∷ []) (Zero ∷ []) k f))

    pub writes_follow : NeverSplit (address_bits p) (address_bits q) → NeverMeet nodes x y × NeverMeet nodes r s → NeverMeet nodes a b
    writes_follow n m = by_writes (λ x' y' r' s' h i j o.
        let u = m.0.payloads x' y' h i in
        let v = m.1.tails r' s' j o in
        (byte u.0 v.0, writes_proved p q x' r' y' s' n u.0 v.0 u.1 v.1))

  module _ (p q : Address) (c c' : Count) (x y r s : ℕ) (e : slice_get nodes a ≡ Some (node.Read p c x r)) (d : slice_get nodes b ≡ Some (node.Read q c' y s)) where
    by_reads : ((x' y' r' s' : TailTree) → ShowsTail nodes x x' → ShowsTail nodes y y' → ShowsTail nodes r r' → ShowsTail nodes s s' → (o : ProofTree) × CanonicalFrames o (tree.read p c x' r') (tree.read q c' y' s'))
        → NeverMeet nodes a b
    by_reads make = record {
      frames = λ f g h i.
          let w = at_read nodes a p c x r e f h in
          let z = at_read nodes b q c' y s d g i in
          rw (w.2, z.2) (make w.0 z.0 w.1 z.1 w.3 z.3 w.4 z.4);
      payloads = λ u v h i. absurd (read_no_payload nodes a p c x r e u h);
      tails = λ t o h i. absurd (read_no_tail nodes a p c x r e t h);
    }

    pub reads_part : (k : ℕ) → IsFirstSplit (address_bits p) (address_bits q) k → NeverMeet nodes a b
    reads_part k f = by_reads (λ x' y' r' s' h i j o. (part k, first_in_header (address_bits p) (address_bits q) (One ∷ []) (One ∷ []) k f))

    pub reads_follow : NeverSplit (address_bits p) (address_bits q) → Meet c c' → NeverMeet nodes x y × NeverMeet nodes r s → NeverMeet nodes a b
    reads_follow n meet m = by_reads (λ x' y' r' s' h i j o.
        let u = m.0.tails x' y' h i in
        let v = m.1.tails r' s' j o in
        (read u.0 v.0, reads_proved p q c c' x' r' y' s' n u.0 v.0 (inr (meet, u.1)) v.1))

-- ---- a list that grows keeps what is shown

mutual
  pub keeps_frame : (old new : List Node) → Keeps old new → (k : ℕ) (f : FrameTree) → ShowsFrame old k f → ShowsFrame new k f
  keeps_frame old new m k (tree.write a x r) h = (h.0, h.1, m k _ h.2, keeps_payload old new m h.0 x h.3, keeps_tail old new m h.1 r h.4)
  keeps_frame old new m k (tree.read a c x r) h = (h.0, h.1, m k _ h.2, keeps_tail old new m h.0 x h.3, keeps_tail old new m h.1 r h.4)

  pub keeps_payload : (old new : List Node) → Keeps old new → (k : ℕ) (x : PayloadTree) → ShowsPayload old k x → ShowsPayload new k x
  keeps_payload old new m k (tree.byte p x r) h = (h.0, h.1, m k _ h.2, keeps_payload old new m h.0 x h.3, keeps_tail old new m h.1 r h.4)
  keeps_payload old new m k (tree.last t) h = keeps_tail old new m k t h

  pub keeps_tail : (old new : List Node) → Keeps old new → (k : ℕ) (r : TailTree) → ShowsTail old k r → ShowsTail new k r
  keeps_tail old new m k tree.stop h = m k _ h
  keeps_tail old new m k (tree.again f) h = (h.0, m k _ h.1, keeps_frame old new m h.0 f h.2)

-- a message with a number below their count is there
pub message_there : (ms : List (List ℕ × FrameTree)) (m : ℕ) → m < length ms → (f : FrameTree) × (slice_get (values_of ms) m ≡ Some f)
message_there [] m lt = absurd (omega arith)
message_there (x ∷ ms) zero lt = (x.1, refl)
message_there (x ∷ ms) (suc m) lt = message_there ms m (omega arith)

-- ---- a node that is put behind what follows it

module _ (before now after : List Node) (j i : ℕ) (r : TailTree) (result : Result ℕ AllocError) where
  pub gathered_write : (a : Address) (x : PayloadTree) (f : FrameTree) → f ≡ tree.write a x r → ShowsTail before j r → Keeps before now → ShowsPayload now i x → OnOk result (Keeps now after)
      → IfOk result (λ k. slice_get after k ≡ Some (node.Write a i j)) → IfOk result (λ k. ShowsFrame after k f)
  gathered_write a x f e t m p n s =
      with_ok result (λ k. slice_get after k ≡ Some (node.Write a i j)) (λ k. ShowsFrame after k f) (Keeps now after) n (λ k l g. rw e (i, j, g, keeps_payload now after l i x p, keeps_tail now after l j r (keeps_tail before now m j r t))) s

  pub gathered_read : (a : Address) (c : Count) (x : TailTree) (f : FrameTree) → f ≡ tree.read a c x r → ShowsTail before j r → Keeps before now → ShowsTail now i x → OnOk result (Keeps now after)
      → IfOk result (λ k. slice_get after k ≡ Some (node.Read a c i j)) → IfOk result (λ k. ShowsFrame after k f)
  gathered_read a c x f e t m p n s =
      with_ok result (λ k. slice_get after k ≡ Some (node.Read a c i j)) (λ k. ShowsFrame after k f) (Keeps now after) n (λ k l g. rw e (i, j, g, keeps_tail now after l i x p, keeps_tail now after l j r (keeps_tail before now m j r t))) s

  pub gathered_byte : (b : Pattern) (x v : PayloadTree) → v ≡ tree.byte b x r → ShowsTail before j r → Keeps before now → ShowsPayload now i x → OnOk result (Keeps now after)
      → IfOk result (λ k. slice_get after k ≡ Some (node.Byte b i j)) → IfOk result (λ k. ShowsPayload after k v)
  gathered_byte b x v e t m p n s =
      with_ok result (λ k. slice_get after k ≡ Some (node.Byte b i j)) (λ k. ShowsPayload after k v) (Keeps now after) n (λ k l g. rw e (i, j, g, keeps_payload now after l i x p, keeps_tail now after l j r (keeps_tail before now m j r t))) s

pub gathered_again : (now after : List Node) (i : ℕ) (result : Result ℕ AllocError) (f : FrameTree) (t : TailTree) → t ≡ tree.again f → ShowsFrame now i f → OnOk result (Keeps now after)
    → IfOk result (λ k. slice_get after k ≡ Some (node.Again i)) → IfOk result (λ k. ShowsTail after k t)
gathered_again now after i result f t e p n s =
    with_ok result (λ k. slice_get after k ≡ Some (node.Again i)) (λ k. ShowsTail after k t) (Keeps now after) n (λ k l g. rw e (i, g, keeps_frame now after l i f p)) s

-- ---- one message more

pub at_snoc : {A : Type 0} (xs : List A) (x : A) (m : ℕ) (y : A) → slice_get (xs ++ x ∷ []) m ≡ Some y → (slice_get xs m ≡ Some y) ⊎ ((m ≡ length xs) × (x ≡ y))
at_snoc [] x zero y e = let d : x ≡ y = cc in inr (refl, d)
at_snoc [] x (suc m) y e = cc
at_snoc (z ∷ xs) x zero y e = inl e
at_snoc (z ∷ xs) x (suc m) y e =
    elim (at_snoc xs x m y e) [ inl d ↦ inl d | inr d ↦ inr (ap suc d.0, d.1) ]

pub no_roots : (plan : Contents) (nodes : List Node) (roots : List ℕ) → roots ≡ [] → AreRoots plan nodes roots 0
no_roots plan nodes roots e = rw e (record { sized = refl; shown = λ m k f h i. cc })

pub root_added : (plan : Contents) (old new : List Node) (roots more : List ℕ) (n root : ℕ) (g : FrameTree) → AreRoots plan old roots n → Keeps old new → slice_get (values_of plan.messages) n ≡ Some g → ShowsFrame new root g
    → more ≡ roots ++ root ∷ [] → AreRoots plan new more (n + 1)
root_added plan old new roots more n root g are keeps there shows e = record {
  sized = ap length e ∙ length-append roots (root ∷ []) ∙ ap (λ (k : ℕ). k + 1) are.sized;
  shown = λ m k f h i.
      elim (at_snoc roots root m k (rw e at i)) [
        | inl d ↦ keeps_frame old new keeps k f (are.shown m k f h d)
        | inr d ↦
            let at_n : m ≡ n = d.0 ∙ are.sized in
            let same : Some g ≡ Some f = sym there ∙ ap (slice_get (values_of plan.messages)) (sym at_n) ∙ h in
            let is : g ≡ f = cc in
            subst (λ (t : FrameTree). ShowsFrame new k t) is (subst (λ (j : ℕ). ShowsFrame new j g) d.1 shows)
      ];
}
