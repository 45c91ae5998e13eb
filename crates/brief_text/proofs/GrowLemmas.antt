-- The longest message that a message makes is the one with the most of its repeated byte; where it is within the limits,
-- each is.
use Rattle.std.proofs.Common.{◌≡◌, ℕ, zero, suc, ◌+◌, ◌-◌, ◌*◌, ◌<◌, ◌≤◌, true, List, Option, Some, None, refl, sym, subst, arith, inl, inr}
use Rattle.std.specs.Prelude.{◌⊎◌, All, nat_le}
use Rattle.std.proofs.Math.Nat.{mul-le-mul}
use Rattle.std.proofs.lemmas.Bool.{and_parts}
use Rattle.std.proofs.lemmas.List.FromFn.{get_or-map-range_with_len, length-map-range_with_len}
use Rattle.message_tree.specs.Sizes.{frame_bytes, payload_bytes, tail_bytes, frame_nodes, payload_nodes, tail_nodes}
use Rattle.message_tree.specs.Trees.{FrameTree, PayloadTree, TailTree}
use Rattle.message_tree.specs.declared.bits.Pattern.{Pattern}
use Rattle.plan_core.specs.Building.{size_refusal}
use Rattle.plan_core.proofs.BuildingLemmas.{size_allowed, size_fits}
use Rattle.brief_text.specs.declared.syntax.Lengths.{Lengths}
use Rattle.brief_text.specs.Codes.{at_start}
use Rattle.brief_text.specs.Drafts.{Draft, frame_meant, frame_on, bytes_meant, tail_meant, bits_said, how_often, repeated, member_meant, messages_meant}
use Rattle.brief_text.specs.Fitting.{frame_ranges, bytes_ranges, tail_ranges, often_ranges, made_ranges, range_count, IsWithin}
use Rattle.brief_text.specs.Grammar.{SpellsFrame, SpellsBytes, SpellsNext, SpellsRefused, SpellsOften, SpellsMade}
use Rattle.brief_tokens.specs.Tokens.{Tokens}
use Rattle.brief_text.specs.Trees.{Times, times, ranged, BriefFrame, write_to, read_from, BriefBytes, data_byte, made_byte, no_more, BriefTail, stop_here, go_on, Made, header, packet_code, checksum, chosen}
use Rattle.brief_text.specs.Words.{is_range, is_countable}
use Rattle.brief_text.proofs.BlockLemmas.{choice_range}
use Rattle.brief_text.proofs.PartLemmas.{repeated_nodes, repeated_bytes, most_often}
use Rattle.brief_text.proofs.PathLemmas.{on_outline, outline_of}
use Rattle.brief_text.proofs.TakesLemmas.{le_from}

-- ---- more of the byte makes a message longer

pub record Grows (nodes bytes nodes_after bytes_after : ℕ) : Type 0 where
  pub nodes_grow : nodes ≤ nodes_after
  pub bytes_grow : bytes ≤ bytes_after

repeated_grows : (k j : ℕ) (bits : Pattern) (a b : PayloadTree) (r q : TailTree) → k ≤ j → Grows (payload_nodes a) (payload_bytes a) (payload_nodes b) (payload_bytes b) → Grows (tail_nodes r) (tail_bytes r) (tail_nodes q) (tail_bytes q)
    → Grows (payload_nodes (repeated k bits a r)) (payload_bytes (repeated k bits a r)) (payload_nodes (repeated j bits b q)) (payload_bytes (repeated j bits b q))
repeated_grows k j bits a b r q more acked refused = record { nodes_grow = in_nodes; bytes_grow = in_bytes k j more }
  where
    in_nodes : payload_nodes (repeated k bits a r) ≤ payload_nodes (repeated j bits b q)
    in_nodes =
        let first = repeated_nodes k bits a r in
        let second = repeated_nodes j bits b q in
        let product : k * (tail_nodes r + 1) ≤ j * (tail_nodes q + 1) = mul-le-mul more (omega (arith, refused.nodes_grow)) in
        omega (arith, first, second, product, acked.nodes_grow)

    in_bytes : (m n : ℕ) → m ≤ n → payload_bytes (repeated m bits a r) ≤ payload_bytes (repeated n bits b q)
    in_bytes zero zero h = acked.bytes_grow
    in_bytes zero (suc n) h = let second = repeated_bytes n bits b q in omega (arith, second, acked.bytes_grow)
    in_bytes (suc m) zero h = absurd (omega arith)
    in_bytes (suc m) (suc n) h =
        let first = repeated_bytes m bits a r in
        let second = repeated_bytes n bits b q in
        omega (arith, first, second, acked.bytes_grow, refused.bytes_grow)

module _ (draft : Draft) (n m : ℕ) (more : n ≤ m) where
  often_grows : (often : Times) → how_often n often ≤ how_often m often
  often_grows (times k) = omega arith
  often_grows ranged = more

  abbrev FrameGrows : BriefFrame → Type 0
  FrameGrows f = Grows (frame_nodes (frame_meant draft n f)) (frame_bytes (frame_meant draft n f)) (frame_nodes (frame_meant draft m f)) (frame_bytes (frame_meant draft m f))

  abbrev BytesGrow : BriefBytes → Type 0
  BytesGrow b = Grows (payload_nodes (bytes_meant draft n b)) (payload_bytes (bytes_meant draft n b)) (payload_nodes (bytes_meant draft m b)) (payload_bytes (bytes_meant draft m b))

  abbrev TailGrows : BriefTail → Type 0
  TailGrows t = Grows (tail_nodes (tail_meant draft n t)) (tail_bytes (tail_meant draft n t)) (tail_nodes (tail_meant draft m t)) (tail_bytes (tail_meant draft m t))

  mutual
    frame_grows : (f : BriefFrame) → FrameGrows f
    frame_grows (write_to to refused acked) =
        let r = tail_grows refused in
        let a = bytes_grow acked in
        record { nodes_grow = omega (arith, r.nodes_grow, a.nodes_grow); bytes_grow = omega (arith, r.bytes_grow, a.bytes_grow) }
    frame_grows (read_from to count refused after) =
        let r = tail_grows refused in
        let a = tail_grows after in
        record { nodes_grow = omega (arith, r.nodes_grow, a.nodes_grow); bytes_grow = omega (arith, r.bytes_grow, a.bytes_grow) }

    bytes_grow : (b : BriefBytes) → BytesGrow b
    bytes_grow (data_byte bits often refused acked) = repeated_grows (how_often n often) (how_often m often) (bits_said draft bits) (bytes_meant draft n acked) (bytes_meant draft m acked) (tail_meant draft n refused) (tail_meant draft m refused) (often_grows often) (bytes_grow acked) (tail_grows refused)
    bytes_grow (made_byte made refused acked) =
        let r = tail_grows refused in
        let a = bytes_grow acked in
        record { nodes_grow = omega (arith, r.nodes_grow, a.nodes_grow); bytes_grow = omega (arith, r.bytes_grow, a.bytes_grow) }
    bytes_grow (no_more tail) = tail_grows tail

    tail_grows : (t : BriefTail) → TailGrows t
    tail_grows stop_here = record { nodes_grow = omega arith; bytes_grow = omega arith }
    tail_grows (go_on frame) = frame_grows frame

  size_grows : (f : BriefFrame) → size_refusal (frame_meant draft m f) ≡ None → size_refusal (frame_meant draft n f) ≡ None
  size_grows f e =
      let most = size_allowed (frame_meant draft m f) e in
      let g = frame_grows f in
      size_fits (frame_meant draft n f) (omega (arith, most.0, g.bytes_grow)) (omega (arith, most.1, g.nodes_grow))

-- ---- a range that is spelled has a HI

either_one : (a b : ℕ) → 1 ≤ a + b → (1 ≤ a) ⊎ (1 ≤ b)
either_one zero b h = inr (omega arith)
either_one (suc a) b h = inl (omega arith)

in_either : {P : Type 0} (a b : ℕ) → 1 ≤ a + b → (1 ≤ a → P) → (1 ≤ b → P) → P
in_either a b some f g = elim (either_one a b some) [ inl h ↦ f h | inr h ↦ g h ]

module _ (range : Lengths) where
  abbrev R : Option Lengths
  R = Some range

  abbrev IsRange : Type 0
  IsRange = is_range range.least range.greatest ≡ true

  often_range : (often : Times) (from to : Tokens) → SpellsOften R often from to → 1 ≤ often_ranges often → IsRange
  often_range (times n) from to s some = absurd (omega arith)
  often_range ranged from to s some = s.1

  made_range : (made : Made) (from to : Tokens) → SpellsMade R made from to → 1 ≤ made_ranges made → IsRange
  made_range (chosen choice) from to s some = choice_range choice range s.1 s.2
  made_range (header reads target) from to s some = absurd (omega arith)
  made_range packet_code from to s some = absurd (omega arith)
  made_range checksum from to s some = absurd (omega arith)

  mutual
    frame_range : (f : BriefFrame) (from to : Tokens) → SpellsFrame R f from to → 1 ≤ frame_ranges f → IsRange
    frame_range (write_to target refused acked) from to s some = in_either (tail_ranges refused) (bytes_ranges acked) some (refused_range refused s.2.0 s.2.2.0 s.2.2.1) (bytes_range acked s.2.2.0 to s.2.2.2)
    frame_range (read_from target count refused after) from to s some = in_either (tail_ranges refused) (tail_ranges after) some (refused_range refused s.2.2.0 s.2.2.2.0 s.2.2.2.1) (next_range after s.2.2.2.0 to s.2.2.2.2)

    bytes_range : (b : BriefBytes) (from to : Tokens) → SpellsBytes R b from to → 1 ≤ bytes_ranges b → IsRange
    bytes_range (data_byte bits often refused acked) from to s some =
        in_either (often_ranges often + tail_ranges refused) (bytes_ranges acked) some
        (λ h. in_either (often_ranges often) (tail_ranges refused) h (often_range often s.0 s.2.0 s.2.1) (refused_range refused s.2.0 s.2.2.0 s.2.2.1))
        (bytes_range acked s.2.2.0 to s.2.2.2)
    bytes_range (made_byte made refused acked) from to s some =
        in_either (made_ranges made + tail_ranges refused) (bytes_ranges acked) some
        (λ h. in_either (made_ranges made) (tail_ranges refused) h (made_range made from s.0 s.1) (refused_range refused s.0 s.2.0 s.2.1))
        (bytes_range acked s.2.0 to s.2.2)
    bytes_range (no_more tail) from to s some = next_range tail from to s some

    next_range : (t : BriefTail) (from to : Tokens) → SpellsNext R t from to → 1 ≤ tail_ranges t → IsRange
    next_range stop_here from to s some = absurd (omega arith)
    next_range (go_on frame) from to s some = frame_range frame from to s some

    refused_range : (t : BriefTail) (from to : Tokens) → SpellsRefused R t from to → 1 ≤ tail_ranges t → IsRange
    refused_range stop_here from to s some = absurd (omega arith)
    refused_range (go_on frame) from to s some = frame_range frame s.2.0 s.2.2.0 s.2.2.1 some

-- ---- each message that is made

members_within : (draft : Draft) (name : List ℕ) (f : BriefFrame) (range : Lengths) → size_refusal (frame_meant draft range.greatest f) ≡ None → All IsWithin (messages_meant draft name (Some range) f)
members_within draft name f range e k d below =
    let short : k < suc range.greatest - range.least = subst (λ l. k < l) (length-map-range_with_len (member_meant draft name f) range.least (suc range.greatest - range.least)) below in
    let is = get_or-map-range_with_len (member_meant draft name f) range.least (suc range.greatest - range.least) k (range.least + k) d short refl in
    subst IsWithin (sym is) (on_outline draft (range.least + k) f (size_grows draft (range.least + k) range.greatest (omega (arith, short)) f e))

pub each_within : (draft : Draft) (name : List ℕ) (range : Option Lengths) (f : BriefFrame) → size_refusal (frame_meant draft (most_often range) f) ≡ None → All IsWithin (messages_meant draft name range f)
each_within draft name None f e zero d below = on_outline draft 1 f e
each_within draft name None f e (suc k) d below = absurd (omega arith)
each_within draft name (Some range) f e k d below = members_within draft name f range e k d below

pub longest_within : (draft : Draft) (name : List ℕ) (range : Option Lengths) (f : BriefFrame) (from to : Tokens) → SpellsFrame range f from to → frame_ranges f ≡ range_count range → All IsWithin (messages_meant draft name range f) → size_refusal (frame_meant draft (most_often range) f) ≡ None
longest_within draft name None f from to s one each = outline_of draft 1 f (each 0 (name, frame_on draft 1 f at_start) (omega arith))
longest_within draft name (Some range) f from to s one each =
    let is = frame_range range f from to s (omega (arith, one)) in
    let ordered : range.least ≤ range.greatest = le_from range.least range.greatest (and_parts (is_countable range.greatest) (nat_le range.least range.greatest) is).1 in
    let k = range.greatest - range.least in
    let count = suc range.greatest - range.least in
    let short : k < count = omega (arith, ordered) in
    let d : List ℕ × FrameTree = member_meant draft name f 0 in
    let at = get_or-map-range_with_len (member_meant draft name f) range.least count k range.greatest d short (omega (arith, ordered)) in
    outline_of draft range.greatest f (subst IsWithin at (each k d (subst (λ l. k < l) (sym (length-map-range_with_len (member_meant draft name f) range.least count)) short)))
