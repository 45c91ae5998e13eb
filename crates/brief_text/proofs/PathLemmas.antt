-- A message has the size of its outline, whatever the bytes that follow from others or are choices.
use Rattle.std.proofs.Common.{◌≡◌, ℕ, zero, suc, ◌+◌, ◌-◌, ◌<◌, true, false, refl, ap, sym, ◌∙◌, arith, None, add-one}
use Rattle.message_tree.specs.Sizes.{frame_bytes, payload_bytes, tail_bytes, frame_nodes, payload_nodes, tail_nodes}
use Rattle.message_tree.specs.Trees.{PayloadTree, TailTree, byte}
use Rattle.message_tree.specs.declared.bits.Pattern.{Pattern}
use Rattle.plan_core.specs.Building.{size_refusal}
use Rattle.plan_core.proofs.BuildingLemmas.{size_allowed, size_fits}
use Rattle.brief_text.specs.Codes.{at_start, unknown, after_bits, times_after}
use Rattle.brief_text.specs.Drafts.{Draft, frame_meant, bytes_meant, tail_meant, frame_on, bytes_on, tail_on, bits_said, how_often, repeated, repeated_on, made_bits, after_header, after_made}
use Rattle.brief_text.specs.Trees.{BriefFrame, write_to, read_from, BriefBytes, data_byte, made_byte, no_more, BriefTail, stop_here, go_on}
use Rattle.brief_text.specs.declared.codes.Path.{Path}

abbrev PayloadSame : PayloadTree → PayloadTree → Type 0
PayloadSame a b = (payload_nodes a ≡ payload_nodes b) × (payload_bytes a ≡ payload_bytes b)

abbrev TailSame : TailTree → TailTree → Type 0
TailSame a b = (tail_nodes a ≡ tail_nodes b) × (tail_bytes a ≡ tail_bytes b)

repeated_same : (k : ℕ) (bits : Pattern) (acked : Path → PayloadTree) (refused : Path → TailTree) (a : PayloadTree) (r : TailTree) → ((p : Path) → PayloadSame (acked p) a) → ((p : Path) → TailSame (refused p) r)
    → (p : Path) → PayloadSame (repeated_on k bits acked refused p) (repeated k bits a r)
repeated_same zero bits acked refused a r first others p = first p
repeated_same (suc k) bits acked refused a r first others p =
    let more = repeated_same k bits acked refused a r first others (after_bits p bits) in
    let one = others (after_bits p bits) in
    (omega (arith, more.0, one.0), omega (arith, more.1, one.1))

module _ (draft : Draft) (n : ℕ) where
  mutual
    pub frame_same : (f : BriefFrame) (p : Path) → (frame_nodes (frame_on draft n f p) ≡ frame_nodes (frame_meant draft n f)) × (frame_bytes (frame_on draft n f p) ≡ frame_bytes (frame_meant draft n f))
    frame_same (write_to to refused acked) p =
        let a = bytes_same acked (after_header draft false to p) in
        let r = tail_same refused (after_header draft false to p) in
        (omega (arith, a.0, r.0), omega (arith, a.1, r.1))
    frame_same (read_from to count refused after) p =
        let a = tail_same after unknown in
        let r = tail_same refused (after_header draft true to p) in
        (omega (arith, a.0, r.0), omega (arith, a.1, r.1))

    bytes_same : (b : BriefBytes) (p : Path) → PayloadSame (bytes_on draft n b p) (bytes_meant draft n b)
    bytes_same (data_byte bits often refused acked) p =
        repeated_same (how_often n often) (bits_said draft bits) (bytes_on draft n acked) (tail_on draft n refused) (bytes_meant draft n acked) (tail_meant draft n refused) (bytes_same acked) (tail_same refused) p
    bytes_same (made_byte made refused acked) p =
        let a = bytes_same acked (after_made made p (made_bits draft n made p)) in
        let r = tail_same refused (after_made made p (made_bits draft n made p)) in
        (omega (arith, a.0, r.0), omega (arith, a.1, r.1))
    bytes_same (no_more tail) p = tail_same tail p

    tail_same : (t : BriefTail) (p : Path) → TailSame (tail_on draft n t p) (tail_meant draft n t)
    tail_same stop_here p = (refl, refl)
    tail_same (go_on frame) p = frame_same frame p

  pub on_outline : (f : BriefFrame) → size_refusal (frame_meant draft n f) ≡ None → size_refusal (frame_on draft n f at_start) ≡ None
  on_outline f e =
      let most = size_allowed (frame_meant draft n f) e in
      let same = frame_same f at_start in
      size_fits (frame_on draft n f at_start) (omega (arith, most.0, same.1)) (omega (arith, most.1, same.0))

  pub outline_of : (f : BriefFrame) → size_refusal (frame_on draft n f at_start) ≡ None → size_refusal (frame_meant draft n f) ≡ None
  outline_of f e =
      let most = size_allowed (frame_on draft n f at_start) e in
      let same = frame_same f at_start in
      size_fits (frame_meant draft n f) (omega (arith, most.0, same.1)) (omega (arith, most.1, same.0))

-- what follows a data byte that is acknowledged
abbrev pub acked_of : BriefBytes → BriefBytes
acked_of (data_byte bits often refused acked) = acked
acked_of bytes = bytes

-- ---- copies of a byte, the last of them first

module _ (bits : Pattern) (acked : Path → PayloadTree) (refused : Path → TailTree) (path : Path) where
  pub one_copy_more : (k times : ℕ) (p : PayloadTree) (t : TailTree) → k < times → p ≡ repeated_on k bits acked refused (times_after (times - k) bits path) → t ≡ refused (times_after (times - k) bits path)
      → byte bits p t ≡ repeated_on (k + 1) bits acked refused (times_after (times - (k + 1)) bits path)
  one_copy_more k times p t below e f =
      let one : times - k ≡ suc (times - (k + 1)) = omega arith in
      ap (λ x. byte bits x t) e
      ∙ ap (byte bits (repeated_on k bits acked refused (times_after (times - k) bits path))) f
      ∙ ap (λ m. byte bits (repeated_on k bits acked refused (times_after m bits path)) (refused (times_after m bits path))) one
      ∙ ap (λ j. repeated_on j bits acked refused (times_after (times - (k + 1)) bits path)) (sym (add-one k))

  pub all_copies : (k times : ℕ) → k ≡ times → repeated_on k bits acked refused (times_after (times - k) bits path) ≡ repeated_on times bits acked refused path
  all_copies k times is =
      let none : times - k ≡ 0 = omega (arith, is) in
      ap (λ m. repeated_on k bits acked refused (times_after m bits path)) none ∙ ap (λ j. repeated_on j bits acked refused path) is
