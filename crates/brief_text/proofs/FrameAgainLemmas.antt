-- A message that is spelled so is read again, within the limits.
use Rattle.std.proofs.Common.{◌≡◌, ℕ, suc, ◌+◌, ◌-◌, ◌*◌, ◌≤◌, true, false, Option, refl, ap, sym, ◌∙◌, subst, arith, inl, inr}
use Rattle.std.specs.Prelude.{Ok, max}
use Rattle.message_tree.specs.Counts.{greatest_of}
use Rattle.message_tree.specs.Sizes.{frame_bytes, payload_bytes, tail_bytes, frame_nodes, payload_nodes, tail_nodes}
use Rattle.message_tree.specs.declared.bits.Address.{Address}
use Rattle.message_tree.specs.declared.bits.Pattern.{Pattern}
use Rattle.message_tree.specs.declared.counts.Count.{Count}
use Rattle.plan_core.specs.declared.limits.TheConstants.{MOST_NODES}
use Rattle.plan_text.specs.Reader.{◌>>=◌, writes, reads}
use Rattle.brief_tokens.specs.declared.symbols.Keyword.TheVariants as keywords
use Rattle.brief_tokens.specs.declared.symbols.Sign.TheVariants as signs
use Rattle.brief_text.specs.declared.syntax.Lengths.{Lengths}
use Rattle.brief_text.specs.Drafts.{frame_meant, bytes_meant, tail_meant, bits_said, how_often, repeated}
use Rattle.brief_text.specs.Fitting.{KnowsFrame, KnowsBytes, KnowsTail, frame_ranges, bytes_ranges, tail_ranges, range_count, IsAllowed}
use Rattle.brief_text.specs.Frames.{Around, form_in, stops, opens, ends_with, frame_in, frames_at}
use Rattle.brief_text.specs.Grammar.{SpellsFrame, SpellsBytes, SpellsNext, SpellsRefused}
use Rattle.brief_text.specs.Places.{close_in}
use Rattle.brief_text.specs.Standing.{refused_at, next_at, payload_at}
use Rattle.brief_tokens.specs.Tokens.{keyword, sign, Tokens}
use Rattle.brief_text.specs.Trees.{Said, Times, BriefFrame, write_to, read_from, BriefBytes, data_byte, made_byte, no_more, BriefTail, stop_here, go_on, Made}
use Rattle.brief_text.proofs.AgainLemmas.{spot, token_again, past_again, to_again, data_again, data_begins, count_again, node_again, often_some, Again, often_again}
use Rattle.brief_text.proofs.FollowLemmas.{closes, closed, begins_else, next_stays, refused_stays, next_apart, bytes_apart, refused_apart, data_is_no_choice}
use Rattle.brief_text.proofs.PartLemmas.{most_often, repeated_nodes, repeated_bytes, Agrees}
use Rattle.brief_text.proofs.TakesLemmas.{done}
use Rattle.brief_text.proofs.MadeAgainLemmas.{made_again}
use Rattle.brief_text.proofs.StepLemmas.{write_in_is, read_in_is}
use Rattle.brief_text.proofs.FrontLemmas.{payload_made, payload_data, payload_last}

module _ (g : Around) (R : Option Lengths) (allowed : IsAllowed g.draft g.name R) where
  abbrev n : ℕ
  n = most_often R

  -- what is spelled from one place to another is read there, if its longest path has so many bytes at most
  abbrev FrameAgain : BriefFrame → Type 0
  FrameAgain f = (room copies nodes : ℕ) (p : Option Lengths) (from to : Tokens) → SpellsFrame R f from to → closes to ≡ true → KnowsFrame g.draft f → frame_bytes (frame_meant g.draft n f) ≤ room
      → nodes + copies * frame_nodes (frame_meant g.draft n f) ≤ MOST_NODES → Agrees p R → range_count p + frame_ranges f ≤ 1
      → Again R (frames_at g room copies (spot from nodes p)) f to (nodes + copies * frame_nodes (frame_meant g.draft n f)) (frame_ranges f) p

  abbrev BytesAgain : BriefBytes → Type 0
  BytesAgain b = (room copies nodes : ℕ) (p : Option Lengths) (from to : Tokens) → SpellsBytes R b from to → closes to ≡ true → KnowsBytes g.draft b → payload_bytes (bytes_meant g.draft n b) ≤ room
      → nodes + copies * payload_nodes (bytes_meant g.draft n b) ≤ MOST_NODES → Agrees p R → range_count p + bytes_ranges b ≤ 1
      → Again R (payload_at g room copies (spot from nodes p)) b to (nodes + copies * payload_nodes (bytes_meant g.draft n b)) (bytes_ranges b) p

  abbrev NextAgain : BriefTail → Type 0
  NextAgain t = (room copies nodes : ℕ) (p : Option Lengths) (from to : Tokens) → SpellsNext R t from to → closes to ≡ true → KnowsTail g.draft t → tail_bytes (tail_meant g.draft n t) ≤ room
      → nodes + copies * tail_nodes (tail_meant g.draft n t) ≤ MOST_NODES → Agrees p R → range_count p + tail_ranges t ≤ 1
      → Again R (next_at g room copies (spot from nodes p)) t to (nodes + copies * tail_nodes (tail_meant g.draft n t)) (tail_ranges t) p

  -- no other `else` follows
  abbrev RefusedAgain : BriefTail → Type 0
  RefusedAgain t = (room copies nodes : ℕ) (p : Option Lengths) (from to : Tokens) → SpellsRefused R t from to → begins_else to ≡ false → KnowsTail g.draft t → tail_bytes (tail_meant g.draft n t) ≤ room
      → nodes + copies * tail_nodes (tail_meant g.draft n t) ≤ MOST_NODES → Agrees p R → range_count p + tail_ranges t ≤ 1
      → Again R (refused_at g room copies (spot from nodes p)) t to (nodes + copies * tail_nodes (tail_meant g.draft n t)) (tail_ranges t) p

  times_zero : (nodes copies : ℕ) → nodes + copies * 0 ≡ nodes
  times_zero nodes copies = omega arith

  next_none : NextAgain stop_here
  next_none room copies nodes p from to s e known path limit agrees once =
      let c = closed from (ap closes (sym s) ∙ e) in
      record { range = p; is = next_stays g.draft (frame_in g room 0 copies) from (spot from nodes p) c.no_frame ∙ rw (s, times_zero nodes copies) refl; agrees = agrees; count = omega arith }

  refused_none : RefusedAgain stop_here
  refused_none room copies nodes p from to (inl s) other known path limit agrees once =
      record { range = p; is = refused_stays g.draft (frame_in g room 0 copies) from (spot from nodes p) (ap begins_else (sym s) ∙ other) ∙ rw (s, times_zero nodes copies) refl; agrees = agrees; count = omega arith }
  refused_none room copies nodes p from to (inr s) other known path limit agrees once =
      record { range = p; is = rw (s.1.1, token_again nodes p ends_with (keyword keywords.Stop) stops s.0 to s.2 refl, times_zero nodes copies) refl; agrees = agrees; count = omega arith }

  module _ (f : BriefFrame) (frame : FrameAgain f) where
    next_more : NextAgain (go_on f)
    next_more room copies nodes p from to s e known path limit agrees once =
        let h = frame room copies nodes p from to s e known path limit agrees once in
        record { range = h.range; is = begins f from to s ∙ rw h.is refl; agrees = h.agrees; count = h.count }
      where
        begins : (f : BriefFrame) (from to : Tokens) → SpellsFrame R f from to → next_at g room copies (spot from nodes p) ≡ (frames_at g room copies (spot from nodes p) >>= λ frame. Ok (go_on frame.0, frame.1))
        begins (write_to a b c) from to s = rw s.1.1 refl
        begins (read_from a b c d) from to s = rw s.1.1 refl

    refused_more : RefusedAgain (go_on f)
    refused_more room copies nodes p from to s other known path limit agrees once =
        let h = frame room copies nodes p s.2.0 s.2.2.0 s.2.2.1 (ap closes s.2.2.2.1) known path limit agrees once in
        record {
          range = h.range;
          is = rw (s.1.1, token_again nodes p ends_with (sign signs.Open) opens s.0 s.2.0 s.2.1 refl, h.is, past_again _ h.range close_in (sign signs.Close) s.2.2.0 to s.2.2.2 refl) refl;
          agrees = h.agrees;
          count = h.count;
        }

  write_again : (to : Said Address) (refused : BriefTail) (acked : BriefBytes) → RefusedAgain refused → BytesAgain acked → FrameAgain (write_to to refused acked)
  write_again target refused acked refused_too acked_too room copies nodes p from to s e known path limit agrees once =
      let form = token_again nodes p form_in (keyword keywords.Write) writes from s.0 s.1 refl in
      let said = to_again nodes p g.draft target s.0 s.2.0 s.2.1 known.0 in
      let node = node_again nodes p room copies said.0 s.2.0 (omega arith) (omega arith) in
      let r = refused_too (room - 1) copies (nodes + copies) p s.2.0 s.2.2.0 s.2.2.1 (bytes_apart R acked s.2.2.0 to s.2.2.2 e).no_else known.1 (omega arith) (omega arith) agrees (omega arith) in
      let a = acked_too (room - 1) copies (nodes + copies + copies * tail_nodes (tail_meant g.draft n refused)) r.range s.2.2.0 to s.2.2.2 e known.2 (omega arith) (omega arith) r.agrees (omega (arith, r.count)) in
      let sum : nodes + copies + copies * tail_nodes (tail_meant g.draft n refused) + copies * payload_nodes (bytes_meant g.draft n acked) ≡ nodes + copies * (payload_nodes (bytes_meant g.draft n acked) + tail_nodes (tail_meant g.draft n refused) + 1) = omega arith in
      record { range = a.range; is = rw (form, said.1, write_in_is g room copies said.0 target (spot s.2.0 nodes p), node, r.is, a.is, sum) refl; agrees = a.agrees; count = omega (arith, r.count, a.count) }

  read_again : (to : Said Address) (count : Count) (refused after : BriefTail) → RefusedAgain refused → NextAgain after → FrameAgain (read_from to count refused after)
  read_again target count refused after refused_too after_too room copies nodes p from to s e known path limit agrees once =
      let form = token_again nodes p form_in (keyword keywords.Read) reads from s.0 s.1 refl in
      let said = to_again nodes p g.draft target s.0 s.2.0 s.2.1 known.0 in
      let node = node_again nodes p room copies said.0 s.2.0 (omega arith) (omega arith) in
      let c = count_again (nodes + copies) p count (room - 1) s.2.0 s.2.2.0 s.2.2.1 (omega arith) in
      let r = refused_too (room - 1) copies (nodes + copies) p s.2.2.0 s.2.2.2.0 s.2.2.2.1 (next_apart R after s.2.2.2.0 to s.2.2.2.2 e).0.no_else known.1 (omega arith) (omega arith) agrees (omega arith) in
      let a = after_too (room - 1 - greatest_of count) copies (nodes + copies + copies * tail_nodes (tail_meant g.draft n refused)) r.range s.2.2.2.0 to s.2.2.2.2 e known.2 (omega arith) (omega arith) r.agrees (omega (arith, r.count)) in
      let sum : nodes + copies + copies * tail_nodes (tail_meant g.draft n refused) + copies * tail_nodes (tail_meant g.draft n after) ≡ nodes + copies * (tail_nodes (tail_meant g.draft n after) + tail_nodes (tail_meant g.draft n refused) + 1) = omega arith in
      record { range = a.range; is = rw (form, said.1, read_in_is g room copies said.0 target (spot s.2.0 nodes p), node, c, r.is, a.is, sum) refl; agrees = a.agrees; count = omega (arith, r.count, a.count) }

  sums : (c more r a nodes : ℕ) → nodes + c + c * more + c * suc more * r + c * a ≡ nodes + c * (a + suc more * (r + 1))
  sums c more r a nodes = omega arith

  byte_again : (bits : Said Pattern) (often : Times) (refused : BriefTail) (acked : BriefBytes) → RefusedAgain refused → BytesAgain acked → BytesAgain (data_byte bits often refused acked)
  byte_again bits often refused acked refused_too acked_too room copies nodes p from to s e known path limit agrees once =
      let some = often_some R often s.0 s.2.0 s.2.1 in
      by_more some.0 some.1
    where
      by_more : (more : ℕ) → how_often n often ≡ suc more → Again R (payload_at g room copies (spot from nodes p)) (data_byte bits often refused acked) to (nodes + copies * payload_nodes (bytes_meant g.draft n (data_byte bits often refused acked))) (bytes_ranges (data_byte bits often refused acked)) p
      by_more more same =
          let as_nodes : payload_nodes (bytes_meant g.draft n (data_byte bits often refused acked)) ≡ payload_nodes (bytes_meant g.draft n acked) + suc more * (tail_nodes (tail_meant g.draft n refused) + 1) =
          ap (λ k. payload_nodes (repeated k (bits_said g.draft bits) (bytes_meant g.draft n acked) (tail_meant g.draft n refused))) same ∙ repeated_nodes (suc more) (bits_said g.draft bits) (bytes_meant g.draft n acked) (tail_meant g.draft n refused) in
          let as_bytes : payload_bytes (bytes_meant g.draft n (data_byte bits often refused acked)) ≡ max (payload_bytes (bytes_meant g.draft n acked)) (tail_bytes (tail_meant g.draft n refused)) + suc more =
          ap (λ k. payload_bytes (repeated k (bits_said g.draft bits) (bytes_meant g.draft n acked) (tail_meant g.draft n refused))) same ∙ repeated_bytes more (bits_said g.draft bits) (bytes_meant g.draft n acked) (tail_meant g.draft n refused) in
          let total = sums copies more (tail_nodes (tail_meant g.draft n refused)) (payload_nodes (bytes_meant g.draft n acked)) nodes ∙ ap (λ k. nodes + copies * k) (sym as_nodes) in
          let most : nodes + copies + copies * more + copies * suc more * tail_nodes (tail_meant g.draft n refused) + copies * payload_nodes (bytes_meant g.draft n acked) ≤ MOST_NODES = subst (λ k. k ≤ MOST_NODES) (sym total) limit in
          let longest : max (payload_bytes (bytes_meant g.draft n acked)) (tail_bytes (tail_meant g.draft n refused)) + suc more ≤ room = subst (λ k. k ≤ room) as_bytes path in
          let apart = bytes_apart R acked s.2.2.0 to s.2.2.2 e in
          let d = data_again nodes p g.draft bits from s.0 s.1 known.0 in
          let node = node_again nodes p room copies d.0 s.0 (omega (arith, longest)) (omega (arith, most)) in
          let o = often_again g R allowed (room - 1) copies (nodes + copies) p agrees often more s.0 s.2.0 s.2.1 (refused_apart R refused s.2.0 s.2.2.0 s.2.2.1 apart.no_star) same (omega (arith, longest)) (omega (arith, most)) (omega (arith, once)) in
          let r = refused_too (room - 1 - more) (copies * suc more) (nodes + copies + copies * more) o.range s.2.0 s.2.2.0 s.2.2.1 apart.no_else known.1 (omega (arith, longest)) (omega (arith, most)) o.agrees (omega (arith, once, o.count)) in
          let a = acked_too (room - 1 - more) copies (nodes + copies + copies * more + copies * suc more * tail_nodes (tail_meant g.draft n refused)) r.range s.2.2.0 to s.2.2.2 e known.2 (omega (arith, longest)) most r.agrees (omega (arith, once, o.count, r.count)) in
          record {
            range = a.range;
            is = payload_data g room copies (spot from nodes p) (data_is_no_choice R bits often refused from s.0 s.2.0 s.2.2.0 s.1 s.2.1 s.2.2.1 apart.no_but) (data_begins bits from s.0 s.1) ∙ rw (d.1, node, o.is, r.is, a.is) (ap (λ k. done (data_byte bits often refused acked, spot to k a.range)) total);
            agrees = a.agrees;
            count = omega (arith, o.count, r.count, a.count);
          }

  made_byte_again : (made : Made) (refused : BriefTail) (acked : BriefBytes) → RefusedAgain refused → BytesAgain acked → BytesAgain (made_byte made refused acked)
  made_byte_again made refused acked refused_too acked_too room copies nodes p from to s e known path limit agrees once =
      let m = made_again g R allowed nodes p agrees made from s.0 s.1 known.0 (omega (arith, once)) in
      let node = node_again nodes m.before room copies m.line m.mid (omega arith) (omega arith) in
      let r = refused_too (room - 1) copies (nodes + copies) m.after s.0 s.2.0 s.2.1 (bytes_apart R acked s.2.0 to s.2.2 e).no_else known.1 (omega arith) (omega arith) m.ranged.agrees (omega (arith, once, m.ranged.count)) in
      let a = acked_too (room - 1) copies (nodes + copies + copies * tail_nodes (tail_meant g.draft n refused)) r.range s.2.0 to s.2.2 e known.2 (omega arith) (omega arith) r.agrees (omega (arith, once, m.ranged.count, r.count)) in
      let sum : nodes + copies + copies * tail_nodes (tail_meant g.draft n refused) + copies * payload_nodes (bytes_meant g.draft n acked) ≡ nodes + copies * (payload_nodes (bytes_meant g.draft n acked) + tail_nodes (tail_meant g.draft n refused) + 1) = omega arith in
      record {
        range = a.range;
        is = payload_made g room copies (spot from nodes p) m.begins ∙ rw (m.first, node, m.rest (nodes + copies), r.is, a.is, sum) refl;
        agrees = a.agrees;
        count = omega (arith, m.ranged.count, r.count, a.count);
      }

  bytes_last : (t : BriefTail) → NextAgain t → BytesAgain (no_more t)
  bytes_last t next room copies nodes p from to s e known path limit agrees once =
      let h = next room copies nodes p from to s e known path limit agrees once in
      record { range = h.range; is = payload_last g room copies (spot from nodes p) (next_apart R t from to s e).2 (next_apart R t from to s e).1 ∙ rw h.is refl; agrees = h.agrees; count = h.count }

  mutual
    pub frame_again : (f : BriefFrame) → FrameAgain f
    frame_again (write_to to refused acked) = write_again to refused acked (tail_again refused).1 (bytes_again acked)
    frame_again (read_from to count refused after) = read_again to count refused after (tail_again refused).1 (tail_again after).0

    bytes_again : (b : BriefBytes) → BytesAgain b
    bytes_again (data_byte bits often refused acked) = byte_again bits often refused acked (tail_again refused).1 (bytes_again acked)
    bytes_again (made_byte made refused acked) = made_byte_again made refused acked (tail_again refused).1 (bytes_again acked)
    bytes_again (no_more tail) = bytes_last tail (tail_again tail).0

    tail_again : (t : BriefTail) → NextAgain t × RefusedAgain t
    tail_again stop_here = (next_none, refused_none)
    tail_again (go_on frame) = (next_more frame (frame_again frame), refused_more frame (frame_again frame))
