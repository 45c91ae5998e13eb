-- What is read of a message is spelled so, and is within the limits.
use Rattle.std.proofs.Common.{◌≡◌, ℕ, zero, suc, ◌+◌, ◌-◌, ◌*◌, ◌<◌, ◌≤◌, Bool, true, false, Option, Some, refl, ap, sym, ◌∙◌, subst, arith, inl, inr}
use Rattle.std.specs.Prelude.{Ok, max}
use Rattle.message_tree.specs.Counts.{greatest_of}
use Rattle.message_tree.specs.Sizes.{frame_bytes, payload_bytes, tail_bytes, frame_nodes, payload_nodes, tail_nodes}
use Rattle.message_tree.specs.declared.bits.Address.{Address}
use Rattle.message_tree.specs.declared.bits.Pattern.{Pattern}
use Rattle.plan_text.specs.Reader.{◌>>=◌, Form, writes, reads}
use Rattle.plan_text.proofs.TakesLemmas.{bind_ok, ok_is}
use Rattle.brief_tokens.specs.declared.symbols.Keyword.{Keyword}
use Rattle.brief_tokens.specs.declared.symbols.Keyword.TheVariants as keywords
use Rattle.brief_tokens.specs.declared.symbols.Sign.TheVariants as signs
use Rattle.brief_text.specs.declared.syntax.Lengths.{Lengths}
use Rattle.brief_text.specs.Drafts.{frame_meant, bytes_meant, tail_meant, bits_said, repeated}
use Rattle.brief_text.specs.Fitting.{KnowsFrame, KnowsBytes, KnowsTail, frame_ranges, bytes_ranges, tail_ranges}
use Rattle.brief_text.specs.Frames.{Around, Opening, opening_at, made_at, count_at, often_at, form_in, next_from, Ends, stops, opens, ends_with, else_by, refused_from, begins_data, begins_made, frame_in, frames_at}
use Rattle.brief_text.specs.Grammar.{Phrase, one, nothing, SpellsTo, SpellsMade, SpellsFrame, SpellsBytes, SpellsNext, SpellsRefused}
use Rattle.brief_text.specs.Places.{Place, token_as, close_in, past, is_known, to_at, data_at}
use Rattle.brief_text.specs.Standing.{node_at, refused_at, next_at, payload_at, bytes_at, mades_at}
use Rattle.brief_tokens.specs.Tokens.{Token, keyword, sign, Tokens, next}
use Rattle.brief_text.specs.Trees.{Said, Times, BriefFrame, write_to, read_from, BriefBytes, data_byte, made_byte, no_more, BriefTail, stop_here, go_on, Made}
use Rattle.brief_text.proofs.PartLemmas.{most_often, repeated_nodes, repeated_bytes, Agrees, agrees_self, agrees_then, Part, passing, joined, noded, recounted, often_takes}
use Rattle.brief_text.proofs.StepLemmas.{write_in_is, read_in_is}
use Rattle.brief_text.proofs.FrontLemmas.{payload_made, payload_data, payload_last}
use Rattle.brief_text.proofs.MadeTakesLemmas.{made_spelled, same_ranges, rephrased, still, opening_takes, made_takes}
use Rattle.brief_text.proofs.TakesLemmas.{Passed, done, spelled_takes, past_takes, close_only, to_takes, data_takes, count_takes, node_takes}
use Rattle.brief_text.proofs.ValueLemmas.{size}

-- ---- tokens

abbrev form_keyword : Form → Keyword
form_keyword writes = keywords.Write
form_keyword reads = keywords.Read

form_only : (t : Token) (f : Form) (line : ℕ) (rest : Tokens) → form_in t ≡ Some f → one (keyword (form_keyword f)) (next t line rest) rest
form_only (keyword keywords.Write) writes line rest e = (line, refl)
form_only (keyword keywords.Read) reads line rest e = (line, refl)
form_only (keyword keywords.Write) reads line rest e = absurd cc
form_only (keyword keywords.Read) writes line rest e = absurd cc
form_only t f line rest e = absurd cc

abbrev ends_token : Ends → Token
ends_token stops = keyword keywords.Stop
ends_token opens = sign signs.Open

ends_only : (t : Token) (k : Ends) (line : ℕ) (rest : Tokens) → ends_with t ≡ Some k → one (ends_token k) (next t line rest) rest
ends_only (keyword keywords.Stop) stops line rest e = (line, refl)
ends_only (sign signs.Open) opens line rest e = (line, refl)
ends_only (keyword keywords.Stop) opens line rest e = absurd cc
ends_only (sign signs.Open) stops line rest e = absurd cc
ends_only t k line rest e = absurd cc

module _ (g : Around) (R : Option Lengths) where
  abbrev n : ℕ
  n = most_often R

  -- ---- what is taken: a part, its longest path, and names that are known

  pub record Taken (phrase : Phrase) (ranges nodes bytes : ℕ) (knows : Type 0) (room : ℕ) (at after : Place) : Type 0 where
    pub part : Part g phrase ranges nodes at after
    pub path : bytes ≤ room
    pub known : knows

  abbrev pub FrameTaken : ℕ → ℕ → Place → BriefFrame × Place → Type 0
  FrameTaken room copies at x =
      Taken (SpellsFrame R x.0) (frame_ranges x.0) (copies * frame_nodes (frame_meant g.draft n x.0)) (frame_bytes (frame_meant g.draft n x.0)) (KnowsFrame g.draft x.0) room at x.1

  abbrev BytesTaken : ℕ → ℕ → Place → BriefBytes × Place → Type 0
  BytesTaken room copies at x =
      Taken (SpellsBytes R x.0) (bytes_ranges x.0) (copies * payload_nodes (bytes_meant g.draft n x.0)) (payload_bytes (bytes_meant g.draft n x.0)) (KnowsBytes g.draft x.0) room at x.1

  abbrev TailTaken : (BriefTail → Phrase) → ℕ → ℕ → Place → BriefTail × Place → Type 0
  TailTaken phrase room copies at x =
      Taken (phrase x.0) (tail_ranges x.0) (copies * tail_nodes (tail_meant g.draft n x.0)) (tail_bytes (tail_meant g.draft n x.0)) (KnowsTail g.draft x.0) room at x.1

  -- where a path has less than so much room
  abbrev FramesTake : ℕ → Type 0
  FramesTake most = (room copies : ℕ) → room < most → (at : Place) (x : BriefFrame × Place) → frames_at g room copies at ≡ Ok x → Agrees x.1.range R → FrameTaken room copies at x

  abbrev BytesTake : ℕ → Type 0
  BytesTake most = (room copies : ℕ) → room < most → (at : Place) (x : BriefBytes × Place) → payload_at g room copies at ≡ Ok x → Agrees x.1.range R → BytesTaken room copies at x

  module _ (most : ℕ) (frames : FramesTake most) where
    next_takes : (room copies : ℕ) → room < most → (at : Place) (x : BriefTail × Place) → next_at g room copies at ≡ Ok x → Agrees x.1.range R → TailTaken (SpellsNext R) room copies at x
    next_takes room copies less at x e agrees = by_tokens at.tokens e
      where
        more : (frames_at g room copies at >>= λ frame. Ok (go_on frame.0, frame.1)) ≡ Ok x → TailTaken (SpellsNext R) room copies at x
        more h =
            let frame = bind_ok (frames_at g room copies at) (λ frame. Ok (go_on frame.0, frame.1)) x h in
            let same = ok_is (go_on frame.0.0, frame.0.1) x frame.2 in
            let f = frames room copies less at frame.0 frame.1 (subst (λ (y : BriefTail × Place). Agrees y.1.range R) (sym same) agrees) in
            subst (TailTaken (SpellsNext R) room copies at) same (record { part = f.part; path = f.path; known = f.known })

        none : done (stop_here, at) ≡ Ok x → TailTaken (SpellsNext R) room copies at x
        none h = subst (TailTaken (SpellsNext R) room copies at) (ok_is (stop_here, at) x h) (record { part = recounted g refl (omega arith) (still g {P = nothing} at refl); path = omega arith; known = tt })

        by_tokens : (from : Tokens) → next_from g.draft (frame_in g room 0 copies) from at ≡ Ok x → TailTaken (SpellsNext R) room copies at x
        by_tokens (next (keyword keywords.Write) line rest) h = more h
        by_tokens (next (keyword keywords.Read) line rest) h = more h
        by_tokens from h = none h

    refused_takes : (room copies : ℕ) → room < most → (at : Place) (x : BriefTail × Place) → refused_at g room copies at ≡ Ok x → Agrees x.1.range R → TailTaken (SpellsRefused R) room copies at x
    refused_takes room copies less at x e agrees = by_tokens at.tokens refl e
      where
        by_ends : (line : ℕ) (past after : Place) (k : Ends) → Passed (one (keyword keywords.Else)) at past → Passed (one (ends_token k)) past after → else_by g.draft (frame_in g room 0 copies) k after ≡ Ok x → TailTaken (SpellsRefused R) room copies at x
        by_ends line mid after stops first second h =
            let both = joined g (passing g first) (passing g second) in
            subst (TailTaken (SpellsRefused R) room copies at) (ok_is (stop_here, after) x h)
            record {
              part = record { spelled = inr both.spelled; agrees = both.agrees; found = both.found; allowed = both.allowed; count = both.count ∙ omega arith; limit = both.limit; fewer = both.fewer };
              path = omega arith;
              known = tt;
            }
        by_ends line mid after opens first second h =
            let frame = bind_ok (frames_at g room copies after) (λ frame. past close_in frame.1 >>= λ end. Ok (go_on frame.0, end)) x h in
            let end = bind_ok (past close_in frame.0.1) (λ end. Ok (go_on frame.0.0, end)) x frame.2 in
            let same = ok_is (go_on frame.0.0, end.0) x end.2 in
            let close = past_takes close_in (sign signs.Close) close_only frame.0.1 end.0 end.1 in
            let here : Agrees end.0.range R = subst (λ (y : BriefTail × Place). Agrees y.1.range R) (sym same) agrees in
            let f = frames room copies less after frame.0 frame.1 (subst (λ (o : Option Lengths). Agrees o R) close.kept.range here) in
            subst (TailTaken (SpellsRefused R) room copies at) same
            record {
              part = recounted g (omega arith) (omega arith) (joined g (passing g first) (joined g (passing g second) (joined g f.part (passing g close))));
              path = f.path;
              known = f.known;
            }

        none : done (stop_here, at) ≡ Ok x → TailTaken (SpellsRefused R) room copies at x
        none h =
            subst (TailTaken (SpellsRefused R) room copies at) (ok_is (stop_here, at) x h)
            record {
              part = record { spelled = inl refl; agrees = agrees_self at.range; found = omega arith; allowed = λ a. a; count = omega arith; limit = λ l. l; fewer = omega arith };
              path = omega arith;
              known = tt;
            }

        by_tokens : (from : Tokens) → at.tokens ≡ from → refused_from g.draft (frame_in g room 0 copies) from at ≡ Ok x → TailTaken (SpellsRefused R) room copies at x
        by_tokens (next (keyword keywords.Else) line rest) is h =
            let mid : Place = record at { tokens = rest } in
            let ends = bind_ok (token_as ends_with mid) (λ ends. else_by g.draft (frame_in g room 0 copies) ends.0 ends.2) x h in
            let first : Passed (one (keyword keywords.Else)) at mid = record { spelled = (line, is); kept = record { nodes = refl; range = refl }; fewer = ap size is } in
            by_ends line mid ends.0.2 ends.0.0 first (spelled_takes ends_with (λ k. one (ends_token k)) ends_only mid ends.0 ends.1) ends.2
        by_tokens from is h = none h

    module _ (bytes : BytesTake most) where
      counts : (c more r a : ℕ) → 0 + (c + (c * more + (c * suc more * r + c * a))) ≡ c * (a + suc more * (r + 1))
      counts c more r a = omega arith

      -- data bytes, one kind of which stands first
      module _ (room copies : ℕ) (less : room < suc most) (at p1 p2 p3 p4 p5 : Place) (bits : Said Pattern) (line below more : ℕ) (often : Times) (refused : BriefTail) (acked : BriefBytes) where
        bytes_made : data_at g.draft at ≡ Ok (bits, line, p1) → node_at room copies line p1 ≡ Ok (below, p2) → often_at g below copies p2 ≡ Ok ((often, more), p3) → refused_at g (below - more) (copies * suc more) p3 ≡ Ok (refused, p4)
            → payload_at g (below - more) copies p4 ≡ Ok (acked, p5) → Agrees p5.range R → BytesTaken room copies at (data_byte bits often refused acked, p5)
        bytes_made found node so_often not_acked rest agrees =
            let d = data_takes g.draft at (bits, line, p1) found in
            let c = node_takes room copies line p1 (below, p2) node in
            let fits : below - more < most = omega (arith, c.1, c.2) in
            let a = bytes (below - more) copies fits p4 (acked, p5) rest agrees in
            let before : Agrees p4.range R = agrees_then p4.range p5.range R a.part.agrees agrees in
            let r = refused_takes (below - more) (copies * suc more) fits p3 (refused, p4) not_acked before in
            let o = often_takes g R below copies p2 ((often, more), p3) so_often (agrees_then p3.range p4.range R r.part.agrees before) in
            let nodes : payload_nodes (bytes_meant g.draft n (data_byte bits often refused acked)) ≡ payload_nodes (bytes_meant g.draft n acked) + suc more * (tail_nodes (tail_meant g.draft n refused) + 1) =
            ap (λ k. payload_nodes (repeated k (bits_said g.draft bits) (bytes_meant g.draft n acked) (tail_meant g.draft n refused))) o.often ∙ repeated_nodes (suc more) (bits_said g.draft bits) (bytes_meant g.draft n acked) (tail_meant g.draft n refused) in
            let longest : payload_bytes (bytes_meant g.draft n (data_byte bits often refused acked)) ≡ max (payload_bytes (bytes_meant g.draft n acked)) (tail_bytes (tail_meant g.draft n refused)) + suc more =
            ap (λ k. payload_bytes (repeated k (bits_said g.draft bits) (bytes_meant g.draft n acked) (tail_meant g.draft n refused))) o.often ∙ repeated_bytes more (bits_said g.draft bits) (bytes_meant g.draft n acked) (tail_meant g.draft n refused) in
            record {
              part = recounted g (omega arith) (counts copies more (tail_nodes (tail_meant g.draft n refused)) (payload_nodes (bytes_meant g.draft n acked)) ∙ ap (λ k. copies * k) (sym nodes))
                  (joined g (passing g d.0) (noded g c.0 (joined g o.part (joined g r.part a.part))));
              path = omega (arith, longest, c.1, c.2, o.fits, r.path, a.path);
              known = (d.1, r.known, a.known);
            }

      bytes_takes : (room copies : ℕ) → room < suc most → (at : Place) (x : BriefBytes × Place) → bytes_at g room copies at ≡ Ok x → Agrees x.1.range R → BytesTaken room copies at x
      bytes_takes room copies less at x e agrees =
          let found = bind_ok (data_at g.draft at) (λ found. node_at room copies found.1 found.2 >>= λ node. often_at g node.0 copies node.1 >>= λ often. refused_at g (node.0 - often.0.1) (copies * suc often.0.1) often.1 >>= λ refused. payload_at g (node.0 - often.0.1) copies refused.1 >>= λ acked. Ok (data_byte found.0 often.0.0 refused.0 acked.0, acked.1)) x e in
          by_found found.0.0 found.0.1 found.0.2 found.1 found.2
        where
          by_acked : (bits : Said Pattern) (line : ℕ) (p1 : Place) → data_at g.draft at ≡ Ok (bits, line, p1) → (below : ℕ) (p2 : Place) → node_at room copies line p1 ≡ Ok (below, p2) → (often : Times) (more : ℕ) (p3 : Place) → often_at g below copies p2 ≡ Ok ((often, more), p3)
              → (refused : BriefTail) (p4 : Place) → refused_at g (below - more) (copies * suc more) p3 ≡ Ok (refused, p4) → (payload_at g (below - more) copies p4 >>= λ acked. Ok (data_byte bits often refused acked.0, acked.1)) ≡ Ok x → BytesTaken room copies at x
          by_acked bits line p1 d below p2 nd often more p3 o refused p4 r h =
              let acked = bind_ok (payload_at g (below - more) copies p4) (λ acked. Ok (data_byte bits often refused acked.0, acked.1)) x h in
              let same = ok_is (data_byte bits often refused acked.0.0, acked.0.1) x acked.2 in
              subst (BytesTaken room copies at) same
              (bytes_made room copies less at p1 p2 p3 p4 acked.0.1 bits line below more often refused acked.0.0 d nd o r acked.1 (subst (λ (y : BriefBytes × Place). Agrees y.1.range R) (sym same) agrees))

          by_found : (bits : Said Pattern) (line : ℕ) (p1 : Place) → data_at g.draft at ≡ Ok (bits, line, p1)
              → (node_at room copies line p1 >>= λ node. often_at g node.0 copies node.1 >>= λ often. refused_at g (node.0 - often.0.1) (copies * suc often.0.1) often.1 >>= λ refused. payload_at g (node.0 - often.0.1) copies refused.1 >>= λ acked. Ok (data_byte bits often.0.0 refused.0 acked.0, acked.1)) ≡ Ok x → BytesTaken room copies at x
          by_found bits line p1 d h =
              let node = bind_ok (node_at room copies line p1) (λ node. often_at g node.0 copies node.1 >>= λ often. refused_at g (node.0 - often.0.1) (copies * suc often.0.1) often.1 >>= λ refused. payload_at g (node.0 - often.0.1) copies refused.1 >>= λ acked. Ok (data_byte bits often.0.0 refused.0 acked.0, acked.1)) x h in
              by_node node.0.0 node.0.1 node.1 node.2
            where
              by_node : (below : ℕ) (p2 : Place) → node_at room copies line p1 ≡ Ok (below, p2)
                  → (often_at g below copies p2 >>= λ often. refused_at g (below - often.0.1) (copies * suc often.0.1) often.1 >>= λ refused. payload_at g (below - often.0.1) copies refused.1 >>= λ acked. Ok (data_byte bits often.0.0 refused.0 acked.0, acked.1)) ≡ Ok x → BytesTaken room copies at x
              by_node below p2 nd k =
                  let often = bind_ok (often_at g below copies p2) (λ often. refused_at g (below - often.0.1) (copies * suc often.0.1) often.1 >>= λ refused. payload_at g (below - often.0.1) copies refused.1 >>= λ acked. Ok (data_byte bits often.0.0 refused.0 acked.0, acked.1)) x k in
                  by_often often.0.0.0 often.0.0.1 often.0.1 often.1 often.2
                where
                  by_often : (often : Times) (more : ℕ) (p3 : Place) → often_at g below copies p2 ≡ Ok ((often, more), p3)
                      → (refused_at g (below - more) (copies * suc more) p3 >>= λ refused. payload_at g (below - more) copies refused.1 >>= λ acked. Ok (data_byte bits often refused.0 acked.0, acked.1)) ≡ Ok x → BytesTaken room copies at x
                  by_often often more p3 o j =
                      let refused = bind_ok (refused_at g (below - more) (copies * suc more) p3) (λ refused. payload_at g (below - more) copies refused.1 >>= λ acked. Ok (data_byte bits often refused.0 acked.0, acked.1)) x j in
                      by_acked bits line p1 d below p2 nd often more p3 o refused.0.0 refused.0.1 refused.1 refused.2

      -- a byte that follows from others or is a choice stands first
      module _ (room copies : ℕ) (less : room < suc most) (at p1 p2 p3 p4 p5 : Place) (opening : Opening) (line below : ℕ) (made : Made) (refused : BriefTail) (acked : BriefBytes) where
        mades_made : opening_at g at ≡ Ok (opening, line, p1) → node_at room copies line p1 ≡ Ok (below, p2) → made_at g opening p2 ≡ Ok (made, p3) → refused_at g below copies p3 ≡ Ok (refused, p4)
            → payload_at g below copies p4 ≡ Ok (acked, p5) → Agrees p5.range R → BytesTaken room copies at (made_byte made refused acked, p5)
        mades_made found node rest not_acked others agrees =
            let c = node_takes room copies line p1 (below, p2) node in
            let fits : below < most = omega (arith, c.1, c.2) in
            let a = bytes below copies fits p4 (acked, p5) others agrees in
            let before : Agrees p4.range R = agrees_then p4.range p5.range R a.part.agrees agrees in
            let r = refused_takes below copies fits p3 (refused, p4) not_acked before in
            let there : Agrees p3.range R = agrees_then p3.range p4.range R r.part.agrees before in
            let m = made_takes g R opening p2 (made, p3) rest there in
            let counted : Agrees p2.range R = agrees_then p2.range p3.range R m.0.agrees there in
            let o = opening_takes g R at (opening, line, p1) found (subst (λ (p : Option Lengths). Agrees p R) c.0.range counted) in
            let whole = rephrased g {Q = SpellsMade R made} (λ s. made_spelled R opening made at.tokens s.0 p3.tokens s.1 s.2) (joined g o (noded g c.0 m.0)) in
            let ranges = same_ranges R opening made p2.tokens p3.tokens m.0.spelled in
            record {
              part = recounted g (ap (λ k. k + (tail_ranges refused + bytes_ranges acked)) ranges ∙ omega arith) (omega arith) (joined g whole (joined g r.part a.part));
              path = omega (arith, c.1, c.2, r.path, a.path);
              known = (m.1, r.known, a.known);
            }

      mades_take : (room copies : ℕ) → room < suc most → (at : Place) (x : BriefBytes × Place) → mades_at g room copies at ≡ Ok x → Agrees x.1.range R → BytesTaken room copies at x
      mades_take room copies less at x e agrees =
          let found = bind_ok (opening_at g at) (λ found. node_at room copies found.1 found.2 >>= λ node. made_at g found.0 node.1 >>= λ made. refused_at g node.0 copies made.1 >>= λ refused. payload_at g node.0 copies refused.1 >>= λ acked. Ok (made_byte made.0 refused.0 acked.0, acked.1)) x e in
          let node = bind_ok (node_at room copies found.0.1 found.0.2) (λ node. made_at g found.0.0 node.1 >>= λ made. refused_at g node.0 copies made.1 >>= λ refused. payload_at g node.0 copies refused.1 >>= λ acked. Ok (made_byte made.0 refused.0 acked.0, acked.1)) x found.2 in
          let made = bind_ok (made_at g found.0.0 node.0.1) (λ made. refused_at g node.0.0 copies made.1 >>= λ refused. payload_at g node.0.0 copies refused.1 >>= λ acked. Ok (made_byte made.0 refused.0 acked.0, acked.1)) x node.2 in
          let refused = bind_ok (refused_at g node.0.0 copies made.0.1) (λ refused. payload_at g node.0.0 copies refused.1 >>= λ acked. Ok (made_byte made.0.0 refused.0 acked.0, acked.1)) x made.2 in
          let acked = bind_ok (payload_at g node.0.0 copies refused.0.1) (λ acked. Ok (made_byte made.0.0 refused.0.0 acked.0, acked.1)) x refused.2 in
          let same = ok_is (made_byte made.0.0 refused.0.0 acked.0.0, acked.0.1) x acked.2 in
          subst (BytesTaken room copies at) same
          (mades_made room copies less at found.0.2 node.0.1 made.0.1 refused.0.1 acked.0.1 found.0.0 found.0.1 node.0.0 made.0.0 refused.0.0 acked.0.0 found.1 node.1 made.1 refused.1 acked.1
          (subst (λ (y : BriefBytes × Place). Agrees y.1.range R) (sym same) agrees))

      frames_step : FramesTake (suc most)
      frames_step room copies less at x e agrees =
          let form = bind_ok (token_as form_in at) (λ form. to_at g.draft form.2 >>= λ to. frame_in g room 0 copies form.0 to.0 to.1 to.2) x e in
          let to = bind_ok (to_at g.draft form.0.2) (λ to. frame_in g room 0 copies form.0.0 to.0 to.1 to.2) x form.2 in
          by_form form.0.0 form.0.2 to.0.0 to.0.1 to.0.2 (spelled_takes form_in (λ f. one (keyword (form_keyword f))) form_only at form.0 form.1) (to_takes g.draft form.0.2 to.0 to.1) to.2
        where
          by_form : (f : Form) (mid : Place) (to : Said Address) (line : ℕ) (after : Place) → Passed (one (keyword (form_keyword f))) at mid → Passed (SpellsTo to) mid after × (is_known g.draft.devices to ≡ true) → frame_in g room 0 copies f to line after ≡ Ok x → FrameTaken room copies at x
          by_form writes mid to line after first second h =
              let node = bind_ok (node_at room copies line after) (λ node. refused_at g node.0 copies node.1 >>= λ refused. payload_at g node.0 copies refused.1 >>= λ acked. Ok (write_to to refused.0 acked.0, acked.1)) x (sym (write_in_is g room copies line to after) ∙ h) in
              let refused = bind_ok (refused_at g node.0.0 copies node.0.1) (λ refused. payload_at g node.0.0 copies refused.1 >>= λ acked. Ok (write_to to refused.0 acked.0, acked.1)) x node.2 in
              let acked = bind_ok (payload_at g node.0.0 copies refused.0.1) (λ acked. Ok (write_to to refused.0.0 acked.0, acked.1)) x refused.2 in
              let same = ok_is (write_to to refused.0.0 acked.0.0, acked.0.1) x acked.2 in
              let last : Agrees acked.0.1.range R = subst (λ (y : BriefFrame × Place). Agrees y.1.range R) (sym same) agrees in
              let c = node_takes room copies line after node.0 node.1 in
              let below : node.0.0 < most = omega (arith, c.1, c.2) in
              let a = bytes node.0.0 copies below refused.0.1 acked.0 acked.1 last in
              let r = refused_takes node.0.0 copies below node.0.1 refused.0 refused.1 (agrees_then refused.0.1.range acked.0.1.range R a.part.agrees last) in
              subst (FrameTaken room copies at) same
              record {
                part = recounted g (omega arith) (omega arith) (joined g (passing g first) (joined g (passing g second.0) (noded g c.0 (joined g r.part a.part))));
                path = omega (arith, c.1, c.2, r.path, a.path);
                known = (second.1, r.known, a.known);
              }
          by_form reads mid to line after first second h =
              let node = bind_ok (node_at room copies line after) (λ node. count_at node.0 node.1 >>= λ count. refused_at g node.0 copies count.1 >>= λ refused. next_at g (node.0 - greatest_of count.0) copies refused.1 >>= λ further. Ok (read_from to count.0 refused.0 further.0, further.1)) x (sym (read_in_is g room copies line to after) ∙ h) in
              let count = bind_ok (count_at node.0.0 node.0.1) (λ count. refused_at g node.0.0 copies count.1 >>= λ refused. next_at g (node.0.0 - greatest_of count.0) copies refused.1 >>= λ further. Ok (read_from to count.0 refused.0 further.0, further.1)) x node.2 in
              let refused = bind_ok (refused_at g node.0.0 copies count.0.1) (λ refused. next_at g (node.0.0 - greatest_of count.0.0) copies refused.1 >>= λ further. Ok (read_from to count.0.0 refused.0 further.0, further.1)) x count.2 in
              let further = bind_ok (next_at g (node.0.0 - greatest_of count.0.0) copies refused.0.1) (λ further. Ok (read_from to count.0.0 refused.0.0 further.0, further.1)) x refused.2 in
              let same = ok_is (read_from to count.0.0 refused.0.0 further.0.0, further.0.1) x further.2 in
              let last : Agrees further.0.1.range R = subst (λ (y : BriefFrame × Place). Agrees y.1.range R) (sym same) agrees in
              let c = node_takes room copies line after node.0 node.1 in
              let k = count_takes node.0.0 node.0.1 count.0 count.1 in
              let a = next_takes (node.0.0 - greatest_of count.0.0) copies (omega (arith, c.1, c.2)) refused.0.1 further.0 further.1 last in
              let r = refused_takes node.0.0 copies (omega (arith, c.1, c.2)) count.0.1 refused.0 refused.1 (agrees_then refused.0.1.range further.0.1.range R a.part.agrees last) in
              subst (FrameTaken room copies at) same
              record {
                part = recounted g (omega arith) (omega arith) (joined g (passing g first) (joined g (passing g second.0) (noded g c.0 (joined g (passing g k.0) (joined g r.part a.part)))));
                path = omega (arith, c.1, c.2, k.1, r.path, a.path);
                known = (second.1, r.known, a.known);
              }

  payload_step : (most : ℕ) → FramesTake most → BytesTake most → FramesTake (suc most) → BytesTake (suc most)
  payload_step most below bytes frames room copies less at x e agrees = by_front (begins_made at.tokens) (begins_data at.tokens) refl refl
    where
      rest_takes : (next_at g room copies at >>= λ tail. Ok (no_more tail.0, tail.1)) ≡ Ok x → BytesTaken room copies at x
      rest_takes h =
          let tail = bind_ok (next_at g room copies at) (λ tail. Ok (no_more tail.0, tail.1)) x h in
          let same = ok_is (no_more tail.0.0, tail.0.1) x tail.2 in
          let t = next_takes (suc most) frames room copies less at tail.0 tail.1 (subst (λ (y : BriefBytes × Place). Agrees y.1.range R) (sym same) agrees) in
          subst (BytesTaken room copies at) same (record { part = t.part; path = t.path; known = t.known })

      by_front : (t u : Bool) → begins_made at.tokens ≡ t → begins_data at.tokens ≡ u → BytesTaken room copies at x
      by_front true u is also = mades_take most below bytes room copies less at x (sym (payload_made g room copies at is) ∙ e) agrees
      by_front false true is also = bytes_takes most below bytes room copies less at x (sym (payload_data g room copies at is also) ∙ e) agrees
      by_front false false is also = rest_takes (sym (payload_last g room copies at is also) ∙ e)

  both_take : (most : ℕ) → FramesTake most × BytesTake most
  both_take zero = (λ room copies less at x e agrees. absurd (omega arith), λ room copies less at x e agrees. absurd (omega arith))
  both_take (suc most) =
      let below = both_take most in
      let frames = frames_step most below.0 below.1 in
      (frames, payload_step most below.0 below.1 frames)

-- the frames of a whole message
pub frames_take : (g : Around) (R : Option Lengths) (room copies : ℕ) (at : Place) (x : BriefFrame × Place) → frames_at g room copies at ≡ Ok x → Agrees x.1.range R → FrameTaken g R room copies at x
frames_take g R room copies = (both_take g R (suc room)).0 room copies (omega arith)
