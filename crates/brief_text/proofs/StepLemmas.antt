-- What is read of a message in one step, where a path has so much room.
use Rattle.std.proofs.Common.{◌≡◌, ℕ, zero, suc, List, Option, Some, None, Bor, ◌-◌, ◌*◌, ◌<◌, ◌≤◌, Bool, true, false, refl, ap, sym, ◌∙◌, subst, arith}
use Rattle.std.specs.Prelude.{Result, Ok, Err, nat_lt, nat_le, if◌then◌else◌}
use Rattle.std.proofs.lemmas.Bool.{lt-leb}
use Rattle.message_tree.specs.declared.bits.Address.{Address}
use Rattle.message_tree.specs.declared.bits.Pattern.{Pattern}
use Rattle.message_tree.specs.declared.counts.Count.{Count}
use Rattle.message_tree.specs.Counts.{greatest_of}
use Rattle.plan_text.specs.declared.errors.PlanError.{PlanError}
use Rattle.plan_text.specs.declared.errors.PlanError.TheVariants.{TooLong, Unexpected, BadCount}
use Rattle.plan_text.specs.Reader.{◌>>=◌, or_refused, writes, reads}
use Rattle.plan_text.specs.Values.{count_of}
use Rattle.plan_text.specs.Words.{count_ends}
use Rattle.plan_text.proofs.StepLemmas.{same_after}
use Rattle.brief_tokens.specs.declared.symbols.Keyword.TheVariants as keywords
use Rattle.brief_tokens.specs.declared.symbols.Sign.TheVariants as signs
use Rattle.brief_tokens.specs.declared.symbols.Symbol.{Symbol}
use Rattle.brief_tokens.specs.declared.symbols.Symbol.TheVariants as symbols
use Rattle.brief_tokens.specs.declared.symbols.Token as seen
use Rattle.brief_text.specs.Frames.{Around, Frames, Bytes, Mades, Opening, counted, ends_in, count_at, repetition_in, often_by, often_at, next_by, ends_with, else_by, refused_by, made_at, payload_by, frame_in, byte_in, made_in, frames_at}
use Rattle.brief_text.specs.Places.{Place, Reads, Finds, token_as, to_at}
use Rattle.brief_text.specs.Words.{Repetition, repetition_by}
use Rattle.brief_text.specs.Trees.{Said, Times, BriefFrame, write_to, read_from, BriefBytes, data_byte, made_byte, Made, BriefTail}
use Rattle.brief_text.specs.Standing.{before, node_at, refused_at, next_at, payload_at, write_at, read_at, byte_after, made_after}
use Rattle.brief_tokens.specs.Reading.{with_symbol, unexpected_symbol, unexpected_at}
use Rattle.brief_tokens.specs.Tokens.{Token, word}

node_is : {B : Type 0} (room copies line : ℕ) (at : Place) (f : ℕ × Place → Result B PlanError) → (counted copies line at >>= λ node. f (room, node)) ≡ (node_at (suc room) copies line at >>= f)
node_is {B} room copies line at f = by_test (nat_lt 0 (suc room)) (suc room - 1) (grind arith) (omega arith)
  where
    by_result : (r : Result Place PlanError) (below : ℕ) → room ≡ below → (r >>= λ node. f (room, node)) ≡ ((r >>= λ node. Ok (below, node)) >>= f)
    by_result (Ok node) below same = ap (λ n. f (n, node)) same
    by_result (Err e) below same = refl

    by_test : (some : Bool) (below : ℕ) → some ≡ true → room ≡ below → (counted copies line at >>= λ node. f (room, node)) ≡ ((if some then (counted copies line at >>= λ node. Ok (below, node)) else Err (TooLong line)) >>= f)
    by_test true below e same = by_result (counted copies line at) below same
    by_test false below e same = absurd cc

-- what is used is room less
pub used_up : (g : Around) (room used copies : ℕ) → frame_in g room used copies ≡ frame_in g (room - used) 0 copies
unfolding frame_in
used_up g zero used copies = let none : 0 - used ≡ 0 = omega arith in rw none refl
used_up g (suc room) zero copies = let same : suc room - 0 ≡ suc room = omega arith in ap (λ n. frame_in g n 0 copies) (sym same)
used_up g (suc room) (suc used) copies = let same : room - used ≡ suc room - suc used = omega arith in used_up g room used copies ∙ ap (λ n. frame_in g n 0 copies) same

pub bytes_used_up : (g : Around) (room used copies : ℕ) → byte_in g room used copies ≡ byte_in g (room - used) 0 copies
unfolding byte_in
bytes_used_up g zero used copies = let none : 0 - used ≡ 0 = omega arith in rw none refl
bytes_used_up g (suc room) zero copies = let same : suc room - 0 ≡ suc room = omega arith in ap (λ n. byte_in g n 0 copies) (sym same)
bytes_used_up g (suc room) (suc used) copies = let same : room - used ≡ suc room - suc used = omega arith in bytes_used_up g room used copies ∙ ap (λ n. byte_in g n 0 copies) same

pub mades_used_up : (g : Around) (room used copies : ℕ) → made_in g room used copies ≡ made_in g (room - used) 0 copies
unfolding made_in
mades_used_up g zero used copies = let none : 0 - used ≡ 0 = omega arith in rw none refl
mades_used_up g (suc room) zero copies = let same : suc room - 0 ≡ suc room = omega arith in ap (λ n. made_in g n 0 copies) (sym same)
mades_used_up g (suc room) (suc used) copies = let same : room - used ≡ suc room - suc used = omega arith in mades_used_up g room used copies ∙ ap (λ n. made_in g n 0 copies) same

-- the rest of a frame after its address
abbrev write_rest : Around → ℕ → Said Address → ℕ × Place → Reads BriefFrame
write_rest g copies to node = refused_at g node.0 copies node.1 >>= λ refused. payload_at g node.0 copies refused.1 >>= λ acked. Ok (write_to to refused.0 acked.0, acked.1)

pub write_in_is : (g : Around) (room copies line : ℕ) (to : Said Address) (at : Place) → frame_in g room 0 copies writes to line at ≡ (node_at room copies line at >>= write_rest g copies to)
unfolding frame_in
write_in_is g zero copies line to at = refl
write_in_is g (suc room) copies line to at = node_is room copies line at (write_rest g copies to)

abbrev read_rest : Around → ℕ → Said Address → ℕ × Place → Reads BriefFrame
read_rest g copies to node =
    count_at node.0 node.1 >>= λ count. refused_at g node.0 copies count.1 >>= λ refused. next_at g (node.0 - greatest_of count.0) copies refused.1 >>= λ after.
    Ok (read_from to count.0 refused.0 after.0, after.1)

pub read_in_is : (g : Around) (room copies line : ℕ) (to : Said Address) (at : Place) → frame_in g room 0 copies reads to line at ≡ (node_at room copies line at >>= read_rest g copies to)
unfolding frame_in
read_in_is g zero copies line to at = refl
read_in_is g (suc room) copies line to at =
    same_after (counted copies line at) _ _ (λ node. same_after (count_at room node) _ _ (λ count. same_after (refused_at g room copies count.1) _ _ (λ refused.
    ap (λ (frames : Frames). next_by g.draft frames refused.1 >>= λ after. Ok (read_from to count.0 refused.0 after.0, after.1)) (used_up g room (greatest_of count.0) copies))))
    ∙ node_is room copies line at (read_rest g copies to)

-- the rest of a payload after a data byte
abbrev byte_rest : Around → ℕ → Said Pattern → ℕ × Place → Reads BriefBytes
byte_rest g copies bits node =
    often_at g node.0 copies node.1 >>= λ often. refused_at g (node.0 - often.0.1) (copies * suc often.0.1) often.1 >>= λ refused. payload_at g (node.0 - often.0.1) copies refused.1 >>= λ acked.
    Ok (data_byte bits often.0.0 refused.0 acked.0, acked.1)

pub byte_in_is : (g : Around) (room copies line : ℕ) (bits : Said Pattern) (at : Place) → byte_in g room 0 copies bits line at ≡ (node_at room copies line at >>= byte_rest g copies bits)
unfolding byte_in
byte_in_is g zero copies line bits at = refl
byte_in_is g (suc room) copies line bits at =
    same_after (counted copies line at) _ _ (λ node. same_after (often_at g room copies node) _ _ (λ often.
    ap (λ (frames : Frames). refused_by g.draft frames often.1 >>= λ refused. payload_by g (frame_in g room often.0.1 copies) (byte_in g room often.0.1 copies) (made_in g room often.0.1 copies) refused.1 >>= λ acked. Ok (data_byte bits often.0.0 refused.0 acked.0, acked.1)) (used_up g room often.0.1 (copies * suc often.0.1))
    ∙ same_after (refused_at g (room - often.0.1) (copies * suc often.0.1) often.1) _ _ (λ refused.
    ap (λ (frames : Frames). payload_by g frames (byte_in g room often.0.1 copies) (made_in g room often.0.1 copies) refused.1 >>= λ acked. Ok (data_byte bits often.0.0 refused.0 acked.0, acked.1)) (used_up g room often.0.1 copies)
    ∙ ap (λ (bytes : Bytes). payload_by g (frame_in g (room - often.0.1) 0 copies) bytes (made_in g room often.0.1 copies) refused.1 >>= λ acked. Ok (data_byte bits often.0.0 refused.0 acked.0, acked.1)) (bytes_used_up g room often.0.1 copies)
    ∙ ap (λ (mades : Mades). payload_by g (frame_in g (room - often.0.1) 0 copies) (byte_in g (room - often.0.1) 0 copies) mades refused.1 >>= λ acked. Ok (data_byte bits often.0.0 refused.0 acked.0, acked.1)) (mades_used_up g room often.0.1 copies))))
    ∙ node_is room copies line at (byte_rest g copies bits)

-- the rest of a payload after the first token of a byte that follows from others or is a choice
abbrev made_rest : Around → ℕ → Opening → ℕ × Place → Reads BriefBytes
made_rest g copies opening node =
    made_at g opening node.1 >>= λ made. refused_at g node.0 copies made.1 >>= λ refused. payload_at g node.0 copies refused.1 >>= λ acked.
    Ok (made_byte made.0 refused.0 acked.0, acked.1)

pub made_in_is : (g : Around) (room copies line : ℕ) (opening : Opening) (at : Place) → made_in g room 0 copies opening line at ≡ (node_at room copies line at >>= made_rest g copies opening)
unfolding made_in
made_in_is g zero copies line opening at = refl
made_in_is g (suc room) copies line opening at = node_is room copies line at (made_rest g copies opening)

-- such a byte, once all but what follows it is read
pub made_steps : (g : Around) (room copies : ℕ) (p1 p2 p3 p4 : Place) (opening : Opening) (line below : ℕ) (made : Made) (refused : BriefTail) → node_at room copies line p1 ≡ Ok (below, p2) → made_at g opening p2 ≡ Ok (made, p3)
    → (others : ℕ) → others ≡ copies → refused_at g below others p3 ≡ Ok (refused, p4)
    → made_after g room copies opening line p1 ≡ (payload_at g below others p4 >>= λ acked. Ok (made_byte made refused acked.0, acked.1))
made_steps g room copies p1 p2 p3 p4 opening line below made refused n m others same r =
    ap (λ (x : Reads ℕ). x >>= made_rest g copies opening) n
    ∙ ap (λ (x : Reads Made). x >>= λ made. refused_at g below copies made.1 >>= λ refused. payload_at g below copies refused.1 >>= λ acked. Ok (made_byte made.0 refused.0 acked.0, acked.1)) m
    ∙ ap (λ (x : Reads BriefTail). x >>= λ refused. payload_at g below copies refused.1 >>= λ acked. Ok (made_byte made refused.0 acked.0, acked.1)) (subst (λ k. refused_at g below k p3 ≡ Ok (refused, p4)) same r)
    ∙ ap (λ k. payload_at g below k p4 >>= λ acked. Ok (made_byte made refused acked.0, acked.1)) (sym same)

-- a data byte, once all but what follows it is read
module _ (g : Around) (room copies more : ℕ) (often : Times) (p1 p2 p3 p4 : Place) (bits : Said Pattern) (line first : ℕ) (refused : BriefTail) (n : node_at room copies line p1 ≡ Ok (first, p2)) where
  rest_is : often_at g first copies p2 ≡ Ok ((often, more), p3) → refused_at g (first - more) (copies * suc more) p3 ≡ Ok (refused, p4)
      → byte_after g room copies bits line p1 ≡ (payload_at g (first - more) copies p4 >>= λ acked. Ok (data_byte bits often refused acked.0, acked.1))
  rest_is m r =
      ap (λ (x : Reads ℕ). x >>= byte_rest g copies bits) n
      ∙ ap (λ (x : Reads (Times × ℕ)). x >>= λ often. refused_at g (first - often.0.1) (copies * suc often.0.1) often.1 >>= λ refused. payload_at g (first - often.0.1) copies refused.1 >>= λ acked. Ok (data_byte bits often.0.0 refused.0 acked.0, acked.1)) m
      ∙ ap (λ (x : Reads BriefTail). x >>= λ refused. payload_at g (first - more) copies refused.1 >>= λ acked. Ok (data_byte bits often refused.0 acked.0, acked.1)) r

  -- the same where the copies are counted by equal numbers
  pub byte_steps : (others count : ℕ) → others ≡ copies → count ≡ suc more → often_at g first others p2 ≡ Ok ((often, more), p3) → refused_at g (first - more) (others * count) p3 ≡ Ok (refused, p4)
      → byte_after g room copies bits line p1 ≡ (payload_at g (first - more) others p4 >>= λ acked. Ok (data_byte bits often refused acked.0, acked.1))
  byte_steps others count same counts m r =
      rest_is (subst (λ k. often_at g first k p2 ≡ Ok ((often, more), p3)) same m) (subst (λ k. refused_at g (first - more) k p3 ≡ Ok (refused, p4)) (ap (λ k. k * count) same ∙ ap (λ t. copies * t) counts) r)
      ∙ ap (λ k. payload_at g (first - more) k p4 >>= λ acked. Ok (data_byte bits often refused acked.0, acked.1)) (sym same)

-- ---- by the symbol of the first token, which stands before these tokens

module _ (token : seen.Token) (at after : Place) (first : at ≡ before token after) where
  pub by_symbol : {A : Type 0} (f : Place → A) (s : Symbol) → token.symbol ≡ s → f at ≡ f (record after { tokens = with_symbol s token.line after.tokens })
  by_symbol f s is = ap f first ∙ ap (λ (k : Symbol). f (record after { tokens = with_symbol k token.line after.tokens })) is

  pub frames_write : (g : Around) (room copies : ℕ) → token.symbol ≡ symbols.Keyword keywords.Write → frames_at g room copies at ≡ write_at g room copies after
  frames_write g room copies is = by_symbol (frames_at g room copies) _ is ∙ same_after (to_at g.draft after) _ _ (λ to. write_in_is g room copies to.1 to.0 to.2)

  pub frames_read : (g : Around) (room copies : ℕ) → token.symbol ≡ symbols.Keyword keywords.Read → frames_at g room copies at ≡ read_at g room copies after
  frames_read g room copies is = by_symbol (frames_at g room copies) _ is ∙ same_after (to_at g.draft after) _ _ (λ to. read_in_is g room copies to.1 to.0 to.2)

  pub refused_else : (g : Around) (room copies : ℕ) → token.symbol ≡ symbols.Keyword keywords.Else → refused_at g room copies at ≡ (token_as ends_with after >>= λ ends. else_by g.draft (frame_in g room 0 copies) ends.0 ends.2)
  refused_else g room copies is = by_symbol (refused_at g room copies) _ is

  pub often_star : (g : Around) (room copies : ℕ) → token.symbol ≡ symbols.Sign signs.Star → often_at g room copies at
      ≡ (token_as repetition_in after >>= λ found. often_by g room copies found.0 found.1 found.2)
  often_star g room copies is = by_symbol (often_at g room copies) _ is

  module _ (w : Bor (List ℕ)) (is : token.symbol ≡ symbols.Word w) where
    pub unexpected_word : Unexpected token.line ≡ unexpected_at token
    unexpected_word = sym (ap (λ (s : Symbol). unexpected_symbol s token.line) is)

    pub word_found : {A : Type 0} (what : Token → Option A) (x : A) → what (word w.now) ≡ Some x → token_as what at ≡ Ok (x, token.line, after)
    word_found what x e = by_symbol (token_as what) _ is ∙ ap (λ (o : Option _). or_refused o (Unexpected token.line) >>= λ y. Ok (y, token.line, after)) e

    pub word_missed : {A : Type 0} (what : Token → Option A) → what (word w.now) ≡ None → token_as what at ≡ Err (unexpected_at token)
    word_missed what e =
        by_symbol (token_as what) _ is ∙ ap (λ (o : Option _). or_refused o (Unexpected token.line) >>= λ y. Ok (y, token.line, after)) e ∙ ap (λ (f : PlanError). Err f) unexpected_word

    module _ (room : ℕ) (ends : List ℕ × List ℕ) (written : count_ends w.now ≡ Some ends) where
      by_count : (o : Option Count) → count_of ends ≡ o → count_at room at ≡ (or_refused o (BadCount token.line) >>= λ c. if nat_le (greatest_of c) room then Ok (c, after) else Err (TooLong token.line))
      by_count o e =
          ap (λ (r : Finds (List ℕ × List ℕ)). r >>= λ x. or_refused (count_of x.0) (BadCount x.1) >>= λ c. if nat_le (greatest_of c) room then Ok (c, x.2) else Err (TooLong x.1)) (word_found ends_in ends written)
          ∙ ap (λ (r : Option Count). or_refused r (BadCount token.line) >>= λ c. if nat_le (greatest_of c) room then Ok (c, after) else Err (TooLong token.line)) e

      pub count_bad : count_of ends ≡ None → count_at room at ≡ Err (BadCount token.line)
      count_bad e = by_count None e

      pub count_long : (c : Count) → count_of ends ≡ Some c → room < greatest_of c → count_at room at ≡ Err (TooLong token.line)
      count_long c e long = by_count (Some c) e ∙ rw (lt-leb (greatest_of c) room long) refl

      pub count_fits : (c : Count) → count_of ends ≡ Some c → greatest_of c ≤ room → count_at room at ≡ Ok (c, after)
      count_fits c e fits = let fitting : nat_le (greatest_of c) room ≡ true = grind arith in by_count (Some c) e ∙ rw fitting refl

-- `*`, and a word that is read as how often a byte stands
pub often_word : (g : Around) (room copies : ℕ) (star token : seen.Token) (at middle after : Place) → at ≡ before star middle → star.symbol ≡ symbols.Sign signs.Star → middle ≡ before token after
    → (w : Bor (List ℕ)) → token.symbol ≡ symbols.Word w → (said : Repetition) → repetition_by w.now ≡ Some said → often_at g room copies at ≡ often_by g room copies said token.line after
often_word g room copies star token at middle after first is second w spelled_so said e =
    often_star star at middle first g room copies is
    ∙ ap (λ (r : Finds Repetition). r >>= λ found. often_by g room copies found.0 found.1 found.2) (word_found token middle after second w spelled_so repetition_in said e)
