-- What is read is spelled so: each rule of a message takes tokens that spell its value, within the limits.
use Rattle.std.proofs.Common.{◌≡◌, ℕ, zero, suc, ◌+◌, ◌<◌, ◌≤◌, List, Option, Bool, true, false, Some, None, refl, ap, sym, ◌∙◌, subst, arith}
use Rattle.std.specs.Prelude.{Result, Ok, Err, nat_le, nat_lt, max, if◌then◌else◌}
use Rattle.std.proofs.lemmas.Bool.Decides.{nat_tests}
use Rattle.message_tree.specs.declared.bits.Address.{Address}
use Rattle.message_tree.specs.declared.bits.Pattern.{Pattern}
use Rattle.message_tree.specs.declared.counts.Count.{Count}
use Rattle.message_tree.specs.Counts.{greatest_of}
use Rattle.message_tree.specs.Sizes.{frame_bytes, payload_bytes, tail_bytes, frame_nodes, payload_nodes, tail_nodes}
use Rattle.message_tree.specs.Trees.{FrameTree, write, read, PayloadTree, byte, last, TailTree, stop, again}
use Rattle.plan_core.specs.declared.limits.TheConstants.{MOST_NODES}
use Rattle.plan_text.specs.Symbols.{address_word, pattern_word}
use Rattle.plan_text.specs.declared.errors.PlanError.{PlanError}
use Rattle.plan_text.specs.declared.errors.PlanError.TheVariants.{Unexpected, BadCount, TooLong}
use Rattle.plan_text.specs.declared.symbols.Keyword.{Keyword}
use Rattle.plan_text.specs.declared.symbols.Keyword.TheVariants as keywords
use Rattle.plan_text.specs.Grammar.{Phrase, one, ◌▸◌, SpellsCount, SpellsFrame, SpellsPayload, SpellsTail}
use Rattle.plan_text.specs.Reader.{Place, ◌>>=◌, or_refused, first_as, token_as, else_of, else_at, end_of, end_at, address_in, ends_in, count_at, counted, Form, writes, reads, form_in, Ends, stops, goes_on, ends_with, frame_by, tail_after, tail_by, payload_from, answers_by, tails_by, frame_in, byte_in, frame_at, size}
use Rattle.plan_text.specs.Tokens.{Token, keyword, word, semicolon, Tokens, next}
use Rattle.plan_text.specs.Tokens as tokens
use Rattle.plan_text.specs.Values.{pattern_of, count_of}
use Rattle.plan_text.specs.Words.{count_ends}
use Rattle.plan_text.proofs.ValueLemmas.{address_is, pattern_is, count_is}

-- ---- steps that are not refused

pub bind_ok : {A B : Type 0} (r : Result A PlanError) (f : A → Result B PlanError) (y : B) → (r >>= f) ≡ Ok y → (x : A) × (r ≡ Ok x) × (f x ≡ Ok y)
bind_ok (Ok x) f y e = (x, refl, e)
bind_ok (Err d) f y e = absurd cc

pub or_ok : {A : Type 0} (o : Option A) (e : PlanError) (y : A) → or_refused o e ≡ Ok y → o ≡ Some y
or_ok (Some x) e y h = cc
or_ok None e y h = absurd cc

pub test_ok : {A : Type 0} (t : Bool) (x y : A) (e : PlanError) → (if t then Ok x else Err e) ≡ Ok y → (t ≡ true) × (x ≡ y)
test_ok true x y e h = (refl, cc)
test_ok false x y e h = absurd cc

abbrev done : {A : Type 0} → A → Result A PlanError
done x = Ok x

pub ok_is : {A : Type 0} (x y : A) → done x ≡ done y → x ≡ y
ok_is x y e = cc

-- ---- tokens

-- the first token stands for this
pub record Taken {A : Type 0} (what : Token → Option A) (at : Place) (x : A × ℕ × Place) : Type 0 where
  pub token : Token
  pub known : what token ≡ Some x.0
  pub first : at.tokens ≡ next token x.1 x.2.tokens
  pub nodes : x.2.nodes ≡ at.nodes
  pub smaller : size at.tokens ≡ suc (size x.2.tokens)

pub token_takes : {A : Type 0} (what : Token → Option A) (at : Place) (x : A × ℕ × Place) → token_as what at ≡ Ok x → Taken what at x
token_takes {A} what at x e = by_tokens at.tokens at.nodes e
  where
    by_tokens : (from : Tokens) (nodes : ℕ) → first_as what from nodes ≡ Ok x → Taken what (record { tokens = from; nodes = nodes }) x
    by_tokens (next token line rest) nodes h =
        let after : Place = record { tokens = rest; nodes = nodes } in
        let y = bind_ok (or_refused (what token) (Unexpected line)) (λ y. Ok (y, line, after)) x h in
        subst (Taken what (record { tokens = next token line rest; nodes = nodes })) (ok_is (y.0, line, after) x y.2)
        record { token = token; known = or_ok (what token) (Unexpected line) y.0 y.1; first = refl; nodes = refl; smaller = refl }
    by_tokens (tokens.last ending line) nodes h = absurd cc

-- the first token is this one
pub record Passed (token : Token) (at after : Place) : Type 0 where
  pub first : one token at.tokens after.tokens
  pub nodes : after.nodes ≡ at.nodes
  pub smaller : size at.tokens ≡ suc (size after.tokens)

pub fixed_takes : (this : Token) (what : Token → Option (Unit {0})) → ((t : Token) → what t ≡ Some tt → t ≡ this) → (at after : Place) → (token_as what at >>= λ x. Ok x.2) ≡ Ok after → Passed this at after
fixed_takes this what only at after e =
    let x = bind_ok (token_as what at) (λ x. Ok x.2) after e in
    let t = token_takes what at x.0 x.1 in
    subst (Passed this at) (ok_is x.0.2 after x.2)
    record { first = (x.0.1, t.first ∙ ap (λ (k : Token). next k x.0.1 x.0.2.tokens) (only t.token t.known)); nodes = t.nodes; smaller = t.smaller }

else_only : (t : Token) → else_of t ≡ Some tt → t ≡ keyword keywords.Else
else_only (keyword keywords.Else) e = refl
else_only t e = absurd cc

pub else_takes : (at after : Place) → else_at at ≡ Ok after → Passed (keyword keywords.Else) at after
else_takes = fixed_takes (keyword keywords.Else) else_of else_only

end_only : (t : Token) → end_of t ≡ Some tt → t ≡ semicolon
end_only semicolon e = refl
end_only t e = absurd cc

pub end_takes : (at after : Place) → end_at at ≡ Ok after → Passed semicolon at after
end_takes = fixed_takes semicolon end_of end_only

address_only : (t : Token) (a : Address) → address_in t ≡ Some a → t ≡ word (address_word a)
address_only (word bytes) a e = ap word (sym (address_is bytes a e))
address_only t a e = absurd cc

abbrev form_keyword : Form → Keyword
form_keyword writes = keywords.Write
form_keyword reads = keywords.Read

form_only : (t : Token) (f : Form) → form_in t ≡ Some f → t ≡ keyword (form_keyword f)
form_only (keyword keywords.Write) writes e = refl
form_only (keyword keywords.Read) reads e = refl
form_only (keyword keywords.Write) reads e = absurd cc
form_only (keyword keywords.Read) writes e = absurd cc
form_only t f e = absurd cc

abbrev ends_keyword : Ends → Keyword
ends_keyword stops = keywords.Stop
ends_keyword goes_on = keywords.Again

ends_only : (t : Token) (x : Ends) → ends_with t ≡ Some x → t ≡ keyword (ends_keyword x)
ends_only (keyword keywords.Stop) stops e = refl
ends_only (keyword keywords.Again) goes_on e = refl
ends_only (keyword keywords.Stop) goes_on e = absurd cc
ends_only (keyword keywords.Again) stops e = absurd cc
ends_only t x e = absurd cc

-- where what a token stands for says which token it is
pub value_takes : {A : Type 0} (what : Token → Option A) (token_of : A → Token) → ((t : Token) (x : A) → what t ≡ Some x → t ≡ token_of x) → (at : Place) (x : A × ℕ × Place) → token_as what at ≡ Ok x → Passed (token_of x.0) at x.2
value_takes what token_of only at x e =
    let t = token_takes what at x e in
    record { first = (x.1, t.first ∙ ap (λ (k : Token). next k x.1 x.2.tokens) (only t.token x.0 t.known)); nodes = t.nodes; smaller = t.smaller }

-- a count
record CountTaken (room : ℕ) (at : Place) (x : Count × Place) : Type 0 where
  spelled : SpellsCount x.0 at.tokens x.1.tokens
  fits : greatest_of x.0 ≤ room
  nodes : x.1.nodes ≡ at.nodes
  smaller : size at.tokens ≡ suc (size x.1.tokens)

word_of : (t : Token) (ends : List ℕ × List ℕ) → ends_in t ≡ Some ends → (bytes : List ℕ) × (t ≡ word bytes) × (count_ends bytes ≡ Some ends)
word_of (word bytes) ends e = (bytes, refl, e)
word_of t ends e = absurd cc

le_from : (m n : ℕ) → nat_le m n ≡ true → m ≤ n
le_from m n h = grind (arith, nat_tests)

count_takes : (room : ℕ) (at : Place) (x : Count × Place) → count_at room at ≡ Ok x → CountTaken room at x
count_takes room at x e =
    let w = bind_ok (token_as ends_in at) (λ ends. or_refused (count_of ends.0) (BadCount ends.1) >>= λ count. if nat_le (greatest_of count) room then Ok (count, ends.2) else Err (TooLong ends.1)) x e in
    let c = bind_ok (or_refused (count_of w.0.0) (BadCount w.0.1)) (λ count. if nat_le (greatest_of count) room then Ok (count, w.0.2) else Err (TooLong w.0.1)) x w.2 in
    let fits = test_ok (nat_le (greatest_of c.0) room) (c.0, w.0.2) x (TooLong w.0.1) c.2 in
    let t = token_takes ends_in at w.0 w.1 in
    let bytes = word_of t.token w.0.0 t.known in
    let between = count_is w.0.0 c.0 (or_ok (count_of w.0.0) (BadCount w.0.1) c.0 c.1) in
    subst (CountTaken room at) fits.1
    record {
      spelled = (bytes.0, (w.0.1, t.first ∙ ap (λ (k : Token). next k w.0.1 w.0.2.tokens) bytes.1), record { ends = w.0.0; form = bytes.2; least = between.0; greatest = between.1 });
      fits = le_from (greatest_of c.0) room fits.0;
      nodes = t.nodes;
      smaller = t.smaller;
    }

-- one more node
node_takes : (line : ℕ) (at x : Place) → counted line at ≡ Ok x → (at.nodes < MOST_NODES) × (x.nodes ≡ at.nodes + 1) × (x.tokens ≡ at.tokens)
node_takes line at x e =
    let t = test_ok (nat_lt at.nodes MOST_NODES) (record at { nodes = at.nodes + 1 }) x (TooLong line) e in
    (less at.nodes t.0, sym (ap (λ (p : Place). p.nodes) t.1), sym (ap (λ (p : Place). p.tokens) t.1))
  where
    less : (n : ℕ) → nat_lt n MOST_NODES ≡ true → n < MOST_NODES
    less n h = grind (arith, nat_tests)

-- ---- parts of messages

-- a part with so many bytes on its longest path and so many nodes, where a path has so much room
pub record Part (phrase : Phrase) (bytes nodes room : ℕ) (at after : Place) : Type 0 where
  pub spelled : phrase at.tokens after.tokens
  pub path : bytes ≤ room
  pub count : after.nodes ≡ at.nodes + nodes
  pub limit : at.nodes ≤ MOST_NODES → after.nodes ≤ MOST_NODES
  pub smaller : size after.tokens < size at.tokens

-- two parts with `else` between them
joined : {P Q : Phrase} {b c m n room : ℕ} {at third fourth after : Place} → Part P b m room at third → Passed (keyword keywords.Else) third fourth → Part Q c n room fourth after → Part (P ▸ one (keyword keywords.Else) ▸ Q) (max b c) (m + n) room at after
joined {third = third} {fourth = fourth} p k q = record {
  spelled = (third.tokens, p.spelled, (fourth.tokens, k.first, q.spelled));
  path = omega (arith, p.path, q.path);
  count = omega (arith, p.count, k.nodes, q.count);
  limit = λ l. q.limit (let h = p.limit l in omega (arith, k.nodes, h));
  smaller = omega (arith, p.smaller, k.smaller, q.smaller);
}

abbrev pub FrameTaken : ℕ → ℕ → Place → FrameTree × Place → Type 0
FrameTaken room used at x = Part (SpellsFrame x.0) (used + frame_bytes x.0) (frame_nodes x.0) room at x.1

abbrev PayloadTaken : ℕ → Place → PayloadTree × Place → Type 0
PayloadTaken room at x = Part (SpellsPayload x.0) (payload_bytes x.0) (payload_nodes x.0) room at x.1

abbrev TailTaken : ℕ → ℕ → Place → TailTree × Place → Type 0
TailTaken room used at x = Part (SpellsTail x.0) (used + tail_bytes x.0) (tail_nodes x.0) room at x.1

-- what was read before the rest of a frame
record Headed (form : Form) (a : Address) (from at : Place) : Type 0 where
  between : Tokens
  first : one (keyword (form_keyword form)) from.tokens between
  second : one (word (address_word a)) between at.tokens
  nodes : at.nodes ≡ from.nodes
  smaller : size at.tokens < size from.tokens

-- what frame_in and byte_in take where a path has so much room
abbrev FramesTake : ℕ → Type 0
FramesTake room = (used : ℕ) (form : Form) (a : Address) (line : ℕ) (at : Place) (x : FrameTree × Place) → frame_in room used form a line at ≡ Ok x → (from : Place) → Headed form a from at → FrameTaken room used from x

abbrev BytesTake : ℕ → Type 0
BytesTake room = (bits : Pattern) (line : ℕ) (at : Place) (x : PayloadTree × Place) → byte_in room bits line at ≡ Ok x → (from : Place) → Passed (word (pattern_word bits)) from at → PayloadTaken room from x

module _ (room : ℕ) (frames : FramesTake room) where
  by_frames : (used : ℕ) (at : Place) (x : FrameTree × Place) → frame_by (frame_in room used) at ≡ Ok x → FrameTaken room used at x
  by_frames used at x e =
      let form = bind_ok (token_as form_in at) (λ form. token_as address_in form.2 >>= λ address. frame_in room used form.0 address.0 address.1 address.2) x e in
      let address = bind_ok (token_as address_in form.0.2) (λ address. frame_in room used form.0.0 address.0 address.1 address.2) x form.2 in
      let one = value_takes form_in (λ f. keyword (form_keyword f)) form_only at form.0 form.1 in
      let two = value_takes address_in (λ a. word (address_word a)) address_only form.0.2 address.0 address.1 in
      frames used form.0.0 address.0.0 address.0.1 address.0.2 x address.2 at (record { between = form.0.2.tokens; first = one.first; second = two.first; nodes = two.nodes ∙ one.nodes; smaller = omega (arith, one.smaller, two.smaller) })

  by_tails : (used : ℕ) → used ≤ room → (at : Place) (x : TailTree × Place) → tail_by (frame_in room used) at ≡ Ok x → TailTaken room used at x
  by_tails used fits at x e =
      let ends = bind_ok (token_as ends_with at) (λ ends. tail_after (frame_in room used) ends.0 ends.2) x e in
      after ends.0.0 ends.0.2 ends.2 (value_takes ends_with (λ k. keyword (ends_keyword k)) ends_only at ends.0 ends.1)
    where
      after : (k : Ends) (past : Place) → tail_after (frame_in room used) k past ≡ Ok x → Passed (keyword (ends_keyword k)) at past → TailTaken room used at x
      after stops past h p =
          subst (TailTaken room used at) (ok_is (stop, past) x h)
          record { spelled = p.first; path = omega arith; count = omega (arith, p.nodes); limit = λ l. omega (arith, p.nodes); smaller = omega (arith, p.smaller) }
      after goes_on past h p =
          let frame = bind_ok (frame_by (frame_in room used) past) (λ frame. Ok (again frame.0, frame.1)) x h in
          let f = by_frames used past frame.0 frame.1 in
          subst (TailTaken room used at) (ok_is (again frame.0.0, frame.0.1) x frame.2)
          record { spelled = (past.tokens, p.first, f.spelled); path = f.path; count = omega (arith, p.nodes, f.count); limit = λ l. f.limit (omega (arith, p.nodes)); smaller = omega (arith, p.smaller, f.smaller) }

  module _ (bytes : BytesTake room) where
    by_payload : (at : Place) (x : PayloadTree × Place) → payload_from (frame_in room 0) (byte_in room) at.tokens at.nodes ≡ Ok x → PayloadTaken room at x
    by_payload at x e = by_tokens at.tokens at.nodes e
      where
        as_tail : (from : Tokens) (nodes : ℕ) → (tail_by (frame_in room 0) (record { tokens = from; nodes = nodes }) >>= λ tail. Ok (last tail.0, tail.1)) ≡ Ok x → PayloadTaken room (record { tokens = from; nodes = nodes }) x
        as_tail from nodes h =
            let tail = bind_ok (tail_by (frame_in room 0) (record { tokens = from; nodes = nodes })) (λ tail. Ok (last tail.0, tail.1)) x h in
            let t = by_tails 0 (omega arith) (record { tokens = from; nodes = nodes }) tail.0 tail.1 in
            subst (PayloadTaken room (record { tokens = from; nodes = nodes })) (ok_is (last tail.0.0, tail.0.1) x tail.2)
            record { spelled = t.spelled; path = omega (arith, t.path); count = t.count; limit = t.limit; smaller = t.smaller }

        by_tokens : (from : Tokens) (nodes : ℕ) → payload_from (frame_in room 0) (byte_in room) from nodes ≡ Ok x → PayloadTaken room (record { tokens = from; nodes = nodes }) x
        by_tokens (next (word w) line rest) nodes h =
            let past : Place = record { tokens = rest; nodes = nodes } in
            let bits = bind_ok (or_refused (pattern_of w) (Unexpected line)) (λ bits. byte_in room bits line past) x h in
            let is = pattern_is w bits.0 (or_ok (pattern_of w) (Unexpected line) bits.0 bits.1) in
            bytes bits.0 line past x bits.2 (record { tokens = next (word w) line rest; nodes = nodes }) (record { first = (line, ap (λ (v : List ℕ). next (word v) line rest) (sym is)); nodes = refl; smaller = refl })
        by_tokens (next (keyword k) line rest) nodes h = as_tail (next (keyword k) line rest) nodes h
        by_tokens (next semicolon line rest) nodes h = as_tail (next semicolon line rest) nodes h
        by_tokens (tokens.last ending line) nodes h = as_tail (tokens.last ending line) nodes h

    by_answers : (at : Place) (x : PayloadTree × TailTree × Place) → answers_by (frame_in room 0) (byte_in room) at ≡ Ok x
        → Part (SpellsPayload x.0 ▸ one (keyword keywords.Else) ▸ SpellsTail x.1) (max (payload_bytes x.0) (0 + tail_bytes x.1)) (payload_nodes x.0 + tail_nodes x.1) room at x.2
    by_answers at x e =
        let acked = bind_ok (payload_from (frame_in room 0) (byte_in room) at.tokens at.nodes) (λ acked. else_at acked.1 >>= λ middle. tail_by (frame_in room 0) middle >>= λ refused. Ok (acked.0, refused.0, refused.1)) x e in
        let middle = bind_ok (else_at acked.0.1) (λ middle. tail_by (frame_in room 0) middle >>= λ refused. Ok (acked.0.0, refused.0, refused.1)) x acked.2 in
        let refused = bind_ok (tail_by (frame_in room 0) middle.0) (λ refused. Ok (acked.0.0, refused.0, refused.1)) x middle.2 in
        subst (λ (y : PayloadTree × TailTree × Place). Part (SpellsPayload y.0 ▸ one (keyword keywords.Else) ▸ SpellsTail y.1) (max (payload_bytes y.0) (0 + tail_bytes y.1)) (payload_nodes y.0 + tail_nodes y.1) room at y.2)
        (ok_is (acked.0.0, refused.0.0, refused.0.1) x refused.2)
        (joined (by_payload at acked.0 acked.1) (else_takes acked.0.1 middle.0 middle.1) (by_tails 0 (omega arith) middle.0 refused.0 refused.1))

  by_both : (used : ℕ) → used ≤ room → (at : Place) (x : TailTree × TailTree × Place) → tails_by (tail_by (frame_in room used)) (tail_by (frame_in room 0)) at ≡ Ok x
      → Part (SpellsTail x.0 ▸ one (keyword keywords.Else) ▸ SpellsTail x.1) (max (used + tail_bytes x.0) (0 + tail_bytes x.1)) (tail_nodes x.0 + tail_nodes x.1) room at x.2
  by_both used fits at x e =
      let after = bind_ok (tail_by (frame_in room used) at) (λ after. else_at after.1 >>= λ middle. tail_by (frame_in room 0) middle >>= λ refused. Ok (after.0, refused.0, refused.1)) x e in
      let middle = bind_ok (else_at after.0.1) (λ middle. tail_by (frame_in room 0) middle >>= λ refused. Ok (after.0.0, refused.0, refused.1)) x after.2 in
      let refused = bind_ok (tail_by (frame_in room 0) middle.0) (λ refused. Ok (after.0.0, refused.0, refused.1)) x middle.2 in
      subst (λ (y : TailTree × TailTree × Place). Part (SpellsTail y.0 ▸ one (keyword keywords.Else) ▸ SpellsTail y.1) (max (used + tail_bytes y.0) (0 + tail_bytes y.1)) (tail_nodes y.0 + tail_nodes y.1) room at y.2)
      (ok_is (after.0.0, refused.0.0, refused.0.1) x refused.2)
      (joined (by_tails used fits at after.0 after.1) (else_takes after.0.1 middle.0 middle.1) (by_tails 0 (omega arith) middle.0 refused.0 refused.1))

-- below a node is a byte of room less
noded : {P : Phrase} {bytes nodes room : ℕ} {after : Place} (line : ℕ) (at node : Place) → counted line at ≡ Ok node → Part P bytes nodes room node after → Part P (bytes + 1) (nodes + 1) (suc room) at after
noded {P} {after = after} line at node e p =
    let n = node_takes line at node e in
    let same = ap size n.2 in
    record {
      spelled = subst (λ (t : Tokens). P t after.tokens) n.2 p.spelled;
      path = omega (arith, p.path);
      count = omega (arith, n.1, p.count);
      limit = λ l. p.limit (omega (arith, n.0, n.1));
      smaller = omega (arith, same, p.smaller);
    }

mutual
  unfolding frame_in byte_in

  frames_take : (room : ℕ) → FramesTake room
  frames_take zero used form a line at x e from h = absurd cc
  frames_take (suc room) (suc used) form a line at x e from h =
      let p = frames_take room used form a line at x e from h in
      record { spelled = p.spelled; path = omega (arith, p.path); count = p.count; limit = p.limit; smaller = p.smaller }
  frames_take (suc room) zero writes a line at x e from h =
      let node = bind_ok (counted line at) (λ node. answers_by (frame_in room 0) (byte_in room) node >>= λ answers. Ok (write a answers.0 answers.1, answers.2)) x e in
      let answers = bind_ok (answers_by (frame_in room 0) (byte_in room) node.0) (λ answers. Ok (write a answers.0 answers.1, answers.2)) x node.2 in
      let p = noded line at node.0 node.1 (by_answers room (frames_take room) (bytes_take room) node.0 answers.0 answers.1) in
      subst (FrameTaken (suc room) 0 from) (ok_is (write a answers.0.0 answers.0.1, answers.0.2) x answers.2)
      record {
        spelled = (h.between, h.first, (at.tokens, h.second, p.spelled));
        path = omega (arith, p.path);
        count = omega (arith, h.nodes, p.count);
        limit = λ l. p.limit (omega (arith, h.nodes));
        smaller = omega (arith, h.smaller, p.smaller);
      }
  frames_take (suc room) zero reads a line at x e from h =
      let node = bind_ok (counted line at) (λ node. count_at room node >>= λ count. tails_by (tail_by (frame_in room (greatest_of count.0))) (tail_by (frame_in room 0)) count.1 >>= λ tails. Ok (read a count.0 tails.0 tails.1, tails.2)) x e in
      let count = bind_ok (count_at room node.0) (λ count. tails_by (tail_by (frame_in room (greatest_of count.0))) (tail_by (frame_in room 0)) count.1 >>= λ tails. Ok (read a count.0 tails.0 tails.1, tails.2)) x node.2 in
      let tails = bind_ok (tails_by (tail_by (frame_in room (greatest_of count.0.0))) (tail_by (frame_in room 0)) count.0.1) (λ tails. Ok (read a count.0.0 tails.0 tails.1, tails.2)) x count.2 in
      let c = count_takes room node.0 count.0 count.1 in
      let both = by_both room (frames_take room) (greatest_of count.0.0) c.fits count.0.1 tails.0 tails.1 in
      let counted_too : Part (SpellsCount count.0.0 ▸ SpellsTail tails.0.0 ▸ one (keyword keywords.Else) ▸ SpellsTail tails.0.1) (max (greatest_of count.0.0 + tail_bytes tails.0.0) (0 + tail_bytes tails.0.1)) (tail_nodes tails.0.0 + tail_nodes tails.0.1) room node.0 tails.0.2 = record {
        spelled = (count.0.1.tokens, c.spelled, both.spelled);
        path = both.path;
        count = omega (arith, c.nodes, both.count);
        limit = λ l. both.limit (omega (arith, c.nodes));
        smaller = omega (arith, c.smaller, both.smaller);
      } in
      let p = noded line at node.0 node.1 counted_too in
      subst (FrameTaken (suc room) 0 from) (ok_is (read a count.0.0 tails.0.0 tails.0.1, tails.0.2) x tails.2)
      record {
        spelled = (h.between, h.first, (at.tokens, h.second, p.spelled));
        path = omega (arith, p.path);
        count = omega (arith, h.nodes, p.count);
        limit = λ l. p.limit (omega (arith, h.nodes));
        smaller = omega (arith, h.smaller, p.smaller);
      }

  bytes_take : (room : ℕ) → BytesTake room
  bytes_take zero bits line at x e from h = absurd cc
  bytes_take (suc room) bits line at x e from h =
      let node = bind_ok (counted line at) (λ node. answers_by (frame_in room 0) (byte_in room) node >>= λ answers. Ok (byte bits answers.0 answers.1, answers.2)) x e in
      let answers = bind_ok (answers_by (frame_in room 0) (byte_in room) node.0) (λ answers. Ok (byte bits answers.0 answers.1, answers.2)) x node.2 in
      let p = noded line at node.0 node.1 (by_answers room (frames_take room) (bytes_take room) node.0 answers.0 answers.1) in
      subst (PayloadTaken (suc room) from) (ok_is (byte bits answers.0.0 answers.0.1, answers.0.2) x answers.2)
      record {
        spelled = (at.tokens, h.first, p.spelled);
        path = omega (arith, p.path);
        count = omega (arith, h.nodes, p.count);
        limit = λ l. p.limit (omega (arith, h.nodes));
        smaller = omega (arith, h.smaller, p.smaller);
      }

pub frame_takes : (room : ℕ) (at : Place) (x : FrameTree × Place) → frame_at room at ≡ Ok x → FrameTaken room 0 at x
frame_takes room = by_frames room (frames_take room) 0
