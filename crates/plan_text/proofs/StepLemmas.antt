-- What is read of a message in one step, where a path has so much room.
use Rattle.std.proofs.Common.{◌≡◌, ℕ, zero, suc, List, Option, Some, None, Bor, ◌+◌, ◌-◌, ◌<◌, ◌≤◌, Bool, true, false, ◌&&◌, refl, ap, sym, ◌∙◌, arith}
use Rattle.std.specs.Prelude.{Result, Ok, Err, nat_lt, nat_le, if◌then◌else◌}
use Rattle.message_tree.specs.declared.bits.Address.{Address}
use Rattle.message_tree.specs.declared.bits.Pattern.{Pattern}
use Rattle.message_tree.specs.declared.counts.Count.{Count}
use Rattle.message_tree.specs.Counts.{greatest_of}
use Rattle.message_tree.specs.Trees.{write, read, byte}
use Rattle.plan_core.specs.declared.limits.TheConstants.{MOST_NODES}
use Rattle.plan_text.specs.declared.errors.PlanError.{PlanError}
use Rattle.plan_text.specs.declared.errors.PlanError.TheVariants.{TooLong, Unexpected, BadCount}
use Rattle.plan_text.specs.declared.symbols.Keyword.TheVariants as keywords
use Rattle.plan_text.specs.declared.symbols.Symbol.{Symbol}
use Rattle.plan_text.specs.declared.symbols.Symbol.TheVariants as symbols
use Rattle.plan_text.specs.declared.symbols.Token as seen
use Rattle.plan_text.specs.Symbols.{pattern_word}
use Rattle.plan_text.specs.Places.{before, payload_at, node_at, tail_at, write_at, read_at, byte_at}
use Rattle.plan_text.specs.Reader.{Place, ◌>>=◌, token_as, address_in, counted, count_at, writes, reads, Frames, tail_by, payload_from, answers_by, tails_by, frame_in, byte_in, frame_at, or_refused, ends_in}
use Rattle.plan_text.specs.Reading.{with_symbol, unexpected_symbol, unexpected_at}
use Rattle.plan_text.specs.Tokens.{Token, word, next}
use Rattle.plan_text.specs.Values.{pattern_of, count_of}
use Rattle.plan_text.specs.Words.{count_ends}
use Rattle.std.proofs.lemmas.Bool.{lt-leb}
use Rattle.plan_text.proofs.ValueLemmas.{pattern_found}

pub same_after : {A B : Type 0} (r : Result A PlanError) (f g : A → Result B PlanError) → ((x : A) → f x ≡ g x) → (r >>= f) ≡ (r >>= g)
same_after (Ok x) f g h = h x
same_after (Err e) f g h = refl

node_is : {B : Type 0} (room line : ℕ) (at : Place) (f : ℕ × Place → Result B PlanError) → (counted line at >>= λ node. f (room, node)) ≡ (node_at (suc room) line at >>= f)
node_is room line at f = by_test (nat_lt 0 (suc room)) (nat_lt at.nodes MOST_NODES) (suc room - 1) (grind arith) (omega arith)
  where
    by_test : (some t : Bool) (below : ℕ) → some ≡ true → room ≡ below → ((if t then Ok (record at { nodes = at.nodes + 1 }) else Err (TooLong line)) >>= λ node. f (room, node))
        ≡ ((if some && t then Ok (below, record at { nodes = at.nodes + 1 }) else Err (TooLong line)) >>= f)
    by_test true true below e same = ap (λ n. f (n, record at { nodes = at.nodes + 1 })) same
    by_test true false below e same = refl
    by_test false t below e same = absurd cc

-- what a read has used is room less
pub used_up : (room used : ℕ) → frame_in room used ≡ frame_in (room - used) 0
unfolding frame_in
used_up zero used = let none : 0 - used ≡ 0 = omega arith in rw none refl
used_up (suc room) zero = let same : suc room - 0 ≡ suc room = omega arith in ap (λ n. frame_in n 0) (sym same)
used_up (suc room) (suc used) = let same : room - used ≡ suc room - suc used = omega arith in used_up room used ∙ ap (λ n. frame_in n 0) same

pub write_in_is : (room line : ℕ) (a : Address) (at : Place) → frame_in room 0 writes a line at
    ≡ (node_at room line at >>= λ node. answers_by (frame_in node.0 0) (byte_in node.0) node.1 >>= λ answers. Ok (write a answers.0 answers.1, answers.2))
unfolding frame_in
write_in_is zero line a at = refl
write_in_is (suc room) line a at = node_is room line at (λ node. answers_by (frame_in node.0 0) (byte_in node.0) node.1 >>= λ answers. Ok (write a answers.0 answers.1, answers.2))

pub read_in_is : (room line : ℕ) (a : Address) (at : Place) → frame_in room 0 reads a line at
    ≡ (node_at room line at >>= λ node. count_at node.0 node.1 >>= λ count. tails_by (tail_at (node.0 - greatest_of count.0)) (tail_at node.0) count.1 >>= λ tails. Ok (read a count.0 tails.0 tails.1, tails.2))
unfolding frame_in
read_in_is zero line a at = refl
read_in_is (suc room) line a at =
    same_after (counted line at) _ _ (λ node. same_after (count_at room node) _ _ (λ count. ap (λ (frames : Frames). tails_by (tail_by frames) (tail_at room) count.1 >>= λ tails. Ok (read a count.0 tails.0 tails.1, tails.2)) (used_up room (greatest_of count.0))))
    ∙ node_is room line at (λ node. count_at node.0 node.1 >>= λ count. tails_by (tail_at (node.0 - greatest_of count.0)) (tail_at node.0) count.1 >>= λ tails. Ok (read a count.0 tails.0 tails.1, tails.2))

pub byte_in_is : (room line : ℕ) (bits : Pattern) (at : Place) → byte_in room bits line at ≡ byte_at room bits line at
unfolding byte_in
byte_in_is zero line bits at = refl
byte_in_is (suc room) line bits at = node_is room line at (λ node. answers_by (frame_in node.0 0) (byte_in node.0) node.1 >>= λ answers. Ok (byte bits answers.0 answers.1, answers.2))

-- a payload that begins with this data byte
pub payload_by_byte : (room line : ℕ) (bits : Pattern) (at after : Place) → at.tokens ≡ next (word (pattern_word bits)) line after.tokens → at.nodes ≡ after.nodes → payload_at room at ≡ byte_at room bits line after
payload_by_byte room line bits at after front same =
    ap (λ t. payload_from (frame_in room 0) (byte_in room) t at.nodes) front
    ∙ ap (λ n. payload_from (frame_in room 0) (byte_in room) (next (word (pattern_word bits)) line after.tokens) n) same
    ∙ ap (λ (o : Option Pattern). or_refused o (Unexpected line) >>= λ b. byte_in room b line after) (pattern_found (pattern_word bits) bits refl)
    ∙ byte_in_is room line bits after

-- ---- by the symbol of the first token

module _ (token : seen.Token) (at after : Place) (first : at ≡ before token after) where
  by_symbol : {A : Type 0} (f : Place → A) (s : Symbol) → token.symbol ≡ s → f at ≡ f (record after { tokens = with_symbol s token.line after.tokens })
  by_symbol f s is = ap f first ∙ ap (λ (k : Symbol). f (record after { tokens = with_symbol k token.line after.tokens })) is

  pub frame_writes : (room : ℕ) → token.symbol ≡ symbols.Keyword keywords.Write → frame_at room at ≡ write_at room after
  frame_writes room is = by_symbol (frame_at room) _ is ∙ same_after (token_as address_in after) _ _ (λ a. write_in_is room a.1 a.0 a.2)

  pub frame_reads : (room : ℕ) → token.symbol ≡ symbols.Keyword keywords.Read → frame_at room at ≡ read_at room after
  frame_reads room is = by_symbol (frame_at room) _ is ∙ same_after (token_as address_in after) _ _ (λ a. read_in_is room a.1 a.0 a.2)

  module _ (w : Bor (List ℕ)) (is : token.symbol ≡ symbols.Word w) where
    pub unexpected_word : Unexpected token.line ≡ unexpected_at token
    unexpected_word = sym (ap (λ (s : Symbol). unexpected_symbol s token.line) is)

    pub word_found : {A : Type 0} (what : Token → Option A) (x : A) → what (word w.now) ≡ Some x → token_as what at ≡ Ok (x, token.line, after)
    word_found what x e = by_symbol (token_as what) _ is ∙ ap (λ (o : Option _). or_refused o (Unexpected token.line) >>= λ y. Ok (y, token.line, after)) e

    pub word_missed : {A : Type 0} (what : Token → Option A) → what (word w.now) ≡ None → token_as what at ≡ Err (unexpected_at token)
    word_missed what e =
        by_symbol (token_as what) _ is ∙ ap (λ (o : Option _). or_refused o (Unexpected token.line) >>= λ y. Ok (y, token.line, after)) e ∙ ap (λ (f : PlanError). Err f) unexpected_word

    pub payload_found : (room : ℕ) (bits : Pattern) → pattern_of w.now ≡ Some bits → payload_at room at ≡ byte_at room bits token.line after
    payload_found room bits e =
        by_symbol (payload_at room) _ is ∙ ap (λ (o : Option Pattern). or_refused o (Unexpected token.line) >>= λ b. byte_in room b token.line after) e ∙ byte_in_is room token.line bits after

    pub payload_missed : (room : ℕ) → pattern_of w.now ≡ None → payload_at room at ≡ Err (unexpected_at token)
    payload_missed room e =
        by_symbol (payload_at room) _ is ∙ ap (λ (o : Option Pattern). or_refused o (Unexpected token.line) >>= λ b. byte_in room b token.line after) e ∙ ap (λ (f : PlanError). Err f) unexpected_word

    module _ (room : ℕ) (ends : List ℕ × List ℕ) (written : count_ends w.now ≡ Some ends) where
      by_count : (o : Option Count) → count_of ends ≡ o → count_at room at ≡ (or_refused o (BadCount token.line) >>= λ c. if nat_le (greatest_of c) room then Ok (c, after) else Err (TooLong token.line))
      by_count o e =
          ap (λ (r : Result ((List ℕ × List ℕ) × ℕ × Place) PlanError). r >>= λ x. or_refused (count_of x.0) (BadCount x.1) >>= λ c. if nat_le (greatest_of c) room then Ok (c, x.2) else Err (TooLong x.1)) (word_found ends_in ends written)
          ∙ ap (λ (r : Option Count). or_refused r (BadCount token.line) >>= λ c. if nat_le (greatest_of c) room then Ok (c, after) else Err (TooLong token.line)) e

      pub count_bad : count_of ends ≡ None → count_at room at ≡ Err (BadCount token.line)
      count_bad e = by_count None e

      pub count_long : (c : Count) → count_of ends ≡ Some c → room < greatest_of c → count_at room at ≡ Err (TooLong token.line)
      count_long c e long = by_count (Some c) e ∙ rw (lt-leb (greatest_of c) room long) refl

      pub count_fits : (c : Count) → count_of ends ≡ Some c → greatest_of c ≤ room → count_at room at ≡ Ok (c, after)
      count_fits c e fits = let fitting : nat_le (greatest_of c) room ≡ true = grind arith in by_count (Some c) e ∙ rw fitting refl
