-- What is read is spelled so: tokens, names, values, counts and repetitions.
use Rattle.std.proofs.Common.{◌≡◌, ℕ, suc, ◌+◌, ◌-◌, ◌<◌, ◌≤◌, Bool, true, false, List, Option, Some, None, refl, ap, sym, ◌∙◌, subst, arith, inl, inr}
use Rattle.std.specs.Prelude.{Result, Ok, Err, nat_lt, nat_le, if◌then◌else◌}
use Rattle.std.proofs.lemmas.Bool.Decides.{nat_tests}
use Rattle.message_tree.specs.Counts.{greatest_of}
use Rattle.message_tree.specs.declared.bits.Address.{Address}
use Rattle.message_tree.specs.declared.bits.Pattern.{Pattern}
use Rattle.message_tree.specs.declared.counts.Count.{Count}
use Rattle.plan_core.specs.Names.{IsName, is_name}
use Rattle.plan_core.specs.declared.builder.BuildError.{BuildError}
use Rattle.plan_core.specs.declared.limits.TheConstants.{MOST_NODES}
use Rattle.plan_text.specs.Reader.{◌>>=◌, or_refused, unless_refused}
use Rattle.plan_text.specs.Values.{count_of}
use Rattle.plan_text.specs.Words.{count_ends}
use Rattle.plan_text.specs.declared.errors.PlanError.{PlanError}
use Rattle.plan_text.specs.declared.errors.PlanError.TheVariants.{Unexpected, Unknown, BadCount, TooLong}
use Rattle.plan_text.proofs.TakesLemmas.{bind_ok, or_ok, test_ok, ok_is}
use Rattle.plan_text.proofs.ValueLemmas.{count_is}
use Rattle.brief_tokens.specs.declared.symbols.Keyword.TheVariants as keywords
use Rattle.brief_tokens.specs.declared.symbols.Sign.TheVariants as signs
use Rattle.brief_text.specs.Drafts.{Draft}
use Rattle.brief_text.specs.Frames.{counted, ends_in, count_at}
use Rattle.brief_text.specs.Grammar.{Phrase, one, SpellsName, SpellsTo, SpellsData, SpellsCount}
use Rattle.brief_text.specs.Places.{Place, first_as, token_as, end_in, open_in, close_in, past, name_in, name_at, or_name, is_known, value_as, to_in, to_at, data_in, data_at}
use Rattle.brief_text.specs.Standing.{node_at}
use Rattle.brief_tokens.specs.Tokens.{Token, keyword, word, sign, Tokens, next}
use Rattle.brief_tokens.specs.Tokens as tokens
use Rattle.brief_text.specs.Trees.{Said, spelled, named}
use Rattle.brief_text.specs.Words.{address_by, data_by, any_byte}
use Rattle.brief_text.proofs.ValueLemmas.{size}

abbrev pub done : {A : Type 0} → A → Result A PlanError
done x = Ok x

pub test_then : {A : Type 0} (t : Bool) (r : Result A PlanError) (y : A) (e : PlanError) → (if t then r else Err e) ≡ Ok y → (t ≡ true) × (r ≡ Ok y)
test_then true r y e h = (refl, h)
test_then false r y e h = absurd cc

-- ---- tokens

-- what is counted stays
pub record Kept (at after : Place) : Type 0 where
  pub nodes : after.nodes ≡ at.nodes
  pub range : after.range ≡ at.range

-- one token of this phrase, and what is counted stays
pub record Passed (phrase : Phrase) (at after : Place) : Type 0 where
  pub spelled : phrase at.tokens after.tokens
  pub kept : Kept at after
  pub fewer : size at.tokens ≡ suc (size after.tokens)

-- the first token stands for this
pub record Taken {A : Type 0} (what : Token → Option A) (at : Place) (x : A × ℕ × Place) : Type 0 where
  pub token : Token
  pub known : what token ≡ Some x.0
  pub first : at.tokens ≡ next token x.1 x.2.tokens
  pub kept : Kept at x.2
  pub fewer : size at.tokens ≡ suc (size x.2.tokens)

pub token_takes : {A : Type 0} (what : Token → Option A) (at : Place) (x : A × ℕ × Place) → token_as what at ≡ Ok x → Taken what at x
token_takes {A} what at x e = by_tokens at.tokens at.nodes at.range e
  where
    by_tokens : (from : Tokens) (nodes : ℕ) (range : Option _) → first_as what from (record { tokens = from; nodes = nodes; range = range }) ≡ Ok x → Taken what (record { tokens = from; nodes = nodes; range = range }) x
    by_tokens (next token line rest) nodes range h =
        let after : Place = record { tokens = rest; nodes = nodes; range = range } in
        let y = bind_ok (or_refused (what token) (Unexpected line)) (λ y. Ok (y, line, after)) x h in
        subst (Taken what (record { tokens = next token line rest; nodes = nodes; range = range })) (ok_is (y.0, line, after) x y.2)
        record { token = token; known = or_ok (what token) (Unexpected line) y.0 y.1; first = refl; kept = record { nodes = refl; range = refl }; fewer = refl }
    by_tokens (tokens.last ending line) nodes range h = absurd cc

-- a token that says this is spelled so
pub spelled_takes : {A : Type 0} (what : Token → Option A) (phrase : A → Phrase) → ((t : Token) (x : A) (line : ℕ) (rest : Tokens) → what t ≡ Some x → phrase x (next t line rest) rest)
    → (at : Place) (x : A × ℕ × Place) → token_as what at ≡ Ok x → Passed (phrase x.0) at x.2
spelled_takes what phrase only at x e =
    let t = token_takes what at x e in
    record { spelled = subst (λ (from : Tokens). phrase x.0 from x.2.tokens) (sym t.first) (only t.token x.0 x.1 x.2.tokens t.known); kept = t.kept; fewer = t.fewer }

pub past_takes : (what : Token → Option (Unit {0})) (this : Token) → ((t : Token) → what t ≡ Some tt → t ≡ this) → (at after : Place) → past what at ≡ Ok after → Passed (one this) at after
past_takes what this only at after e =
    let x = bind_ok (token_as what at) (λ x. Ok x.2) after e in
    subst (Passed (one this) at) (ok_is x.0.2 after x.2)
    (spelled_takes what (λ _. one this) (λ t u line rest h. (line, ap (λ (k : Token). next k line rest) (only t h))) at x.0 x.1)

pub end_only : (t : Token) → end_in t ≡ Some tt → t ≡ sign signs.Semicolon
end_only (sign signs.Semicolon) e = refl
end_only t e = absurd cc

pub open_only : (t : Token) → open_in t ≡ Some tt → t ≡ sign signs.Open
open_only (sign signs.Open) e = refl
open_only t e = absurd cc

pub close_only : (t : Token) → close_in t ≡ Some tt → t ≡ sign signs.Close
close_only (sign signs.Close) e = refl
close_only t e = absurd cc

-- ---- names

if_name : (t : Bool) (bytes name : List ℕ) → (if t then Some bytes else None) ≡ Some name → (t ≡ true) × (bytes ≡ name)
if_name true bytes name e = (refl, cc)
if_name false bytes name e = absurd cc

pub name_only : (t : Token) (name : List ℕ) (line : ℕ) (rest : Tokens) → name_in t ≡ Some name → SpellsName name (next t line rest) rest
name_only (word bytes) name line rest e =
    let h = if_name (is_name bytes) bytes name e in
    ((line, ap (λ (b : List ℕ). next (word b) line rest) h.1), subst IsName h.1 h.0)
name_only t name line rest e = absurd cc

pub unless_ok : {A : Type 0} (cause : Option BuildError) (line : ℕ) (x y : A) → unless_refused cause line x ≡ Ok y → (cause ≡ None) × (x ≡ y)
unless_ok None line x y e = (refl, cc)
unless_ok (Some cause) line x y e = absurd cc

-- a name that is not refused
pub name_takes : (refusal : List ℕ → Option BuildError) (at : Place) (x : List ℕ × Place) → name_at refusal at ≡ Ok x → Passed (SpellsName x.0) at x.1 × (refusal x.0 ≡ None)
name_takes refusal at x e =
    let name = bind_ok (token_as name_in at) (λ name. unless_refused (refusal name.0) name.1 (name.0, name.2)) x e in
    let free = unless_ok (refusal name.0.0) name.0.1 (name.0.0, name.0.2) x name.2 in
    subst (λ (y : List ℕ × Place). Passed (SpellsName y.0) at y.1 × (refusal y.0 ≡ None)) free.1
    (spelled_takes name_in SpellsName name_only at name.0 name.1, free.0)

-- ---- values

pub some_is : {A : Type 0} (x y : A) → Some x ≡ Some y → x ≡ y
some_is x y e = cc

to_only : (t : Token) (x : Said Address) (line : ℕ) (rest : Tokens) → to_in t ≡ Some x → SpellsTo x (next t line rest) rest
to_only (word bytes) x line rest e = by_option (address_by bytes) refl e
  where
    by_option : (o : Option Address) → address_by bytes ≡ o → or_name o bytes ≡ Some x → SpellsTo x (next (word bytes) line rest) rest
    by_option (Some value) is h = subst (λ (y : Said Address). SpellsTo y (next (word bytes) line rest) rest) (some_is (spelled value) x h) (bytes, (line, refl), is)
    by_option None is h = by_name (is_name bytes) refl h
      where
        by_name : (t : Bool) → is_name bytes ≡ t → (if t then Some (named bytes) else None) ≡ Some x → SpellsTo x (next (word bytes) line rest) rest
        by_name true holds g = subst (λ (y : Said Address). SpellsTo y (next (word bytes) line rest) rest) (some_is (named bytes) x g) (((line, refl), holds), is)
        by_name false holds g = absurd cc
to_only t x line rest e = absurd cc

data_only : (t : Token) (x : Said Pattern) (line : ℕ) (rest : Tokens) → data_in t ≡ Some x → SpellsData x (next t line rest) rest
data_only (word bytes) x line rest e = by_option (data_by bytes) refl e
  where
    by_option : (o : Option Pattern) → data_by bytes ≡ o → or_name o bytes ≡ Some x → SpellsData x (next (word bytes) line rest) rest
    by_option (Some value) is h = subst (λ (y : Said Pattern). SpellsData y (next (word bytes) line rest) rest) (some_is (spelled value) x h) (inl (bytes, (line, refl), is))
    by_option None is h = by_name (is_name bytes) refl h
      where
        by_name : (t : Bool) → is_name bytes ≡ t → (if t then Some (named bytes) else None) ≡ Some x → SpellsData x (next (word bytes) line rest) rest
        by_name true holds g = subst (λ (y : Said Pattern). SpellsData y (next (word bytes) line rest) rest) (some_is (named bytes) x g) (((line, refl), holds), is)
        by_name false holds g = absurd cc
data_only (keyword keywords.Any) x line rest e = subst (λ (y : Said Pattern). SpellsData y (next (keyword keywords.Any) line rest) rest) (some_is (spelled any_byte) x e) (inr ((line, refl), refl))
data_only t x line rest e = absurd cc

-- a value whose name is known, if it has one
pub value_takes : {A : Type 0} (what : Token → Option (Said A)) (phrase : Said A → Phrase) → ((t : Token) (x : Said A) (line : ℕ) (rest : Tokens) → what t ≡ Some x → phrase x (next t line rest) rest)
    → (entries : List (List ℕ × A)) (at : Place) (x : Said A × ℕ × Place) → value_as what entries at ≡ Ok x → Passed (phrase x.0) at x.2 × (is_known entries x.0 ≡ true)
value_takes {A} what phrase only entries at x e =
    let said = bind_ok (token_as what at) (λ said. if is_known entries said.0 then Ok said else Err (Unknown said.1)) x e in
    let known = test_ok (is_known entries said.0.0) said.0 x (Unknown said.0.1) said.2 in
    subst (λ (y : Said A × ℕ × Place). Passed (phrase y.0) at y.2 × (is_known entries y.0 ≡ true)) known.1
    (spelled_takes what phrase only at said.0 said.1, known.0)

pub to_takes : (draft : Draft) (at : Place) (x : Said Address × ℕ × Place) → to_at draft at ≡ Ok x → Passed (SpellsTo x.0) at x.2 × (is_known draft.devices x.0 ≡ true)
to_takes draft = value_takes to_in SpellsTo to_only draft.devices

pub data_takes : (draft : Draft) (at : Place) (x : Said Pattern × ℕ × Place) → data_at draft at ≡ Ok x → Passed (SpellsData x.0) at x.2 × (is_known draft.bytes x.0 ≡ true)
data_takes draft = value_takes data_in SpellsData data_only draft.bytes

-- ---- counts

pub le_from : (m n : ℕ) → nat_le m n ≡ true → m ≤ n
le_from m n h = grind (arith, nat_tests)

word_of : (t : Token) (ends : List ℕ × List ℕ) → ends_in t ≡ Some ends → (bytes : List ℕ) × (t ≡ word bytes) × (count_ends bytes ≡ Some ends)
word_of (word bytes) ends e = (bytes, refl, e)
word_of t ends e = absurd cc

pub count_takes : (room : ℕ) (at : Place) (x : Count × Place) → count_at room at ≡ Ok x → Passed (SpellsCount x.0) at x.1 × (greatest_of x.0 ≤ room)
count_takes room at x e =
    let w = bind_ok (token_as ends_in at) (λ ends. or_refused (count_of ends.0) (BadCount ends.1) >>= λ count. if nat_le (greatest_of count) room then Ok (count, ends.2) else Err (TooLong ends.1)) x e in
    let c = bind_ok (or_refused (count_of w.0.0) (BadCount w.0.1)) (λ count. if nat_le (greatest_of count) room then Ok (count, w.0.2) else Err (TooLong w.0.1)) x w.2 in
    let fits = test_ok (nat_le (greatest_of c.0) room) (c.0, w.0.2) x (TooLong w.0.1) c.2 in
    let between = count_is w.0.0 c.0 (or_ok (count_of w.0.0) (BadCount w.0.1) c.0 c.1) in
    let t = token_takes ends_in at w.0 w.1 in
    let bytes = word_of t.token w.0.0 t.known in
    subst (λ (y : Count × Place). Passed (SpellsCount y.0) at y.1 × (greatest_of y.0 ≤ room)) fits.1 (
      record {
        spelled = (bytes.0, (w.0.1, t.first ∙ ap (λ (k : Token). next k w.0.1 w.0.2.tokens) bytes.1), record { ends = w.0.0; form = bytes.2; least = between.0; greatest = between.1 });
        kept = t.kept;
        fewer = t.fewer;
      },
      le_from (greatest_of c.0) room fits.0,
    )

-- ---- nodes

-- so many more of them, and no token
pub record Counted (nodes : ℕ) (at after : Place) : Type 0 where
  pub tokens : after.tokens ≡ at.tokens
  pub range : after.range ≡ at.range
  pub count : after.nodes ≡ at.nodes + nodes
  pub limit : after.nodes ≤ MOST_NODES

pub counted_takes : (nodes line : ℕ) (at after : Place) → counted nodes line at ≡ Ok after → Counted nodes at after
counted_takes nodes line at after e =
    let t = test_ok (nat_le (at.nodes + nodes) MOST_NODES) (record at { nodes = at.nodes + nodes }) after (TooLong line) e in
    subst (Counted nodes at) t.1
    record { tokens = refl; range = refl; count = refl; limit = le_from (at.nodes + nodes) MOST_NODES t.0 }

pub node_takes : (room copies line : ℕ) (at : Place) (x : ℕ × Place) → node_at room copies line at ≡ Ok x → Counted copies at x.1 × (0 < room) × (x.0 ≡ room - 1)
node_takes room copies line at x e = by_test (nat_lt 0 room) refl e
  where
    some : (n : ℕ) → nat_lt 0 n ≡ true → 0 < n
    some n h = grind (arith, nat_tests)

    by_test : (t : Bool) → nat_lt 0 room ≡ t → (if t then (counted copies line at >>= λ node. Ok (room - 1, node)) else Err (TooLong line)) ≡ Ok x → Counted copies at x.1 × (0 < room) × (x.0 ≡ room - 1)
    by_test true holds h =
        let node = bind_ok (counted copies line at) (λ node. Ok (room - 1, node)) x h in
        subst (λ (y : ℕ × Place). Counted copies at y.1 × (0 < room) × (y.0 ≡ room - 1)) (ok_is (room - 1, node.0) x node.2)
        (counted_takes copies line at node.0 node.1, some room holds, refl)
    by_test false holds h = absurd cc
