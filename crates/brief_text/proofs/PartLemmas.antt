-- Parts of messages that are read one after the other: how they are spelled, the range, and how many nodes they have.
use Rattle.std.proofs.Common.{◌≡◌, ℕ, zero, suc, ◌+◌, ◌-◌, ◌*◌, ◌≤◌, Bool, true, false, List, Option, Some, None, is_some, refl, ap, sym, ◌∙◌, subst, arith, inl, inr}
use Rattle.std.specs.Prelude.{Ok, Err, max, nat_le, if◌then◌else◌}
use Rattle.std.proofs.lemmas.Bool.{and_parts}
use Rattle.std.proofs.lemmas.Bool.Decides.{nat_tests}
use Rattle.message_tree.specs.Sizes.{payload_bytes, tail_bytes, payload_nodes, tail_nodes}
use Rattle.message_tree.specs.Trees.{PayloadTree, TailTree}
use Rattle.message_tree.specs.declared.bits.Pattern.{Pattern}
use Rattle.plan_core.specs.declared.limits.TheConstants.{MOST_NODES}
use Rattle.plan_text.specs.declared.errors.PlanError.TheVariants.{Unexpected, BadCount, TooLong}
use Rattle.plan_text.specs.declared.errors.PlanError.TheVariants as errors
use Rattle.plan_text.proofs.TakesLemmas.{bind_ok, ok_is}
use Rattle.brief_tokens.specs.declared.symbols.Sign.TheVariants as signs
use Rattle.brief_text.specs.declared.syntax.Lengths.{Lengths}
use Rattle.brief_text.specs.Drafts.{Draft, repeated, how_often}
use Rattle.brief_text.specs.Fitting.{often_ranges, range_count, IsAllowed}
use Rattle.brief_text.specs.Frames.{Around, further, counted, often_or, often_by, often_from, often_at, with_range, repetition_in}
use Rattle.brief_text.specs.Grammar.{Phrase, one, ◌▸◌, SpellsAs, SpellsOften}
use Rattle.brief_text.specs.Judging.{range_refusal}
use Rattle.brief_text.specs.Places.{Place, token_as}
use Rattle.brief_tokens.specs.Tokens.{Token, word, sign, Tokens, next}
use Rattle.brief_text.specs.Trees.{Times, times, ranged}
use Rattle.brief_text.specs.Words.{Repetition, so_often, from_to, repetition_by, is_countable, is_range}
use Rattle.brief_text.proofs.TakesLemmas.{Passed, Counted, counted_takes, spelled_takes, le_from, test_then, done}
use Rattle.brief_text.proofs.ValueLemmas.{size}

-- ---- the size of a byte that is repeated

pub repeated_nodes : (n : ℕ) (bits : Pattern) (acked : PayloadTree) (refused : TailTree) → payload_nodes (repeated n bits acked refused) ≡ payload_nodes acked + n * (tail_nodes refused + 1)
repeated_nodes zero bits acked refused = omega arith
repeated_nodes (suc n) bits acked refused = let others = repeated_nodes n bits acked refused in omega (arith, others)

pub repeated_bytes : (n : ℕ) (bits : Pattern) (acked : PayloadTree) (refused : TailTree) → payload_bytes (repeated (suc n) bits acked refused) ≡ max (payload_bytes acked) (tail_bytes refused) + suc n
repeated_bytes zero bits acked refused = omega arith
repeated_bytes (suc n) bits acked refused = let others = repeated_bytes n bits acked refused in omega (arith, others)

-- ---- the range of a message, which is R in the end

-- how often its byte stands in the longest of the messages that are made
abbrev pub most_often : Option Lengths → ℕ
most_often None = 1
most_often (Some range) = range.greatest

-- what has been read so far has no range, or this one
abbrev pub Agrees : Option Lengths → Option Lengths → Type 0
Agrees None R = Unit {0}
Agrees (Some range) R = R ≡ Some range

pub agrees_self : (a : Option Lengths) → Agrees a a
agrees_self None = tt
agrees_self (Some range) = refl

pub agrees_then : (a b c : Option Lengths) → Agrees a b → Agrees b c → Agrees a c
agrees_then None b c p q = tt
agrees_then (Some range) b c p q = subst (λ (o : Option Lengths). Agrees o c) p q

module _ (g : Around) where
  -- a part of a message, with so many ranges and nodes
  pub record Part (phrase : Phrase) (ranges nodes : ℕ) (at after : Place) : Type 0 where
    pub spelled : phrase at.tokens after.tokens
    pub agrees : Agrees at.range after.range
    pub found : range_count after.range ≡ range_count at.range + ranges
    pub allowed : IsAllowed g.draft g.name at.range → IsAllowed g.draft g.name after.range
    pub count : after.nodes ≡ at.nodes + nodes
    pub limit : at.nodes ≤ MOST_NODES → after.nodes ≤ MOST_NODES
    pub fewer : size after.tokens ≤ size at.tokens

  pub passing : {phrase : Phrase} {at after : Place} → Passed phrase at after → Part phrase 0 0 at after
  passing {at = at} {after = after} p = record {
    spelled = p.spelled;
    agrees = subst (Agrees at.range) (sym p.kept.range) (agrees_self at.range);
    found = ap range_count p.kept.range ∙ omega arith;
    allowed = subst (IsAllowed g.draft g.name) (sym p.kept.range);
    count = p.kept.nodes ∙ omega arith;
    limit = λ l. omega (arith, p.kept.nodes);
    fewer = omega (arith, p.fewer);
  }

  pub joined : {P Q : Phrase} {r s m k : ℕ} {at mid after : Place} → Part P r m at mid → Part Q s k mid after → Part (P ▸ Q) (r + s) (m + k) at after
  joined {at = at} {mid = mid} {after = after} p q = record {
    spelled = (mid.tokens, p.spelled, q.spelled);
    agrees = agrees_then at.range mid.range after.range p.agrees q.agrees;
    found = omega (arith, p.found, q.found);
    allowed = λ h. q.allowed (p.allowed h);
    count = omega (arith, p.count, q.count);
    limit = λ l. q.limit (p.limit l);
    fewer = omega (arith, p.fewer, q.fewer);
  }

  -- nodes before a part
  pub noded : {P : Phrase} {r m n : ℕ} {at mid after : Place} → Counted n at mid → Part P r m mid after → Part P r (n + m) at after
  noded {P} {r} {at = at} {mid = mid} {after = after} c p = record {
    spelled = subst (λ (t : Tokens). P t after.tokens) c.tokens p.spelled;
    agrees = subst (λ (o : Option Lengths). Agrees o after.range) c.range p.agrees;
    found = p.found ∙ ap (λ (o : Option Lengths). range_count o + r) c.range;
    allowed = λ h. p.allowed (subst (IsAllowed g.draft g.name) (sym c.range) h);
    count = omega (arith, c.count, p.count);
    limit = λ l. p.limit c.limit;
    fewer = let same = ap size c.tokens in omega (arith, same, p.fewer);
  }

  -- the same counted otherwise
  pub recounted : {P : Phrase} {r s m k : ℕ} {at after : Place} → r ≡ s → m ≡ k → Part P r m at after → Part P s k at after
  recounted {P} {r} {k = k} {at = at} {after = after} e f p = subst (λ n. Part P n k at after) e (subst (λ n. Part P r n at after) f p)

  -- nodes after it
  then_noded : {P : Phrase} {r m n : ℕ} {at mid after : Place} → Part P r m at mid → Counted n mid after → Part P r (m + n) at after
  then_noded {P} {r} {at = at} {mid = mid} {after = after} p c = record {
    spelled = subst (P at.tokens) (sym c.tokens) p.spelled;
    agrees = subst (Agrees at.range) (sym c.range) p.agrees;
    found = ap range_count c.range ∙ p.found;
    allowed = λ h. subst (IsAllowed g.draft g.name) (sym c.range) (p.allowed h);
    count = omega (arith, c.count, p.count);
    limit = λ l. c.limit;
    fewer = let same = ap size c.tokens in omega (arith, same, p.fewer);
  }

  -- the range, once
  pub then_ranged : {P : Phrase} {m : ℕ} {at mid : Place} (range : Lengths) → Part P 0 m at mid → mid.range ≡ None → IsAllowed g.draft g.name (Some range) → Part P 1 m at (record mid { range = Some range })
  then_ranged {P} {m} {at = at} {mid = mid} range p none allowed = record {
    spelled = p.spelled;
    agrees = agrees_then at.range mid.range (Some range) p.agrees (subst (λ (o : Option Lengths). Agrees o (Some range)) (sym none) tt);
    found = let before = ap range_count none in omega (arith, before, p.found);
    allowed = λ h. allowed;
    count = p.count;
    limit = p.limit;
    fewer = p.fewer;
  }

-- ---- repetitions

pub further_takes : (room copies more line : ℕ) (at after : Place) → further room copies more line at ≡ Ok after → Counted (copies * more) at after × (more ≤ room)
further_takes room copies more line at after e =
    let t = test_then (nat_le more room) (counted (copies * more) line at) after (TooLong line) e in
    (counted_takes (copies * more) line at after t.1, le_from more room t.0)

-- no name of the family is refused
pub range_takes : {A : Type 0} (draft : Draft) (name : List ℕ) (range : Lengths) (line : ℕ) (x y : A) → range_refusal draft name range line x ≡ Ok y → (x ≡ y) × IsAllowed draft name (Some range)
range_takes {A} draft name range line x y e = by_tests _ _ _ e
  where
    by_tests : (a b c : Bool) → (if a then Err (Unexpected line) else if b then Err (errors.Twice line) else if c then Err (errors.TooMany line) else Ok x) ≡ Ok y
        → (x ≡ y) × ((if a then Err (Unexpected 0) else if b then Err (errors.Twice 0) else if c then Err (errors.TooMany 0) else Ok range) ≡ done range)
    by_tests false false false h = (ok_is x y h, refl)
    by_tests true b c h = absurd cc
    by_tests false true c h = absurd cc
    by_tests false false true h = absurd cc

repetition_only : (t : Token) (x : Repetition) (line : ℕ) (rest : Tokens) → repetition_in t ≡ Some x → (SpellsAs repetition_by x) (next t line rest) rest
repetition_only (word bytes) x line rest e = (bytes, (line, refl), e)
repetition_only t x line rest e = absurd cc

pub countable : (n : ℕ) → is_countable n ≡ true → n ≡ suc (n - 1)
countable n h = grind (arith, nat_tests)

pub some_times : (range : Lengths) → is_range range.least range.greatest ≡ true → range.greatest ≡ suc (range.greatest - 1)
some_times range h = countable range.greatest (and_parts (is_countable range.greatest) (nat_le range.least range.greatest) h).0

abbrev ends : ℕ → ℕ → Lengths
ends least greatest = record { least = least; greatest = greatest }

module _ (g : Around) (R : Option Lengths) (room copies : ℕ) (at : Place) where
  -- how often a byte stands, and how many more of it that are at most
  pub record Repeats (x : (Times × ℕ) × Place) : Type 0 where
    pub part : Part g (SpellsOften R x.0.0) (often_ranges x.0.0) (copies * x.0.1) at x.1
    pub fits : x.0.1 ≤ room
    pub often : how_often (most_often R) x.0.0 ≡ suc x.0.1

  abbrev Starred : Repetition → Place → Type 0
  Starred said mid = Part g (one (sign signs.Star) ▸ SpellsAs repetition_by said) 0 0 at mid

  -- the byte stands so often, and that is counted
  said_takes : (said : Repetition) (line : ℕ) (mid : Place) (x : (Times × ℕ) × Place) → Starred said mid → often_by g room copies said line mid ≡ Ok x → Agrees x.1.range R → Repeats x
  said_takes (so_often n) line mid x p e agrees =
      let t = test_then (is_countable n) (often_or (times n) room copies (n - 1) line mid) x (BadCount line) e in
      let after = bind_ok (further room copies (n - 1) line mid) (λ after. Ok ((times n, n - 1), after)) x t.1 in
      let f = further_takes room copies (n - 1) line mid after.0 after.1 in
      let all = then_noded g p f.0 in
      subst Repeats (ok_is ((times n, n - 1), after.0) x after.2)
      record {
        part = record { spelled = inr (all.spelled, t.0); agrees = all.agrees; found = all.found; allowed = all.allowed; count = all.count ∙ omega arith; limit = all.limit; fewer = all.fewer };
        fits = f.1;
        often = countable n t.0;
      }
  said_takes (from_to least greatest) line mid x p e agrees = by_range mid.range refl e
    where
      by_range : (o : Option Lengths) → mid.range ≡ o → (if is_some o then Err (Unexpected line) else if is_range least greatest then with_range g room copies (ends least greatest) line mid else Err (BadCount line)) ≡ Ok x → Repeats x
      by_range (Some other) is h = absurd cc
      by_range None is h =
          let range = ends least greatest in
          let t = test_then (is_range least greatest) (with_range g room copies range line mid) x (BadCount line) h in
          let ranging : Place = record mid { range = Some range } in
          let named = bind_ok (range_refusal g.draft g.name range line ranging) (λ named. often_or ranged room copies (greatest - 1) line named) x t.1 in
          let free = range_takes g.draft g.name range line ranging named.0 named.1 in
          let after = bind_ok (further room copies (greatest - 1) line named.0) (λ after. Ok ((ranged, greatest - 1), after)) x named.2 in
          let f = further_takes room copies (greatest - 1) line ranging after.0 (ap (further room copies (greatest - 1) line) free.0 ∙ after.1) in
          let all = then_noded g (then_ranged g range p is free.1) f.0 in
          let same = ok_is ((ranged, greatest - 1), after.0) x after.2 in
          let whole : R ≡ Some range = subst (λ (o : Option Lengths). Agrees o R) (ap (λ (y : (Times × ℕ) × Place). y.1.range) (sym same) ∙ f.0.range) agrees in
          subst Repeats same
          record {
            part = record { spelled = subst (λ (o : Option Lengths). SpellsOften o ranged at.tokens after.0.tokens) (sym whole) (all.spelled, t.0); agrees = all.agrees; found = all.found; allowed = all.allowed; count = all.count ∙ omega arith; limit = all.limit; fewer = all.fewer };
            fits = f.1;
            often = ap most_often whole ∙ some_times range t.0;
          }

  pub often_takes : (x : (Times × ℕ) × Place) → often_at g room copies at ≡ Ok x → Agrees x.1.range R → Repeats x
  often_takes x e agrees = by_tokens at.tokens refl e
    where
      once : done ((times 1, 0), at) ≡ Ok x → Repeats x
      once h =
          subst Repeats (ok_is ((times 1, 0), at) x h)
          record {
            part = record { spelled = inl (refl, refl); agrees = agrees_self at.range; found = omega arith; allowed = λ a. a; count = omega arith; limit = λ l. l; fewer = omega arith };
            fits = omega arith;
            often = refl;
          }

      by_tokens : (from : Tokens) → at.tokens ≡ from → often_from g room copies from at ≡ Ok x → Repeats x
      by_tokens (next (sign signs.Star) line rest) is h =
          let past : Place = record at { tokens = rest } in
          let found = bind_ok (token_as repetition_in past) (λ found. often_by g room copies found.0 found.1 found.2) x h in
          let star : Passed (one (sign signs.Star)) at past = record { spelled = (line, is); kept = record { nodes = refl; range = refl }; fewer = ap size is } in
          let said = spelled_takes repetition_in (SpellsAs repetition_by) repetition_only past found.0 found.1 in
          said_takes found.0.0 found.0.1 found.0.2 x (joined g (passing g star) (passing g said)) found.2 agrees
      by_tokens from is h = once h
