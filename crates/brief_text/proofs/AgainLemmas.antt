-- What is spelled so is read again: tokens, names, values, counts and repetitions.
use Rattle.std.proofs.Common.{◌≡◌, ℕ, suc, ◌+◌, ◌-◌, ◌*◌, ◌<◌, ◌≤◌, Bool, true, false, List, Option, Some, None, refl, ap, sym, ◌∙◌, subst, arith, inl, inr}
use Rattle.std.specs.Prelude.{Ok, Err, nat_le, if◌then◌else◌}
use Rattle.std.proofs.lemmas.Bool.{lt-ltb}
use Rattle.message_tree.specs.Counts.{greatest_of}
use Rattle.message_tree.specs.declared.bits.Address.{Address}
use Rattle.message_tree.specs.declared.bits.Pattern.{Pattern}
use Rattle.message_tree.specs.declared.counts.Count.{Count}
use Rattle.plan_core.specs.declared.builder.BuildError.{BuildError}
use Rattle.plan_core.specs.declared.limits.TheConstants.{MOST_NODES}
use Rattle.plan_text.specs.Reader.{◌>>=◌, or_refused}
use Rattle.plan_text.specs.declared.errors.PlanError.TheVariants.{Unexpected}
use Rattle.plan_text.specs.declared.errors.PlanError.TheVariants as errors
use Rattle.plan_text.proofs.ValueLemmas.{count_found}
use Rattle.brief_tokens.specs.declared.symbols.Keyword.TheVariants as keywords
use Rattle.brief_text.specs.declared.syntax.Lengths.{Lengths}
use Rattle.brief_text.specs.Drafts.{Draft, how_often}
use Rattle.brief_text.specs.Fitting.{often_ranges, range_count, IsAllowed}
use Rattle.brief_text.specs.Frames.{Around, ends_in, count_at, counted, often_from, often_at, repetition_in, begins_data}
use Rattle.brief_text.specs.Grammar.{one, SpellsName, SpellsTo, SpellsData, SpellsCount, SpellsOften}
use Rattle.brief_text.specs.Judging.{range_refusal}
use Rattle.brief_text.specs.Places.{Place, Reads, first_as, token_as, past, name_in, name_at, is_known, to_in, to_at, data_in, data_at}
use Rattle.brief_text.specs.Standing.{node_at}
use Rattle.brief_tokens.specs.Tokens.{Token, keyword, word, Tokens}
use Rattle.brief_text.specs.Trees.{Said, spelled, named, Times, times, ranged}
use Rattle.brief_text.specs.Words.{so_often, from_to}
use Rattle.brief_text.proofs.FollowLemmas.{begins_star, often_stays}
use Rattle.brief_text.proofs.PartLemmas.{most_often, Agrees, countable, some_times}
use Rattle.brief_text.proofs.TakesLemmas.{done}

abbrev pub spot : Tokens → ℕ → Option Lengths → Place
spot from nodes range = record { tokens = from; nodes = nodes; range = range }

pub leb_is : (m n : ℕ) → m ≤ n → nat_le m n ≡ true
leb_is m n h = grind arith

-- ---- tokens, where so many nodes and this range stand before

module _ (nodes : ℕ) (p : Option Lengths) where
  pub token_again : {A : Type 0} (what : Token → Option A) (token : Token) (x : A) (from rest : Tokens) (first : one token from rest) → what token ≡ Some x → token_as what (spot from nodes p) ≡ Ok (x, first.0, spot rest nodes p)
  token_again what token x from rest first known =
      ap (λ (t : Tokens). first_as what t (spot t nodes p)) first.1 ∙ ap (λ (o : Option _). or_refused o (Unexpected first.0) >>= λ y. Ok (y, first.0, spot rest nodes p)) known

  pub past_again : (what : Token → Option (Unit {0})) (token : Token) (from rest : Tokens) → one token from rest → what token ≡ Some tt → past what (spot from nodes p) ≡ Ok (spot rest nodes p)
  past_again what token from rest first known = rw (token_again what token tt from rest first known) refl

  pub name_again : (refusal : List ℕ → Option BuildError) (name : List ℕ) (from rest : Tokens) → SpellsName name from rest → refusal name ≡ None → name_at refusal (spot from nodes p) ≡ Ok (name, spot rest nodes p)
  name_again refusal name from rest s allowed = rw (token_again name_in (word name) name from rest s.0 (rw s.1 refl), allowed) refl

  -- ---- values

  pub to_again : (draft : Draft) (to : Said Address) (from rest : Tokens) → SpellsTo to from rest → is_known draft.devices to ≡ true → (line : ℕ) × (to_at draft (spot from nodes p) ≡ Ok (to, line, spot rest nodes p))
  to_again draft (spelled address) from rest s known = (s.1.0, rw (token_again to_in (word s.0) (spelled address) from rest s.1 (rw s.2 refl)) refl)
  to_again draft (named name) from rest s known = (s.0.0.0, rw (token_again to_in (word name) (named name) from rest s.0.0 (rw (s.1, s.0.1) refl), known) refl)

  pub data_again : (draft : Draft) (bits : Said Pattern) (from rest : Tokens) → SpellsData bits from rest → is_known draft.bytes bits ≡ true → (line : ℕ) × (data_at draft (spot from nodes p) ≡ Ok (bits, line, spot rest nodes p))
  data_again draft (spelled bits) from rest (inl s) known = (s.1.0, rw (token_again data_in (word s.0) (spelled bits) from rest s.1 (rw s.2 refl)) refl)
  data_again draft (spelled bits) from rest (inr s) known = (s.0.0, rw (token_again data_in (keyword keywords.Any) (spelled bits) from rest s.0 (ap (λ (b : Pattern). Some (spelled b)) (sym s.1))) refl)
  data_again draft (named name) from rest s known = (s.0.0.0, rw (token_again data_in (word name) (named name) from rest s.0.0 (rw (s.1, s.0.1) refl), known) refl)

  pub count_again : (c : Count) (room : ℕ) (from rest : Tokens) → SpellsCount c from rest → greatest_of c ≤ room → count_at room (spot from nodes p) ≡ Ok (c, spot rest nodes p)
  count_again c room from rest s fits =
      rw (token_again ends_in (word s.0) s.2.ends from rest s.1 s.2.form, count_found s.2.ends c s.2.least s.2.greatest, leb_is (greatest_of c) room fits) refl

  pub counted_again : (more line : ℕ) (from : Tokens) → nodes + more ≤ MOST_NODES → counted more line (spot from nodes p) ≡ Ok (spot from (nodes + more) p)
  counted_again more line from fits = rw (leb_is (nodes + more) MOST_NODES fits) refl

  pub node_again : (room copies line : ℕ) (from : Tokens) → 0 < room → nodes + copies ≤ MOST_NODES → node_at room copies line (spot from nodes p) ≡ Ok (room - 1, spot from (nodes + copies) p)
  node_again room copies line from some fits = rw (lt-ltb 0 room some, counted_again copies line from fits) refl

pub data_begins : (bits : Said Pattern) (from rest : Tokens) → SpellsData bits from rest → begins_data from ≡ true
data_begins (spelled bits) from rest (inl s) = ap begins_data s.1.1
data_begins (spelled bits) from rest (inr s) = ap begins_data s.0.1
data_begins (named name) from rest s = ap begins_data s.0.0.1

-- ---- repetitions

pub none_left : (p : Option Lengths) → range_count p + 1 ≤ 1 → p ≡ None
none_left None h = refl
none_left (Some range) h = absurd (omega arith)

pub range_again : {A : Type 0} (draft : Draft) (name : List ℕ) (range : Lengths) (line : ℕ) (x : A) → IsAllowed draft name (Some range) → range_refusal draft name range line x ≡ Ok x
range_again {A} draft name range line x allowed = by_tests _ _ _ allowed
  where
    by_tests : (a b c : Bool) → (if a then Err (Unexpected 0) else if b then Err (errors.Twice 0) else if c then Err (errors.TooMany 0) else Ok range) ≡ done range
        → (if a then Err (Unexpected line) else if b then Err (errors.Twice line) else if c then Err (errors.TooMany line) else Ok x) ≡ done x
    by_tests false false false h = refl
    by_tests true b c h = absurd cc
    by_tests false true c h = absurd cc
    by_tests false false true h = absurd cc

-- a byte stands once at least
pub often_some : (R : Option Lengths) (often : Times) (from to : Tokens) → SpellsOften R often from to → (more : ℕ) × (how_often (most_often R) often ≡ suc more)
often_some R (times n) from to (inl s) = (0, s.1)
often_some R (times n) from to (inr s) = (n - 1, countable n s.1)
often_some (Some range) ranged from to s = (range.greatest - 1, some_times range s.1)
often_some None ranged from to s = absurd s

-- what was read, where so many nodes stand now, and the range, which agrees with R
pub record Again {A : Type 0} (R : Option Lengths) (given : Reads A) (x : A) (to : Tokens) (nodes found : ℕ) (p : Option Lengths) : Type 0 where
  pub range : Option Lengths
  pub is : given ≡ Ok (x, spot to nodes range)
  pub agrees : Agrees range R
  pub count : range_count range ≡ range_count p + found

module _ (g : Around) (R : Option Lengths) (allowed : IsAllowed g.draft g.name R) (room copies nodes : ℕ) (p : Option Lengths) (agrees : Agrees p R) where
  pub often_again : (often : Times) (more : ℕ) (from to : Tokens) → SpellsOften R often from to → begins_star to ≡ false → how_often (most_often R) often ≡ suc more → more ≤ room → nodes + copies * more ≤ MOST_NODES → range_count p + often_ranges often ≤ 1
      → Again R (often_at g room copies (spot from nodes p)) (often, more) to (nodes + copies * more) (often_ranges often) p
  often_again (times n) more from to (inl s) no_star same fits limit once =
      let none : more ≡ 0 = omega (arith, same, s.1) in
      record {
        range = p;
        is =
            ap (λ (t : Tokens). often_from g room copies from (spot t nodes p)) refl
            ∙ often_stays g room copies from (spot from nodes p) (ap begins_star (sym s.0) ∙ no_star)
            ∙ rw (s.1, none, s.0, times_zero) refl;
        agrees = agrees;
        count = omega arith;
      }
    where
      times_zero : nodes + copies * 0 ≡ nodes
      times_zero = omega arith
  often_again (times n) more from to (inr s) no_star same fits limit once =
      let is : n - 1 ≡ more = omega (arith, same) in
      record {
        range = p;
        is =
            rw (s.0.1.1, token_again nodes p repetition_in (word s.0.2.0) (so_often n) s.0.0 to s.0.2.1 s.0.2.2, s.1, is, leb_is more room fits, counted_again nodes p (copies * more) s.0.2.1.0 to limit) refl;
        agrees = agrees;
        count = omega arith;
      }
  often_again ranged more from to s no_star same fits limit once = by_range R refl s
    where
      by_range : (o : Option Lengths) → R ≡ o → SpellsOften o ranged from to → Again R (often_at g room copies (spot from nodes p)) (ranged, more) to (nodes + copies * more) 1 p
      by_range None whole h = absurd h
      by_range (Some range) whole h =
          let none = none_left p once in
          let free = range_again g.draft g.name range h.0.2.1.0 (spot to nodes (Some range)) (subst (IsAllowed g.draft g.name) whole allowed) in
          let is : range.greatest - 1 ≡ more = (let e = ap most_often (sym whole) in omega (arith, same, e)) in
          record {
            range = Some range;
            is =
                rw (none, h.0.1.1, token_again nodes None repetition_in (word h.0.2.0) (from_to range.least range.greatest) h.0.0 to h.0.2.1 h.0.2.2, h.1, free, is, leb_is more room fits, counted_again nodes (Some range) (copies * more) h.0.2.1.0 to limit) refl;
            agrees = whole;
            count = let e = ap range_count none in omega (arith, e);
          }
