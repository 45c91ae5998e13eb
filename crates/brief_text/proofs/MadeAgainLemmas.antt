-- What is spelled as a byte that follows from others or as a choice is read again.
use Rattle.std.proofs.Common.{◌≡◌, ℕ, ◌+◌, ◌≤◌, Bool, true, false, Option, Some, None, refl, ap, sym, ◌∙◌, subst, arith, inl, inr}
use Rattle.std.specs.Prelude.{Ok}
use Rattle.message_tree.specs.declared.bits.Address.{Address}
use Rattle.brief_tokens.specs.declared.symbols.Keyword.TheVariants as keywords
use Rattle.brief_tokens.specs.declared.symbols.Sign.TheVariants as signs
use Rattle.brief_tokens.specs.Tokens.{keyword, word, sign, Tokens}
use Rattle.brief_tokens.specs.Tokens as tokens
use Rattle.brief_text.specs.Choices.{numbers}
use Rattle.brief_text.specs.declared.syntax.Lengths.{Lengths}
use Rattle.brief_text.specs.Fitting.{knows_made, made_ranges, range_count, IsAllowed}
use Rattle.brief_text.specs.Frames.{Around, Opening, opens_header, opens_code, opens_checksum, opens_span, opens_but, opening_in, opening_at, begins_but, begins_made, but_in, value_excepted, excepted_in, made_at}
use Rattle.brief_text.specs.Grammar.{one, SpellsTo, SpellsExcepted, SpellsMade}
use Rattle.brief_text.specs.Judging.{range_refusal}
use Rattle.brief_text.specs.Places.{Place, token_as, open_in, close_in, is_known}
use Rattle.brief_text.specs.Trees.{Said, Choice, span, all_but, Made, header, packet_code, checksum, chosen}
use Rattle.brief_text.proofs.AgainLemmas.{spot, token_again, past_again, to_again, none_left, range_again}
use Rattle.brief_text.proofs.PartLemmas.{Agrees}

module _ (g : Around) where
  -- the address of `wr` and `rd`
  address_rest : (nodes : ℕ) (p : Option Lengths) (is_read : Bool) (target : Said Address) (from mid end to : Tokens) → one (sign signs.Open) from mid → SpellsTo target mid end → one (sign signs.Close) end to → is_known g.draft.devices target ≡ true
      → made_at g (opens_header is_read) (spot from nodes p) ≡ Ok (header is_read target, spot to nodes p)
  address_rest nodes p is_read target from mid end to opened said shut known =
      let t = to_again nodes p g.draft target mid end said known in
      rw (past_again nodes p open_in (sign signs.Open) from mid opened refl, t.1, past_again nodes p close_in (sign signs.Close) end to shut refl) refl

  excepted_again : (nodes : ℕ) (p : Option Lengths) (least greatest : ℕ) (from to : Tokens) → SpellsExcepted least greatest from to → (line : ℕ) × (token_as excepted_in (spot from nodes p) ≡ Ok (all_but least greatest, line, spot to nodes p))
  excepted_again nodes p least greatest from to (inl s) = (s.0, token_again nodes p excepted_in (tokens.span least greatest) (all_but least greatest) from to s refl)
  excepted_again nodes p least greatest from to (inr s) =
      (s.0.1.0, token_again nodes p excepted_in (word s.0.0) (all_but least greatest) from to s.0.1 (ap value_excepted s.0.2 ∙ ap (λ k. Some (all_but least k)) (sym s.1)))

  -- ranges are counted, and agree with that of the message
  pub record Ranged (R p q : Option Lengths) (found : ℕ) : Type 0 where
    pub agrees : Agrees q R
    pub count : range_count q ≡ range_count p + found

  module _ (R : Option Lengths) (allowed : IsAllowed g.draft g.name R) (nodes : ℕ) (p : Option Lengths) (agrees : Agrees p R) where
    -- such a byte, whatever the nodes before what follows its first token
    pub record MadeAgain (made : Made) (from to : Tokens) : Type 0 where
      pub opening : Opening
      pub mid : Tokens
      pub line : ℕ
      pub before : Option Lengths
      pub after : Option Lengths
      pub first : opening_at g (spot from nodes p) ≡ Ok (opening, line, spot mid nodes before)
      pub rest : (k : ℕ) → made_at g opening (spot mid k before) ≡ Ok (made, spot to k after)
      pub begins : begins_made from ≡ true
      pub ranged : Ranged R p after (made_ranges made)

    same : Ranged R p p 0
    same = record { agrees = agrees; count = omega arith }

    choice_ranged : (choice : Choice) → p ≡ None → R ≡ Some (numbers choice) → Ranged R p (Some (numbers choice)) 1
    choice_ranged choice none whole = record { agrees = whole; count = let e = ap range_count none in omega (arith, e) }

    free : (choice : Choice) (line : ℕ) (x : Place) → R ≡ Some (numbers choice) → range_refusal g.draft g.name (numbers choice) line x ≡ Ok x
    free choice line x whole = range_again g.draft g.name (numbers choice) line x (subst (IsAllowed g.draft g.name) whole allowed)

    pub made_again : (made : Made) (from to : Tokens) → SpellsMade R made from to → knows_made g.draft made ≡ true → range_count p + made_ranges made ≤ 1 → MadeAgain made from to
    made_again (header false target) from to s known once = record {
      opening = opens_header false;
      mid = s.0;
      line = s.1.0;
      before = p;
      after = p;
      first = rw (token_again nodes p opening_in (keyword keywords.Wr) (opens_header false) from s.0 s.1 refl) refl;
      rest = λ k. address_rest k p false target s.0 s.2.0 s.2.2.0 to s.2.1 s.2.2.1 s.2.2.2 known;
      begins = ap begins_made s.1.1;
      ranged = same;
    }
    made_again (header true target) from to s known once = record {
      opening = opens_header true;
      mid = s.0;
      line = s.1.0;
      before = p;
      after = p;
      first = rw (token_again nodes p opening_in (keyword keywords.Rd) (opens_header true) from s.0 s.1 refl) refl;
      rest = λ k. address_rest k p true target s.0 s.2.0 s.2.2.0 to s.2.1 s.2.2.1 s.2.2.2 known;
      begins = ap begins_made s.1.1;
      ranged = same;
    }
    made_again packet_code from to s known once = record {
      opening = opens_code;
      mid = to;
      line = s.0;
      before = p;
      after = p;
      first = rw (token_again nodes p opening_in (keyword keywords.Pec) opens_code from to s refl) refl;
      rest = λ k. refl;
      begins = ap begins_made s.1;
      ranged = same;
    }
    made_again checksum from to s known once = record {
      opening = opens_checksum;
      mid = to;
      line = s.0;
      before = p;
      after = p;
      first = rw (token_again nodes p opening_in (keyword keywords.Sum) opens_checksum from to s refl) refl;
      rest = λ k. refl;
      begins = ap begins_made s.1;
      ranged = same;
    }
    made_again (chosen (span least greatest)) from to s known once =
        let none = none_left p once in
        let range = Some (numbers (span least greatest)) in
        record {
          opening = opens_span least greatest;
          mid = to;
          line = s.0.0;
          before = range;
          after = range;
          first = rw (none, token_again nodes None opening_in (tokens.span least greatest) (opens_span least greatest) from to s.0 refl, s.1, free (span least greatest) s.0.0 (spot to nodes range) s.2) refl;
          rest = λ k. refl;
          begins = ap begins_made s.0.1;
          ranged = choice_ranged (span least greatest) none s.2;
        }
    made_again (chosen (all_but least greatest)) from to s known once =
        let none = none_left p once in
        let range = Some (numbers (all_but least greatest)) in
        record {
          opening = opens_but;
          mid = s.0.0;
          line = s.0.1.0;
          before = p;
          after = range;
          first = rw (token_again nodes p opening_in (keyword keywords.Any) opens_but from s.0.0 s.0.1 refl) refl;
          rest = λ k.
              let last = excepted_again k None least greatest s.0.2.0 to s.0.2.2 in
              rw (none, token_again k None but_in (keyword keywords.But) tt s.0.0 s.0.2.0 s.0.2.1 refl, last.1, s.1, free (all_but least greatest) last.0 (spot to k range) s.2) refl;
          begins = ap begins_made s.0.1.1 ∙ ap begins_but s.0.2.1.1;
          ranged = choice_ranged (all_but least greatest) none s.2;
        }
