-- What is read of a byte that follows from others or is a choice is spelled so.
use Rattle.std.proofs.Common.{◌≡◌, ℕ, ◌+◌, Bool, true, false, Option, Some, None, is_some, refl, ap, sym, ◌∙◌, subst, arith, inl, inr}
use Rattle.std.specs.Prelude.{Ok, Err, if◌then◌else◌}
use Rattle.plan_text.specs.Reader.{◌>>=◌}
use Rattle.plan_text.specs.declared.errors.PlanError.TheVariants.{Unexpected, BadCount}
use Rattle.plan_text.proofs.TakesLemmas.{bind_ok, ok_is}
use Rattle.brief_tokens.specs.declared.symbols.Keyword.TheVariants as keywords
use Rattle.brief_tokens.specs.declared.symbols.Sign.TheVariants as signs
use Rattle.brief_tokens.specs.Tokens.{Token, keyword, word, sign, Tokens, next}
use Rattle.brief_tokens.specs.Tokens as tokens
use Rattle.brief_text.specs.Choices.{is_choice, numbers}
use Rattle.brief_text.specs.declared.syntax.Lengths.{Lengths}
use Rattle.brief_text.specs.Fitting.{knows_made, made_ranges}
use Rattle.brief_text.specs.Frames.{Around, Opening, opens_header, opens_code, opens_checksum, opens_span, opens_but, opening_in, only_choice, family_by, judged, opening_at, but_in, value_excepted, excepted_in, made_at}
use Rattle.brief_text.specs.Grammar.{Phrase, one, nothing, ◌▸◌, SpellsTo, SpellsExcepted, SpellsMade}
use Rattle.brief_text.specs.Judging.{range_refusal}
use Rattle.brief_text.specs.Places.{Place, token_as, open_in, close_in, past, to_at}
use Rattle.brief_text.specs.Trees.{Choice, span, all_but, Made, header, packet_code, checksum, chosen}
use Rattle.brief_text.specs.Words.{known_byte_by}
use Rattle.brief_text.proofs.PartLemmas.{Agrees, agrees_self, Part, passing, joined, then_ranged, range_takes}
use Rattle.brief_text.proofs.TakesLemmas.{Passed, some_is, test_then, spelled_takes, past_takes, open_only, close_only, to_takes}

-- ---- how such a byte is spelled: its first token, and the rest

abbrev pub opening_token : Opening → Token
opening_token (opens_header false) = keyword keywords.Wr
opening_token (opens_header true) = keyword keywords.Rd
opening_token opens_code = keyword keywords.Pec
opening_token opens_checksum = keyword keywords.Sum
opening_token (opens_span least greatest) = tokens.span least greatest
opening_token opens_but = keyword keywords.Any

module _ (R : Option Lengths) where
  abbrev pub SpellsFirst : Opening → Phrase
  SpellsFirst (opens_span least greatest) from to = one (tokens.span least greatest) from to × (is_choice (span least greatest) ≡ true) × (R ≡ Some (numbers (span least greatest)))
  SpellsFirst opening from to = one (opening_token opening) from to

  abbrev SpellsAllBut : Choice → Phrase
  SpellsAllBut (span least greatest) from to = ⊥
  SpellsAllBut (all_but least greatest) from to = SpellsExcepted least greatest from to

  abbrev pub SpellsRest : Opening → Made → Phrase
  SpellsRest (opens_header is_read) (header reads to) from to_end = (one (sign signs.Open) ▸ SpellsTo to ▸ one (sign signs.Close)) from to_end × (reads ≡ is_read)
  SpellsRest (opens_header is_read) made from to_end = ⊥
  SpellsRest opens_code made from to_end = nothing from to_end × (made ≡ packet_code)
  SpellsRest opens_checksum made from to_end = nothing from to_end × (made ≡ checksum)
  SpellsRest (opens_span least greatest) made from to_end = nothing from to_end × (made ≡ chosen (span least greatest))
  SpellsRest opens_but (chosen choice) from to_end = (one (keyword keywords.But) ▸ SpellsAllBut choice) from to_end × (is_choice choice ≡ true) × (R ≡ Some (numbers choice))
  SpellsRest opens_but made from to_end = ⊥

  -- both make the byte
  pub made_spelled : (o : Opening) (made : Made) (from mid to : Tokens) → SpellsFirst o from mid → SpellsRest o made mid to → SpellsMade R made from to
  made_spelled (opens_header false) (header reads target) from mid to first rest = subst (λ (b : Bool). SpellsMade R (header b target) from to) (sym rest.1) (mid, first, rest.0)
  made_spelled (opens_header true) (header reads target) from mid to first rest = subst (λ (b : Bool). SpellsMade R (header b target) from to) (sym rest.1) (mid, first, rest.0)
  made_spelled (opens_header is_read) packet_code from mid to first rest = absurd rest
  made_spelled (opens_header is_read) checksum from mid to first rest = absurd rest
  made_spelled (opens_header is_read) (chosen choice) from mid to first rest = absurd rest
  made_spelled opens_code made from mid to first rest =
      subst (λ (m : Made). SpellsMade R m from to) (sym rest.1) (subst (one (keyword keywords.Pec) from) (sym rest.0) first)
  made_spelled opens_checksum made from mid to first rest =
      subst (λ (m : Made). SpellsMade R m from to) (sym rest.1) (subst (one (keyword keywords.Sum) from) (sym rest.0) first)
  made_spelled (opens_span least greatest) made from mid to first rest =
      subst (λ (m : Made). SpellsMade R m from to) (sym rest.1) (subst (one (tokens.span least greatest) from) (sym rest.0) first.0, first.1, first.2)
  made_spelled opens_but (chosen (all_but least greatest)) from mid to first rest = ((mid, first, rest.0), rest.1, rest.2)
  made_spelled opens_but (chosen (span least greatest)) from mid to first rest = absurd rest.0.2
  made_spelled opens_but (header reads target) from mid to first rest = absurd rest
  made_spelled opens_but packet_code from mid to first rest = absurd rest
  made_spelled opens_but checksum from mid to first rest = absurd rest

  -- a choice counts as a range: a span at its first token, the other at its last
  abbrev pub first_ranges : Opening → ℕ
  first_ranges (opens_span least greatest) = 1
  first_ranges opening = 0

  abbrev pub rest_ranges : Opening → ℕ
  rest_ranges opens_but = 1
  rest_ranges opening = 0

  pub same_ranges : (o : Opening) (made : Made) (mid to : Tokens) → SpellsRest o made mid to → first_ranges o + rest_ranges o ≡ made_ranges made
  same_ranges (opens_header is_read) (header reads target) mid to rest = refl
  same_ranges (opens_header is_read) packet_code mid to rest = absurd rest
  same_ranges (opens_header is_read) checksum mid to rest = absurd rest
  same_ranges (opens_header is_read) (chosen choice) mid to rest = absurd rest
  same_ranges opens_code made mid to rest = ap made_ranges (sym rest.1)
  same_ranges opens_checksum made mid to rest = ap made_ranges (sym rest.1)
  same_ranges (opens_span least greatest) made mid to rest = ap made_ranges (sym rest.1)
  same_ranges opens_but (chosen choice) mid to rest = refl
  same_ranges opens_but (header reads target) mid to rest = absurd rest
  same_ranges opens_but packet_code mid to rest = absurd rest
  same_ranges opens_but checksum mid to rest = absurd rest

  -- ---- tokens

  excepted_only : (t : Token) (choice : Choice) (line : ℕ) (rest : Tokens) → excepted_in t ≡ Some choice → SpellsAllBut choice (next t line rest) rest
  excepted_only (tokens.span least greatest) choice line rest e =
      subst (λ (c : Choice). SpellsAllBut c (next (tokens.span least greatest) line rest) rest) (some_is (all_but least greatest) choice e) (inl (line, refl))
  excepted_only (word bytes) choice line rest e = by_option (known_byte_by bytes) refl e
    where
      by_option : (o : Option ℕ) → known_byte_by bytes ≡ o → value_excepted o ≡ Some choice → SpellsAllBut choice (next (word bytes) line rest) rest
      by_option (Some value) is h = subst (λ (c : Choice). SpellsAllBut c (next (word bytes) line rest) rest) (some_is (all_but value value) choice h) (inr ((bytes, (line, refl), is), refl))
      by_option None is h = absurd cc
  excepted_only t choice line rest e = absurd cc

opening_only : (t : Token) (o : Opening) (line : ℕ) (rest : Tokens) → opening_in t ≡ Some o → one (opening_token o) (next t line rest) rest
opening_only (keyword keywords.Wr) o line rest e = subst (λ (p : Opening). one (opening_token p) (next (keyword keywords.Wr) line rest) rest) (some_is (opens_header false) o e) (line, refl)
opening_only (keyword keywords.Rd) o line rest e = subst (λ (p : Opening). one (opening_token p) (next (keyword keywords.Rd) line rest) rest) (some_is (opens_header true) o e) (line, refl)
opening_only (keyword keywords.Pec) o line rest e = subst (λ (p : Opening). one (opening_token p) (next (keyword keywords.Pec) line rest) rest) (some_is opens_code o e) (line, refl)
opening_only (keyword keywords.Sum) o line rest e = subst (λ (p : Opening). one (opening_token p) (next (keyword keywords.Sum) line rest) rest) (some_is opens_checksum o e) (line, refl)
opening_only (tokens.span l u) o line rest e = subst (λ (p : Opening). one (opening_token p) (next (tokens.span l u) line rest) rest) (some_is (opens_span l u) o e) (line, refl)
opening_only (keyword keywords.Any) o line rest e = subst (λ (p : Opening). one (opening_token p) (next (keyword keywords.Any) line rest) rest) (some_is opens_but o e) (line, refl)
opening_only t o line rest e = absurd cc

but_only : (t : Token) (x : Unit {0}) (line : ℕ) (rest : Tokens) → but_in t ≡ Some x → one (keyword keywords.But) (next t line rest) rest
but_only (keyword keywords.But) x line rest e = (line, refl)
but_only t x line rest e = absurd cc

only_takes : (line : ℕ) (at after : Place) → only_choice line at ≡ Ok after → (at.range ≡ None) × (at ≡ after)
only_takes line at after e = by_range at.range refl e
  where
    by_range : (o : Option Lengths) → at.range ≡ o → (if is_some o then Err (Unexpected line) else Ok at) ≡ Ok after → (at.range ≡ None) × (at ≡ after)
    by_range None is h = (is, ok_is at after h)
    by_range (Some other) is h = absurd cc

module _ (g : Around) where
  -- the same spelled otherwise
  pub rephrased : {P Q : Phrase} {r m : ℕ} {at after : Place} → (P at.tokens after.tokens → Q at.tokens after.tokens) → Part g P r m at after → Part g Q r m at after
  rephrased f p = record { spelled = f p.spelled; agrees = p.agrees; found = p.found; allowed = p.allowed; count = p.count; limit = p.limit; fewer = p.fewer }

  -- nothing is read
  pub still : {P : Phrase} (at : Place) → P at.tokens at.tokens → Part g P 0 0 at at
  still at s = record { spelled = s; agrees = agrees_self at.range; found = omega arith; allowed = λ a. a; count = omega arith; limit = λ l. l; fewer = omega arith }

  module _ (R : Option Lengths) where
    -- the last token of a choice
    abbrev Chosen : Phrase → Choice → Phrase
    Chosen phrase choice from to = phrase from to × (is_choice choice ≡ true) × (R ≡ Some (numbers choice))

    family_takes : {P : Phrase} {m : ℕ} (choice : Choice) (line : ℕ) (at mid after : Place) → Part g P 0 m at mid → mid.range ≡ None → family_by g choice line mid ≡ Ok after → Agrees after.range R → Part g (Chosen P choice) 1 m at after
    family_takes {P} {m} choice line at mid after p none e agrees =
        let ranging : Place = record mid { range = Some (numbers choice) } in
        let t = test_then (is_choice choice) (range_refusal g.draft g.name (numbers choice) line ranging) after (BadCount line) e in
        let free = range_takes g.draft g.name (numbers choice) line ranging after t.1 in
        let whole : R ≡ Some (numbers choice) = subst (λ (y : Place). Agrees y.range R) (sym free.0) agrees in
        subst (λ (y : Place). Part g (Chosen P choice) 1 m at y) free.0 (rephrased (λ s. (s, t.0, whole)) (then_ranged g (numbers choice) p none free.1))

    judged_takes : (o : Opening) (line : ℕ) (at mid after : Place) → Passed (one (opening_token o)) at mid → judged g o line mid ≡ Ok after → Agrees after.range R → Part g (SpellsFirst R o) (first_ranges R o) 0 at after
    judged_takes (opens_span least greatest) line at mid after p e agrees =
        let only = bind_ok (only_choice line mid) (family_by g (span least greatest) line) after e in
        let none = only_takes line mid only.0 only.1 in
        family_takes (span least greatest) line at mid after (passing g p) none.0 (ap (family_by g (span least greatest) line) none.1 ∙ only.2) agrees
    judged_takes (opens_header is_read) line at mid after p e agrees = subst (λ (y : Place). Part g (SpellsFirst R (opens_header is_read)) 0 0 at y) (ok_is mid after e) (passing g p)
    judged_takes opens_code line at mid after p e agrees = subst (λ (y : Place). Part g (SpellsFirst R opens_code) 0 0 at y) (ok_is mid after e) (passing g p)
    judged_takes opens_checksum line at mid after p e agrees = subst (λ (y : Place). Part g (SpellsFirst R opens_checksum) 0 0 at y) (ok_is mid after e) (passing g p)
    judged_takes opens_but line at mid after p e agrees = subst (λ (y : Place). Part g (SpellsFirst R opens_but) 0 0 at y) (ok_is mid after e) (passing g p)

    pub opening_takes : (at : Place) (x : Opening × ℕ × Place) → opening_at g at ≡ Ok x → Agrees x.2.range R → Part g (SpellsFirst R x.0) (first_ranges R x.0) 0 at x.2
    opening_takes at x e agrees =
        let found = bind_ok (token_as opening_in at) (λ found. judged g found.0 found.1 found.2 >>= λ after. Ok (found.0, found.1, after)) x e in
        let after = bind_ok (judged g found.0.0 found.0.1 found.0.2) (λ after. Ok (found.0.0, found.0.1, after)) x found.2 in
        let same = ok_is (found.0.0, found.0.1, after.0) x after.2 in
        let first = spelled_takes opening_in (λ o. one (opening_token o)) opening_only at found.0 found.1 in
        subst (λ (y : Opening × ℕ × Place). Part g (SpellsFirst R y.0) (first_ranges R y.0) 0 at y.2) same
        (judged_takes found.0.0 found.0.1 at found.0.2 after.0 first after.1 (subst (λ (y : Opening × ℕ × Place). Agrees y.2.range R) (sym same) agrees))

    abbrev RestTaken : Opening → Place → Made × Place → Type 0
    RestTaken o at x = Part g (SpellsRest R o x.0) (rest_ranges R o) 0 at x.1 × (knows_made g.draft x.0 ≡ true)

    pub made_takes : (o : Opening) (at : Place) (x : Made × Place) → made_at g o at ≡ Ok x → Agrees x.1.range R → RestTaken o at x
    made_takes opens_code at x e agrees = subst (RestTaken opens_code at) (ok_is (packet_code, at) x e) (still at (refl, refl), refl)
    made_takes opens_checksum at x e agrees = subst (RestTaken opens_checksum at) (ok_is (checksum, at) x e) (still at (refl, refl), refl)
    made_takes (opens_span least greatest) at x e agrees = subst (RestTaken (opens_span least greatest) at) (ok_is (chosen (span least greatest), at) x e) (still at (refl, refl), refl)
    made_takes (opens_header is_read) at x e agrees =
        let opened = bind_ok (past open_in at) (λ opened. to_at g.draft opened >>= λ to. past close_in to.2 >>= λ closed. Ok (header is_read to.0, closed)) x e in
        let to = bind_ok (to_at g.draft opened.0) (λ to. past close_in to.2 >>= λ closed. Ok (header is_read to.0, closed)) x opened.2 in
        let shut = bind_ok (past close_in to.0.2) (λ closed. Ok (header is_read to.0.0, closed)) x to.2 in
        let first = past_takes open_in (sign signs.Open) open_only at opened.0 opened.1 in
        let second = to_takes g.draft opened.0 to.0 to.1 in
        let third = past_takes close_in (sign signs.Close) close_only to.0.2 shut.0 shut.1 in
        subst (RestTaken (opens_header is_read) at) (ok_is (header is_read to.0.0, shut.0) x shut.2)
        (rephrased (λ s. (s, refl)) (joined g (passing g first) (joined g (passing g second.0) (passing g third))), second.1)
    made_takes opens_but at x e agrees =
        let but = bind_ok (token_as but_in at) (λ but. only_choice but.1 but.2 >>= λ alone. token_as excepted_in alone >>= λ excepted. family_by g excepted.0 excepted.1 excepted.2 >>= λ after. Ok (chosen excepted.0, after)) x e in
        let alone = bind_ok (only_choice but.0.1 but.0.2) (λ alone. token_as excepted_in alone >>= λ excepted. family_by g excepted.0 excepted.1 excepted.2 >>= λ after. Ok (chosen excepted.0, after)) x but.2 in
        let excepted = bind_ok (token_as excepted_in alone.0) (λ excepted. family_by g excepted.0 excepted.1 excepted.2 >>= λ after. Ok (chosen excepted.0, after)) x alone.2 in
        let after = bind_ok (family_by g excepted.0.0 excepted.0.1 excepted.0.2) (λ after. Ok (chosen excepted.0.0, after)) x excepted.2 in
        let same = ok_is (chosen excepted.0.0, after.0) x after.2 in
        let none = only_takes but.0.1 but.0.2 alone.0 alone.1 in
        let first = spelled_takes but_in (λ u. one (keyword keywords.But)) but_only at but.0 but.1 in
        let second = spelled_takes excepted_in (SpellsAllBut R) (excepted_only R) alone.0 excepted.0 excepted.1 in
        let before : Passed (one (keyword keywords.But)) at alone.0 = subst (Passed (one (keyword keywords.But)) at) none.1 first in
        let still_none : excepted.0.2.range ≡ None = second.kept.range ∙ ap (λ (y : Place). y.range) (sym none.1) ∙ none.0 in
        subst (RestTaken opens_but at) same
        (family_takes excepted.0.0 excepted.0.1 at excepted.0.2 after.0 (joined g (passing g before) (passing g second)) still_none after.1 (subst (λ (y : Made × Place). Agrees y.1.range R) (sym same) agrees), refl)
