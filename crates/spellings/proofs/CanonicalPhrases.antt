-- The tokens of a canonical spelling are those of the grammar, from words up to items.
use Rattle.std.proofs.Common.{◌≡◌, ◌<◌, ◌+◌, ℕ, true, ◌||◌, List, [], ◌∷◌, ◌++◌, length, map, refl, ap, sym, ◌∙◌, codes, true≢false, lit<, inr}
use Rattle.std.specs.Prelude.{All, nat_lt, Option, Some, None, is_some}
use Rattle.std.proofs.lemmas.Bool.{or_left, or_right}
use Rattle.std.proofs.lemmas.List.Elements.{All-head, All-tail}
use Rattle.lexer.specs.Lexemes.{Alphabet, letters, later}
use Rattle.message_tree.specs.declared.bits.Bit.{Bit}
use Rattle.message_tree.specs.declared.counts.Count.{Count}
use Rattle.message_tree.specs.Counts.{least_of, greatest_of}
use Rattle.message_tree.specs.Patterns.{address_bits, pattern_bits}
use Rattle.message_tree.specs.Trees.{FrameTree, write, read, PayloadTree, byte, last, TailTree, stop, again}
use Rattle.plan_core.specs.Names.{IsName}
use Rattle.plan_core.specs.Participants.{interrupt_bits}
use Rattle.plan_text.specs.Reader.{version_of}
use Rattle.plan_text.specs.Symbols.{bit_symbol}
use Rattle.spellings.specs.Canonical.{count_word, frame_words, payload_words, tail_words, frame_has_range, payload_has_range, tail_has_range, item_line, message_line, interrupt_line}
use Rattle.plan_text.specs.Grammar.{Phrase, one, SpellsName, SpellsNames, SpellsCount, SpellsFrame, SpellsPayload, SpellsTail, SpellsItem, message, controller, interrupt, never_both}
use Rattle.plan_text.specs.Tokens.{Token, word, semicolon, next, tokens_of, token_of_word}
use Rattle.plan_text.proofs.WholeWords.{word_token, is_word, bits_are_word, bits_token, address_some, pattern_some}
use Rattle.spellings.proofs.CanonicalWords.{name_is_word, name_token, HasDots, digit_token, count_is_word}
use Rattle.spellings.proofs.Saying.{Spelled, Said, Ended, said_word, said_then, ended_last, ended_then, item_said}
use Rattle.plan_text.proofs.TokenLemmas.{skips_space, skips_line_feed, semicolon_here}

-- what there is, where there is something
abbrev pub the : {X : Type 0} (o : Option X) → is_some o ≡ true → X
the (Some x) h = x
the None h = absurd (true≢false (sym h))

module _ (d : Alphabet) (steady : later d ≡ d) where
  abbrev Says : List (List ℕ) → Phrase → Type 0
  Says = Said (tokens_of d) (letters d)

  space : (line : ℕ) (rest : List ℕ) → tokens_of d line (32 ∷ rest) ≡ tokens_of d line rest
  space line rest = sym (skips_space d line 32 (32 ∷ rest) rest refl (inr (inr refl)))

  -- `;`, and the next line
  end : Ended (tokens_of d) [] (one semicolon)
  end = record {
    says = λ line rest. (
      line,
      space line (codes ";\n" ++ rest)
          ∙ semicolon_here d line (codes ";\n" ++ rest) (codes "\n" ++ rest) refl
          ∙ ap (λ x. next semicolon line (tokens_of x line (codes "\n" ++ rest))) steady
          ∙ ap (next semicolon line) (sym (skips_line_feed d line (codes "\n" ++ rest) rest refl)),
    );
  }

  spelled_one : (w : List ℕ) (t : Token) → is_word (letters d) w ≡ true → token_of_word w ≡ t → Spelled (tokens_of d) (letters d) w (one t)
  spelled_one w t is e = record { says = λ line rest apart. (line, word_token d steady line w rest t is e apart) }

  said_one : (w : List ℕ) (t : Token) → is_word (letters d) w ≡ true → token_of_word w ≡ t → Says (w ∷ []) (one t)
  said_one w t is e = said_word space (spelled_one w t is e)

  keyword : (w : List ℕ) → is_word (letters d) w ≡ true → Spelled (tokens_of d) (letters d) w (one (token_of_word w))
  keyword w is = spelled_one w (token_of_word w) is refl

  said_keyword : (w : List ℕ) → is_word (letters d) w ≡ true → Says (w ∷ []) (one (token_of_word w))
  said_keyword w is = said_word space (keyword w is)

  -- ---- names and counts

  said_name : (name : List ℕ) → IsName name → Says (name ∷ []) (SpellsName name)
  said_name name is = record {
    says = λ line rest apart. ((said_one name (word name) (name_is_word (letters d) name is) (name_token name is)).says line rest apart, is);
  }

  said_names : (names : List (List ℕ)) → All IsName names → Says names (SpellsNames names)
  said_names [] are = record { says = λ line rest apart. refl }
  said_names (name ∷ names) are = record {
    says = (said_then (said_name name (All-head IsName name names are)) (said_names names (All-tail IsName name names are))).says;
  }

  said_count : (c : Count) → (nat_lt (least_of c) (greatest_of c) ≡ true → HasDots (letters d)) → Says (count_word c ∷ []) (SpellsCount c)
  said_count c needs =
      let it = count_is_word (letters d) c needs in
      record { says = λ line rest apart. (count_word c, (said_one (count_word c) (word (count_word c)) it.is_word (digit_token (count_word c) it.digit)).says line rest apart, it.writes) }

  -- ---- frames

  said_bits : (bits : List Bit) → 0 < length bits → Says (map bit_symbol bits ∷ []) (one (word (map bit_symbol bits)))
  said_bits bits some = said_one (map bit_symbol bits) (word (map bit_symbol bits)) (bits_are_word (letters d) bits some) (bits_token bits some)

  -- where dots are parts of words if there is a range
  mutual
    unfolding token_of_word

    said_frame : (f : FrameTree) → (frame_has_range f ≡ true → HasDots (letters d)) → Says (frame_words f) (SpellsFrame f)
    said_frame (write address acked refused) needs =
        said_then (said_keyword (codes "write") refl) (said_then (said_bits (address_bits address) (address_some address)) (said_then (said_payload acked (λ h. needs (or_left _ (tail_has_range refused) h))) (said_then (said_keyword (codes "else") refl) (said_tail refused (λ h. needs (or_right (payload_has_range acked) _ h))))))
    said_frame (read address count after refused) needs =
        said_then (said_keyword (codes "read") refl) (said_then (said_bits (address_bits address) (address_some address)) (said_then (said_count count (λ h. needs (or_left _ (tail_has_range refused) (or_left _ (tail_has_range after) h)))) (said_then (said_tail after (λ h. needs (or_left _ (tail_has_range refused) (or_right (nat_lt (least_of count) (greatest_of count)) _ h)))) (said_then (said_keyword (codes "else") refl) (said_tail refused (λ h. needs (or_right (nat_lt (least_of count) (greatest_of count) || tail_has_range after) _ h)))))))

    said_payload : (p : PayloadTree) → (payload_has_range p ≡ true → HasDots (letters d)) → Says (payload_words p) (SpellsPayload p)
    said_payload (byte bits acked refused) needs =
        said_then (said_bits (pattern_bits bits) (pattern_some bits)) (said_then (said_payload acked (λ h. needs (or_left _ (tail_has_range refused) h))) (said_then (said_keyword (codes "else") refl) (said_tail refused (λ h. needs (or_right (payload_has_range acked) _ h)))))
    said_payload (last tail) needs = said_tail tail needs

    said_tail : (t : TailTree) → (tail_has_range t ≡ true → HasDots (letters d)) → Says (tail_words t) (SpellsTail t)
    said_tail stop needs = said_keyword (codes "stop") refl
    said_tail (again frame) needs = said_then (said_keyword (codes "again") refl) (said_frame frame needs)

  -- ---- items

  pub message_said : (v : _) (name : List ℕ) (f : FrameTree) → IsName name → (frame_has_range f ≡ true → HasDots (letters d))
      → (line : ℕ) (rest : List ℕ) → SpellsItem v (message name f) (tokens_of d line (message_line (name, f) ++ rest)) (tokens_of d (line + 1) rest)
  unfolding token_of_word
  message_said v name f is needs line rest = item_said (keyword (codes "message") refl) (ended_then (said_name name is) (ended_last (said_frame f needs) end)) line rest

  pub controller_said : (v : _) (name : List ℕ) (names : List (List ℕ)) → IsName name → All IsName names
      → (line : ℕ) (rest : List ℕ) → SpellsItem v (controller name names) (tokens_of d line (item_line (codes "controller") (name ∷ names) ++ rest)) (tokens_of d (line + 1) rest)
  unfolding token_of_word
  controller_said v name names is are line rest = item_said (keyword (codes "controller") refl) (ended_then (said_name name is) (ended_last (said_names names are) end)) line rest

  pub interrupt_said : (v : _) (name : List ℕ) (address : ℕ) → IsName name
      → (line : ℕ) (rest : List ℕ) → SpellsItem v (interrupt name address) (tokens_of d line (interrupt_line (name, address) ++ rest)) (tokens_of d (line + 1) rest)
  unfolding token_of_word
  interrupt_said v name address is line rest = item_said (keyword (codes "interrupt") refl) (ended_then (said_name name is) (ended_last (said_bits (interrupt_bits address) (lit< tt)) end)) line rest

  pub never_said : (first second : List ℕ) → IsName first → IsName second
      → (line : ℕ) (rest : List ℕ) → SpellsItem (the (version_of (codes "2")) refl) (never_both first second) (tokens_of d line (item_line (codes "never") (first ∷ (second ∷ [])) ++ rest)) (tokens_of d (line + 1) rest)
  unfolding token_of_word
  never_said first second is_first is_second line rest = item_said (keyword (codes "never") refl) (ended_then (said_name first is_first) (ended_last (said_name second is_second) end)) line rest
