-- Words that are written, each after a space, are a phrase of their language, whichever it is: of plans or of briefs.
use Rattle.std.proofs.Common.{◌≡◌, ◌+◌, ℕ, List, [], ◌∷◌, ◌++◌, ap, sym, ◌∙◌, subst, codes, append-nil, append_assoc}
use Rattle.lexer.specs.declared.lexemes.Letters.{Letters}
use Rattle.plan_text.proofs.WholeWords.{Apart, space_apart}
use Rattle.spellings.specs.Canonical.{spaced, item_line}
use Rattle.spellings.proofs.Adding.{spaced-append}

-- from the tokens at one place of a text up to those at another
abbrev pub Phrase : Type 0 → Type 1
Phrase T = T → T → Type 0

-- first these, and then those
abbrev pub Then : {T : Type 0} → Phrase T → Phrase T → Phrase T
Then {T} first second from to = (between : T) × first from between × second between to

-- a word before what does not go on with it is this phrase
pub record Spelled {T : Type 0} (tokens_of : ℕ → List ℕ → T) (ls : Letters) (w : List ℕ) (P : Phrase T) : Type 0 where
  pub says : (line : ℕ) (rest : List ℕ) → Apart ls rest → P (tokens_of line (w ++ rest)) (tokens_of line rest)

-- the same of words, each after a space
pub record Said {T : Type 0} (tokens_of : ℕ → List ℕ → T) (ls : Letters) (words : List (List ℕ)) (P : Phrase T) : Type 0 where
  pub says : (line : ℕ) (rest : List ℕ) → Apart ls rest → P (tokens_of line (spaced words ++ rest)) (tokens_of line rest)

-- the words with the end of an item
pub record Ended {T : Type 0} (tokens_of : ℕ → List ℕ → T) (words : List (List ℕ)) (P : Phrase T) : Type 0 where
  pub says : (line : ℕ) (rest : List ℕ) → P (tokens_of line (spaced words ++ (codes " ;\n" ++ rest))) (tokens_of (line + 1) rest)

spaced_apart : (ls : Letters) (words : List (List ℕ)) (rest : List ℕ) → Apart ls rest → Apart ls (spaced words ++ rest)
spaced_apart ls [] rest apart = apart
spaced_apart ls (w ∷ words) rest apart = space_apart ls ((w ++ spaced words) ++ rest)

in_two : (xs ys : List (List ℕ)) (rest : List ℕ) → spaced (xs ++ ys) ++ rest ≡ spaced xs ++ (spaced ys ++ rest)
in_two xs ys rest = ap (λ l. l ++ rest) (spaced-append xs ys) ∙ append_assoc (spaced xs) (spaced ys) rest

module _ {T : Type 0} {tokens_of : ℕ → List ℕ → T} {ls : Letters} where
  pub said_none : {P : Phrase T} → ((line : ℕ) (rest : List ℕ) → P (tokens_of line rest) (tokens_of line rest)) → Said tokens_of ls [] P
  said_none p = record { says = λ line rest apart. p line rest }

  pub said_word : {w : List ℕ} {P : Phrase T} → ((line : ℕ) (rest : List ℕ) → tokens_of line (32 ∷ rest) ≡ tokens_of line rest) → Spelled tokens_of ls w P → Said tokens_of ls (w ∷ []) P
  said_word {w} {P} skips s = record {
    says = λ line rest apart.
        let front = ap (λ l. tokens_of line (32 ∷ (l ++ rest))) (append-nil w) ∙ skips line (w ++ rest) in
        subst (λ t. P t (tokens_of line rest)) (sym front) (s.says line rest apart);
  }

  pub said_then : {xs ys : List (List ℕ)} {P Q : Phrase T} → Said tokens_of ls xs P → Said tokens_of ls ys Q → Said tokens_of ls (xs ++ ys) (Then P Q)
  said_then {xs} {ys} {P} p q = record {
    says = λ line rest apart.
        let more : List ℕ = spaced ys ++ rest in
        (tokens_of line more, subst (λ l. P (tokens_of line l) (tokens_of line more)) (sym (in_two xs ys rest)) (p.says line more (spaced_apart ls ys rest apart)), q.says line rest apart);
  }

  -- ---- items: a keyword, words, and `;` at the end of a line

  pub ended_last : {xs : List (List ℕ)} {P E : Phrase T} → Said tokens_of ls xs P → Ended tokens_of [] E → Ended tokens_of xs (Then P E)
  ended_last p end = record {
    says = λ line rest. (tokens_of line (codes " ;\n" ++ rest), p.says line (codes " ;\n" ++ rest) (space_apart ls (codes ";\n" ++ rest)), end.says line rest);
  }

  pub ended_then : {xs ys : List (List ℕ)} {P Q : Phrase T} → Said tokens_of ls xs P → Ended tokens_of ys Q → Ended tokens_of (xs ++ ys) (Then P Q)
  ended_then {xs} {ys} {P} p q = record {
    says = λ line rest.
        let end : List ℕ = codes " ;\n" ++ rest in
        let more : List ℕ = spaced ys ++ end in
        (tokens_of line more, subst (λ l. P (tokens_of line l) (tokens_of line more)) (sym (in_two xs ys end)) (p.says line more (spaced_apart ls ys end (space_apart ls (codes ";\n" ++ rest)))), q.says line rest);
  }

  pub item_said : {first : List ℕ} {words : List (List ℕ)} {K P : Phrase T} → Spelled tokens_of ls first K → Ended tokens_of words P
      → (line : ℕ) (rest : List ℕ) → Then K P (tokens_of line (item_line first words ++ rest)) (tokens_of (line + 1) rest)
  item_said {first} {words} {K} keyword ended line rest =
      let end : List ℕ = codes " ;\n" ++ rest in
      let more : List ℕ = spaced words ++ end in
      let whole : item_line first words ++ rest ≡ first ++ more = append_assoc first (spaced words ++ codes " ;\n") rest ∙ ap (λ l. first ++ l) (append_assoc (spaced words) (codes " ;\n") rest) in
      (tokens_of line more, subst (λ l. K (tokens_of line l) (tokens_of line more)) (sym whole) (keyword.says line more (spaced_apart ls words end (space_apart ls (codes ";\n" ++ rest)))), ended.says line rest)
