-- Texts of given tokens.
use Rattle.std.proofs.Common.{◌≡◌, ℕ, true, false, List, [], ◌∷◌, ◌++◌, refl, ap, sym, ◌∙◌, append_assoc}
use Rattle.std.specs.List.{list_all}
use Rattle.vcd_read.specs.Runs.{line_after_bytes, AreRuns}
use Rattle.vcd_read.specs.Tokens.{Token, is_white, line_after, tokens_of, has_white}
use Rattle.vcd_read.specs.Words.{is_empty}
use Rattle.vcd_read.proofs.RunLemmas.{and_both}
use Rattle.vcd_read.proofs.TokenLemmas.{tokens_of-white, tokens_of-token}

-- ---- words, each with a blank after it

pub record IsWord (word : List ℕ) : Type 0 where
  pub some : is_empty word ≡ false
  pub one_token : has_white word ≡ false

abbrev pub AreWords : List (List ℕ) → Type 0
AreWords [] = Unit {0}
AreWords (word ∷ words) = IsWord word × AreWords words

abbrev pub text_of : List (List ℕ) → List ℕ
text_of [] = []
text_of (word ∷ words) = word ++ (32 ∷ text_of words)

-- the tokens of words that stand on one line
abbrev pub on_line : ℕ → List (List ℕ) → List Token
on_line line [] = []
on_line line (word ∷ words) = record { bytes = word; line = line } ∷ on_line line words

tokens_of-word : (line : ℕ) (word bytes : List ℕ) → IsWord word → tokens_of line (word ++ (32 ∷ bytes)) ≡ record { bytes = word; line = line } ∷ tokens_of line bytes
tokens_of-word line [] bytes is = let h = is.some in absurd cc
tokens_of-word line (first ∷ rest) bytes is = tokens_of-token line first rest 32 bytes is.one_token refl

pub tokens_of-words : (words : List (List ℕ)) (line : ℕ) → AreWords words → tokens_of line (text_of words) ≡ on_line line words
tokens_of-words [] line are = refl
tokens_of-words (word ∷ words) line are =
    tokens_of-word line word (text_of words) are.0 ∙ ap (λ tokens. record { bytes = word; line = line } ∷ tokens) (tokens_of-words words line are.1)

-- ---- a text of the first tokens of another

tokens_of-gap : (gap : List ℕ) (line : ℕ) (bytes : List ℕ) → list_all is_white gap ≡ true → tokens_of line (gap ++ bytes) ≡ tokens_of (line_after_bytes line gap) bytes
tokens_of-gap [] line bytes white = refl
tokens_of-gap (byte ∷ gap) line bytes white =
    let both = and_both (is_white byte) (list_all is_white gap) white in
    tokens_of-white line byte (gap ++ bytes) both.0 ∙ tokens_of-gap gap (line_after line byte) bytes both.1

-- a text of these tokens, after which a text begins on this line
pub record Front (line : ℕ) (tokens : List Token) : Type 0 where
  pub text : List ℕ
  pub next : ℕ
  pub is : (more : List ℕ) → tokens_of line (text ++ more) ≡ tokens ++ tokens_of next more

regrouped : (gap word front more : List ℕ) → (gap ++ (word ++ (32 ∷ front))) ++ more ≡ gap ++ (word ++ (32 ∷ (front ++ more)))
regrouped gap word front more = append_assoc gap (word ++ (32 ∷ front)) more ∙ ap (λ t. gap ++ t) (append_assoc word (32 ∷ front) more)

pub front_of : (tokens rest : List Token) (line : ℕ) (bytes : List ℕ) → AreRuns line bytes (tokens ++ rest) → Front line tokens
front_of [] rest line bytes runs = record { text = []; next = line; is = λ more. refl }
front_of (token ∷ tokens) rest line bytes runs =
    let f = front_of tokens rest token.line runs.1 runs.8 in
    let word : IsWord token.bytes = record { some = runs.4; one_token = runs.5 } in
    record {
      text = runs.0 ++ (token.bytes ++ (32 ∷ f.text));
      next = f.next;
      is = λ more.
          ap (tokens_of line) (regrouped runs.0 token.bytes f.text more)
          ∙ tokens_of-gap runs.0 line (token.bytes ++ (32 ∷ (f.text ++ more))) runs.3
          ∙ ap (λ l. tokens_of l (token.bytes ++ (32 ∷ (f.text ++ more)))) (sym runs.7)
          ∙ tokens_of-word token.line token.bytes (f.text ++ more) word
          ∙ ap (λ t. token ∷ t) (f.is more);
    }
