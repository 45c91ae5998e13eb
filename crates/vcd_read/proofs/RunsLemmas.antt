-- The tokens of a text are its runs of other bytes than white space.
use Rattle.std.proofs.Common.{◌≡◌, ℕ, Bool, true, false, List, [], ◌∷◌, ◌++◌, refl, ap, sym, ◌∙◌, subst}
use Rattle.std.specs.List.{list_all}
use Rattle.vcd_read.specs.Runs.{line_after_bytes, AreRuns}
use Rattle.vcd_read.specs.Tokens.{Token, is_white, line_after, ends_before, put_before, tokens_of}
use Rattle.vcd_read.proofs.TokenLemmas.{tokens_of-white, tokens_of-put, tokens_of-one}

runs_white : (line byte : ℕ) (bytes : List ℕ) (tokens : List Token) → is_white byte ≡ true → AreRuns (line_after line byte) bytes tokens → AreRuns line (byte ∷ bytes) tokens
runs_white line byte bytes [] white runs = rw white runs
runs_white line byte bytes (token ∷ tokens) white runs =
    (byte ∷ runs.0, runs.1, ap (λ b. byte ∷ b) runs.2, rw white runs.3, runs.4, runs.5, runs.6, runs.7, runs.8)

runs_one : (line byte : ℕ) (bytes : List ℕ) (tokens : List Token) → is_white byte ≡ false → ends_before bytes ≡ true → AreRuns line bytes tokens →
    AreRuns line (byte ∷ bytes) (record { bytes = byte ∷ []; line = line } ∷ tokens)
runs_one line byte bytes tokens other ends runs = ([], bytes, refl, refl, refl, rw other refl, ends, refl, runs)

-- a token stands directly before
no_gap : (line byte : ℕ) (bytes gap : List ℕ) (token : Token) (rest : List ℕ) → is_white byte ≡ false → (byte ∷ bytes) ≡ gap ++ (token.bytes ++ rest) → list_all is_white gap ≡ true → gap ≡ []
no_gap line byte bytes [] token rest other is gaps = refl
no_gap line byte bytes (first ∷ gap) token rest other is gaps =
    let same : byte ≡ first = cc in
    let P : ℕ → Type 0 = λ n. is_white n ≡ false in
    let h : is_white first ≡ false = subst P same other in
    let g = rw h at gaps in
    absurd cc

runs_put : (line first byte : ℕ) (bytes : List ℕ) (tokens : List Token) → is_white first ≡ false → is_white byte ≡ false → AreRuns line (byte ∷ bytes) tokens →
    AreRuns line (first ∷ (byte ∷ bytes)) (put_before first tokens)
runs_put line first byte bytes [] other_first other runs = let h = rw other at runs in absurd cc
runs_put line first byte bytes (token ∷ tokens) other_first other runs =
    let none : runs.0 ≡ [] = no_gap line byte bytes runs.0 token runs.1 other runs.2 runs.3 in
    ([], runs.1, ap (λ b. first ∷ b) (runs.2 ∙ ap (λ gap. gap ++ (token.bytes ++ runs.1)) none), refl, refl, rw other_first runs.5, runs.6, runs.7 ∙ ap (line_after_bytes line) none, runs.8)

runs_token_by : (line first byte : ℕ) (bytes : List ℕ) (test : Bool) → is_white byte ≡ test → is_white first ≡ false → AreRuns line (byte ∷ bytes) (tokens_of line (byte ∷ bytes)) →
    AreRuns line (first ∷ (byte ∷ bytes)) (tokens_of line (first ∷ (byte ∷ bytes)))
runs_token_by line first byte bytes true white other runs =
    let P : List Token → Type 0 = λ t. AreRuns line (first ∷ (byte ∷ bytes)) t in
    subst P (sym (tokens_of-one line first byte bytes other white)) (runs_one line first (byte ∷ bytes) (tokens_of line (byte ∷ bytes)) other white runs)
runs_token_by line first byte bytes false next other runs =
    let P : List Token → Type 0 = λ t. AreRuns line (first ∷ (byte ∷ bytes)) t in
    subst P (sym (tokens_of-put line first byte bytes other next)) (runs_put line first byte bytes (tokens_of line (byte ∷ bytes)) other next runs)

runs_token : (line first : ℕ) (bytes : List ℕ) → is_white first ≡ false → AreRuns line bytes (tokens_of line bytes) → AreRuns line (first ∷ bytes) (tokens_of line (first ∷ bytes))
runs_token line first [] other runs = rw other (runs_one line first [] [] other refl runs)
runs_token line first (byte ∷ bytes) other runs = runs_token_by line first byte bytes (is_white byte) refl other runs

runs_by : (line byte : ℕ) (bytes : List ℕ) (test : Bool) → is_white byte ≡ test → AreRuns (line_after line byte) bytes (tokens_of (line_after line byte) bytes) → AreRuns line bytes (tokens_of line bytes) →
    AreRuns line (byte ∷ bytes) (tokens_of line (byte ∷ bytes))
runs_by line byte bytes true white later here =
    let P : List Token → Type 0 = λ t. AreRuns line (byte ∷ bytes) t in
    subst P (sym (tokens_of-white line byte bytes white)) (runs_white line byte bytes (tokens_of (line_after line byte) bytes) white later)
runs_by line byte bytes false other later here = runs_token line byte bytes other here

pub are_runs : (bytes : List ℕ) (line : ℕ) → AreRuns line bytes (tokens_of line bytes)
are_runs [] line = refl
are_runs (byte ∷ bytes) line = runs_by line byte bytes (is_white byte) refl (are_runs bytes (line_after line byte)) (are_runs bytes line)
