-- Where tokens end.
use Rattle.std.proofs.Common.{◌≡◌, ℕ, Bool, true, false, ◌||◌, List, [], ◌∷◌, ◌++◌, refl, ap, ◌∙◌}
use Rattle.std.specs.Prelude.{if◌then◌else◌}
use Rattle.vcd_read.specs.Tokens.{Token, is_white, line_after, put_before, tokens_of, has_white, up_to_white}

or_false_left : (a b : Bool) → (a || b) ≡ false → a ≡ false
or_false_left true b h = h
or_false_left false b h = refl

or_false_right : (a b : Bool) → (a || b) ≡ false → b ≡ false
or_false_right true b h = absurd cc
or_false_right false b h = h

or_true_right : (a b : Bool) → b ≡ true → (a || b) ≡ true
or_true_right true b h = refl
or_true_right false b h = h

-- one more byte that is not white
pub still_no_white : (held : List ℕ) (byte : ℕ) → has_white held ≡ false → is_white byte ≡ false → has_white (held ++ (byte ∷ [])) ≡ false
still_no_white [] byte none other = rw other refl
still_no_white (first ∷ rest) byte none other =
    rw (or_false_left (is_white first) (has_white rest) none) (still_no_white rest byte (or_false_right (is_white first) (has_white rest) none) other)

has_white-append : (held : List ℕ) (byte : ℕ) (bytes : List ℕ) → is_white byte ≡ true → has_white (held ++ (byte ∷ bytes)) ≡ true
has_white-append [] byte bytes white = rw white refl
has_white-append (first ∷ rest) byte bytes white = or_true_right (is_white first) _ (has_white-append rest byte bytes white)

pub none_up_to_white : (held : List ℕ) → has_white held ≡ false → up_to_white held ≡ []
none_up_to_white [] none = refl
none_up_to_white (first ∷ rest) none = rw none refl

pub up_to_white-append : (held : List ℕ) (byte : ℕ) (bytes : List ℕ) → is_white byte ≡ true →
    up_to_white (held ++ (byte ∷ bytes)) ≡ held ++ (byte ∷ up_to_white bytes)
up_to_white-append [] byte bytes white = rw white refl
up_to_white-append (first ∷ rest) byte bytes white =
    rw (has_white-append (first ∷ rest) byte bytes white, up_to_white-append rest byte bytes white) refl

-- white space, which begins no token
pub tokens_of-white : (line byte : ℕ) (bytes : List ℕ) → is_white byte ≡ true → tokens_of line (byte ∷ bytes) ≡ tokens_of (line_after line byte) bytes
tokens_of-white line byte bytes white = rw white refl

third : (a b : Bool) (x y z : List Token) → a ≡ false → b ≡ false → (if a then x else if b then y else z) ≡ z
third true b x y z first second = absurd cc
third false true x y z first second = absurd cc
third false false x y z first second = refl

second : (a b : Bool) (x y z : List Token) → a ≡ false → b ≡ true → (if a then x else if b then y else z) ≡ y
second true b x y z not_first is_second = absurd cc
second false false x y z not_first is_second = absurd cc
second false true x y z not_first is_second = refl

pub tokens_of-put : (line first byte : ℕ) (bytes : List ℕ) → is_white first ≡ false → is_white byte ≡ false →
    tokens_of line (first ∷ (byte ∷ bytes)) ≡ put_before first (tokens_of line (byte ∷ bytes))
tokens_of-put line first byte bytes other_first other =
    third (is_white first) (is_white byte) _ _ _ other_first other

pub tokens_of-one : (line first byte : ℕ) (bytes : List ℕ) → is_white first ≡ false → is_white byte ≡ true →
    tokens_of line (first ∷ (byte ∷ bytes)) ≡ record { bytes = first ∷ []; line = line } ∷ tokens_of line (byte ∷ bytes)
tokens_of-one line first byte bytes other white = second (is_white first) (is_white byte) _ _ _ other white

-- the last token ends with the text
pub tokens_of-last : (line first : ℕ) (rest : List ℕ) → has_white (first ∷ rest) ≡ false →
    tokens_of line (first ∷ rest) ≡ record { bytes = first ∷ rest; line = line } ∷ []
tokens_of-last line first [] none = rw (or_false_left (is_white first) false none) refl
tokens_of-last line first (next ∷ rest) none =
    let others = or_false_right (is_white first) (has_white (next ∷ rest)) none in
    tokens_of-put line first next rest (or_false_left (is_white first) (has_white (next ∷ rest)) none) (or_false_left (is_white next) (has_white rest) others)
    ∙ ap (put_before first) (tokens_of-last line next rest others)

-- a token ends before white space
pub tokens_of-token : (line first : ℕ) (rest : List ℕ) (byte : ℕ) (bytes : List ℕ) → has_white (first ∷ rest) ≡ false → is_white byte ≡ true →
    tokens_of line (first ∷ (rest ++ (byte ∷ bytes))) ≡ record { bytes = first ∷ rest; line = line } ∷ tokens_of (line_after line byte) bytes
tokens_of-token line first [] byte bytes none white =
    tokens_of-one line first byte bytes (or_false_left (is_white first) false none) white
    ∙ ap (λ tokens. record { bytes = first ∷ []; line = line } ∷ tokens) (tokens_of-white line byte bytes white)
tokens_of-token line first (next ∷ rest) byte bytes none white =
    let others = or_false_right (is_white first) (has_white (next ∷ rest)) none in
    tokens_of-put line first next (rest ++ (byte ∷ bytes)) (or_false_left (is_white first) (has_white (next ∷ rest)) none) (or_false_left (is_white next) (has_white rest) others)
    ∙ ap (put_before first) (tokens_of-token line next rest byte bytes others white)
