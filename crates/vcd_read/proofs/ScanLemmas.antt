-- A piece is read byte by byte.
use Rattle.std.proofs.Common.{◌≡◌, ◌<◌, ◌≤◌, ◌+◌, ◌-◌, ℕ, zero, suc, true, false, List, [], ◌∷◌, ◌++◌, length, take, drop, get_or, Ok, Err, refl, ap, sym, ◌∙◌, arith, drop-cons, add-one, append_assoc}
use Rattle.std.specs.List.{slice_range}
use Rattle.std.proofs.Math.Seq.{take-suc}
use Rattle.std.proofs.lemmas.List.{get_or-drop, length-drop, length-take, append-nil}
use Rattle.vcd_read.specs.declared.scanner.Scanner.{Scanner}
use Rattle.vcd_read.specs.Pieces.{Kept, Refused, with_held, token_ended, bytes_read, RoomForToken, RoomForSamples}
use Rattle.vcd_read.specs.Tokens.{is_white, line_after}

-- the range with one more element
pub range_more : (bytes : List ℕ) (start at : ℕ) → start ≤ at → at < length bytes →
    slice_range bytes start (at + 1) ≡ slice_range bytes start at ++ (get_or bytes at 0 ∷ [])
range_more bytes start at before within =
    let more : at + 1 - start ≡ suc (at - start) = omega arith in
    let there : at - start < length (drop start bytes) = rw (length-drop start bytes) (omega arith) in
    let place : start + (at - start) ≡ at = omega arith in
    ap (λ n. take n (drop start bytes)) more
    ∙ take-suc (drop start bytes) (at - start) 0 there
    ∙ ap (λ b. take (at - start) (drop start bytes) ++ (b ∷ [])) (get_or-drop start bytes (at - start) 0 ∙ ap (λ i. get_or bytes i 0) place)

pub white_read : (k next : Kept) (bytes : List ℕ) (at : ℕ) → at < length bytes → is_white (get_or bytes at 0) ≡ true → token_ended k ≡ Ok next →
    bytes_read k (drop at bytes) ≡ bytes_read (record next { line = line_after next.line (get_or bytes at 0) }) (drop (at + 1) bytes)
white_read k next bytes at within white ended = rw (drop-cons bytes at 0 within, white, ended) (ap (λ i. bytes_read (record next { line = line_after next.line (get_or bytes at 0) }) (drop i bytes)) (sym (add-one at)))

pub white_refused : (k : Kept) (refused : Refused) (bytes : List ℕ) (at : ℕ) → at < length bytes → is_white (get_or bytes at 0) ≡ true → token_ended k ≡ Err refused →
    bytes_read k (drop at bytes) ≡ Err refused
white_refused k refused bytes at within white ended = rw (drop-cons bytes at 0 within, white, ended) refl

pub other_read : (k : Kept) (bytes : List ℕ) (at : ℕ) → at < length bytes → is_white (get_or bytes at 0) ≡ false →
    bytes_read k (drop at bytes) ≡ bytes_read (record k { held = k.held ++ (get_or bytes at 0 ∷ []) }) (drop (at + 1) bytes)
other_read k bytes at within other = rw (drop-cons bytes at 0 within, other) (ap (λ i. bytes_read (record k { held = k.held ++ (get_or bytes at 0 ∷ []) }) (drop i bytes)) (sym (add-one at)))

pub length-range : (bytes : List ℕ) (start at : ℕ) → at ≤ length bytes → length (slice_range bytes start at) ≡ at - start
length-range bytes start at within =
    length-take (at - start) (drop start bytes) ∙ omega (arith, length-drop start bytes)

range_none : (bytes : List ℕ) (at : ℕ) → slice_range bytes at at ≡ []
range_none bytes at = let none : at - at ≡ 0 = omega arith in rw none refl

pub white_goes_on : (k next : Kept) (bytes : List ℕ) (at line : ℕ) → at < length bytes → is_white (get_or bytes at 0) ≡ true → token_ended k ≡ Ok next →
    line ≡ line_after next.line (get_or bytes at 0) →
    bytes_read (record next { line = line; held = next.held ++ slice_range bytes (at + 1) (at + 1) }) (drop (at + 1) bytes) ≡ bytes_read k (drop at bytes)
white_goes_on k next bytes at line within white ended after =
    ap (λ held. bytes_read (record next { line = line; held = held }) (drop (at + 1) bytes)) (ap (λ range. next.held ++ range) (range_none bytes (at + 1)) ∙ append-nil next.held)
    ∙ ap (λ l. bytes_read (record next { line = l }) (drop (at + 1) bytes)) after
    ∙ sym (white_read k next bytes at within white ended)

pub other_goes_on : (k : Kept) (bytes : List ℕ) (start at : ℕ) → start ≤ at → at < length bytes → is_white (get_or bytes at 0) ≡ false →
    bytes_read (record k { held = k.held ++ slice_range bytes start (at + 1) }) (drop (at + 1) bytes)
    ≡ bytes_read (record k { held = k.held ++ slice_range bytes start at }) (drop at bytes)
other_goes_on k bytes start at before within other =
    ap (λ held. bytes_read (record k { held = held }) (drop (at + 1) bytes))
    (ap (λ range. k.held ++ range) (range_more bytes start at before within) ∙ sym (append_assoc k.held (slice_range bytes start at) (get_or bytes at 0 ∷ [])))
    ∙ sym (other_read (record k { held = k.held ++ slice_range bytes start at }) bytes at within other)

-- ---- a whole token at once

abbrev pub NoWhite : List ℕ → ℕ → ℕ → Type 0
NoWhite bytes start end = (i : ℕ) → start ≤ i → i < end → is_white (get_or bytes i 0) ≡ false

held_before : (k : Kept) (bytes : List ℕ) (d start at : ℕ) → at ≡ start + d → at ≤ length bytes → NoWhite bytes start at →
    bytes_read (with_held (slice_range bytes start at) k) (drop at bytes) ≡ bytes_read k (drop start bytes)
held_before k bytes zero start at far within none =
    let same : at ≡ start = omega arith in
    rw same (ap (λ held. bytes_read (record k { held = held }) (drop start bytes)) (ap (λ range. k.held ++ range) (range_none bytes start) ∙ append-nil k.held))
held_before k bytes (suc d) start at far within none =
    let before : at ≡ start + d + 1 = omega arith in
    let inside : start + d < length bytes = omega arith in
    rw before
    (other_goes_on k bytes start (start + d) (omega arith) inside (none (start + d) (omega arith) (omega arith))
    ∙ held_before k bytes d start (start + d) refl (omega arith) (λ i from to. none i from (omega arith)))

-- The bytes from `start` on are a token up to `white`.
pub token_goes_on : (k next : Kept) (bytes : List ℕ) (start white line : ℕ) → start ≤ white → white < length bytes → NoWhite bytes start white → is_white (get_or bytes white 0) ≡ true →
    token_ended (with_held (slice_range bytes start white) k) ≡ Ok next → line ≡ line_after next.line (get_or bytes white 0) →
    bytes_read (record next { line = line }) (drop (white + 1) bytes) ≡ bytes_read k (drop start bytes)
token_goes_on k next bytes start white line order within none is ended after =
    ap (λ l. bytes_read (record next { line = l }) (drop (white + 1) bytes)) after
    ∙ sym (white_read (with_held (slice_range bytes start white) k) next bytes white within is ended)
    ∙ held_before k bytes (white - start) start white (omega arith) (omega arith) none

pub token_refused : (k : Kept) (refused : Refused) (bytes : List ℕ) (start white : ℕ) → start ≤ white → white < length bytes → NoWhite bytes start white → is_white (get_or bytes white 0) ≡ true →
    token_ended (with_held (slice_range bytes start white) k) ≡ Err refused → bytes_read k (drop start bytes) ≡ Err refused
token_refused k refused bytes start white order within none is ended =
    sym (held_before k bytes (white - start) start white (omega arith) (omega arith) none)
    ∙ white_refused (with_held (slice_range bytes start white) k) refused bytes white within is ended

-- ---- room

pub room_for_less : (m n : ℕ) (s : Scanner) → m ≤ n → RoomForToken n s → RoomForToken m s
room_for_less m n s less room = (omega (arith, room.0), (omega (arith, room.1.0), omega (arith, room.1.1), omega (arith, room.1.2)))

pub room_for_fewer : (m n : ℕ) (s : Scanner) → m ≤ n → RoomForSamples n s → RoomForSamples m s
room_for_fewer m n s fewer room = omega arith
