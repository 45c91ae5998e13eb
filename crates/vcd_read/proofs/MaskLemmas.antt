-- A mask of 64 bytes tells where white space is.
use Rattle.std.proofs.Common.{◌≡◌, ◌<◌, ◌≤◌, ◌+◌, ◌-◌, ◌/◌, ◌%◌, ◌^◌, ℕ, zero, suc, Bool, true, false, ◌&&◌, ◌==◌, cond, List, map, length, get_or, inl, inr, refl, ap, sym, ◌∙◌, arith, nat_le, Fits, w8, w64}
use Rattle.std.specs.Int.{bit_at}
use Rattle.std.proofs.lemmas.Bool.{agree_below, agree_below_at, le-leb, leb-true, cases_lt}
use Rattle.std.proofs.lemmas.Bool.Decides.{nat_tests}
use Rattle.std.proofs.lemmas.List.{length-map, get_or-map}
use Rattle.std.proofs.lemmas.Nat.{and_shr}
use Rattle.std.proofs.lemmas.Nat.Bits.{bit_at_lowest, bit_at-zero, bit_at-suc, bit_at_and, bit_at-trailing_zeros}
use Rattle.std.proofs.lemmas.Simd.{map-map, Each1-get_or, mask_l-mod, bit_mask_l}
use lib.Bits.{bit_and}
use lib.Count.{count_trailing_zeros, under}
use lib.Lanes.{Each1, mask_l, top}
use Rattle.vcd_read.specs.Tokens.{is_white}
use Rattle.vcd_read.proofs.RunLemmas.{and_both}
use Rattle.vcd_read.proofs.ScanLemmas.{NoWhite}

-- ---- the mask

one_bit : (test : Bool) → (cond test 1 0 == 1) ≡ test
one_bit true = refl
one_bit false = refl

-- A mask that is computed lane by lane tells what a test tells, where they agree on each of the 256 bytes.
pub mask_tells : (f : ℕ → ℕ) (p : ℕ → Bool) (v z : List ℕ) → length v ≡ 64 → Each1 (Fits w8) v → z ≡ map f v → agree_below (λ x. top 7 (f x)) p 256 ≡ true →
    (i : ℕ) → i < 64 → (bit_at (mask_l (map (top 7) z) % 2 ^ 64) i == 1) ≡ p (get_or v i 0)
mask_tells f p v z long fits is all i within =
    let inside : i < length v = omega arith in
    let lanes : map (top 7) z ≡ map (λ x. top 7 (f x)) v = ap (map (top 7)) is ∙ map-map (top 7) f v in
    let short : length (map (top 7) z) ≤ 64 = omega (arith, ap length lanes, length-map v (λ x. top 7 (f x))) in
    ap (λ n. bit_at n i == 1) (mask_l-mod (map (top 7) z) 64 short)
    ∙ ap (λ n. n == 1) (bit_mask_l (map (top 7) z) i)
    ∙ one_bit (get_or (map (top 7) z) i false)
    ∙ ap (λ l. get_or l i false) lanes
    ∙ get_or-map (λ x. top 7 (f x)) v i 0 false inside
    ∙ agree_below_at (λ x. top 7 (f x)) p 256 (get_or v i 0) all (Each1-get_or (Fits w8) v i 0 inside fits).fits

-- ---- the lowest bit goes, and no other

abbrev Cleared : ℕ → ℕ → ℕ → Type 0
Cleared n lowest i = (i ≤ lowest → bit_at (bit_and n (n - 1)) i ≡ 0) × (lowest < i → bit_at (bit_and n (n - 1)) i ≡ bit_at n i)

cleared_by : (n t d i : ℕ) → 0 < n → n % 2 ≡ d → ((j : ℕ) → n % 2 ≡ 0 → Cleared (n / 2) t j) → Cleared n (under d t) i
cleared_by n t zero zero some is each = (λ at_most. omega (arith, bit_at_and n (n - 1) 0, bit_at_lowest n), λ above. absurd (omega arith))
cleared_by n t zero (suc j) some is each =
    let half : (n - 1) / 2 ≡ n / 2 - 1 = omega arith in
    let next : bit_at (bit_and n (n - 1)) (suc j) ≡ bit_at (bit_and (n / 2) (n / 2 - 1)) j =
    bit_at-suc (bit_and n (n - 1)) j ∙ ap (λ x. bit_at x j) (and_shr n (n - 1) 1 ∙ ap (bit_and (n / 2)) half) in
    (λ at_most. next ∙ (each j is).0 (omega arith), λ above. next ∙ (each j is).1 (omega arith) ∙ sym (bit_at-suc n j))
cleared_by n t (suc d) zero some is each = (λ at_most. omega (arith, bit_at_and n (n - 1) 0, bit_at_lowest n, bit_at_lowest (n - 1)), λ above. absurd (omega arith))
cleared_by n t (suc d) (suc j) some is each =
    let half : (n - 1) / 2 ≡ n / 2 = omega arith in
    let same : bit_at (n - 1) (suc j) ≡ bit_at n (suc j) = bit_at-suc (n - 1) j ∙ ap (λ x. bit_at x j) half ∙ sym (bit_at-suc n j) in
    (λ at_most. absurd (omega arith), λ above. omega (arith, bit_at_and n (n - 1) (suc j)))

lowest_cleared : (w n i : ℕ) → 0 < n → n < 2 ^ w → Cleared n (count_trailing_zeros w n) i
unfolding count_trailing_zeros
lowest_cleared zero n i some small = absurd (omega arith)
lowest_cleared (suc w) n i some small = cleared_by n (count_trailing_zeros w (n / 2)) (n % 2) i some refl (λ j even. lowest_cleared w (n / 2) j (omega arith) (omega arith))

-- ---- the white space that is left

-- The bits that are set are those of the white space from `start` on, among the 64 bytes from `at` on.
abbrev pub Marks : ℕ → List ℕ → ℕ → ℕ → Type 0
Marks rest bytes at start = (i : ℕ) → i < 64 → (bit_at rest i == 1) ≡ (nat_le start (at + i) && is_white (get_or bytes (at + i) 0))

pub marks_at_first : (mask : ℕ) (bytes : List ℕ) (at start : ℕ) → start ≤ at → ((i : ℕ) → i < 64 → (bit_at mask i == 1) ≡ is_white (get_or bytes (at + i) 0)) → Marks mask bytes at start
marks_at_first mask bytes at start order tells i within = rw (le-leb start (at + i) (omega arith)) (tells i within)

is_set : (rest : ℕ) (bytes : List ℕ) (at start i : ℕ) → Marks rest bytes at start → i < 64 → bit_at rest i ≡ 1 → (start ≤ at + i) × (is_white (get_or bytes (at + i) 0) ≡ true)
is_set rest bytes at start i marks within set =
    let both = and_both (nat_le start (at + i)) (is_white (get_or bytes (at + i) 0)) (sym (marks i within) ∙ ap (λ n. n == 1) set) in
    (leb-true start (at + i) both.0, both.1)

is_clear : (rest : ℕ) (bytes : List ℕ) (at start i : ℕ) → Marks rest bytes at start → i < 64 → start ≤ at + i → bit_at rest i ≡ 0 → is_white (get_or bytes (at + i) 0) ≡ false
is_clear rest bytes at start i marks within order clear =
    ap (λ test. test && is_white (get_or bytes (at + i) 0)) (sym (le-leb start (at + i) order)) ∙ sym (marks i within) ∙ ap (λ n. n == 1) clear

-- the first white space from `start` on
pub record NextWhite (bytes : List ℕ) (at start place : ℕ) : Type 0 where
  pub within : place < 64
  pub order : start ≤ at + place
  pub is : is_white (get_or bytes (at + place) 0) ≡ true
  pub none_before : NoWhite bytes start (at + place)

pub next_white : (rest : ℕ) (bytes : List ℕ) (at start : ℕ) → 0 < rest → rest < 2 ^ 64 → Marks rest bytes at start → NoWhite bytes start at → NextWhite bytes at start (count_trailing_zeros 64 rest)
next_white rest bytes at start some small marks none =
    let lowest = bit_at-trailing_zeros w64 rest some small in
    let here = is_set rest bytes at start (count_trailing_zeros 64 rest) marks lowest.0 lowest.1 in
    record {
      within = lowest.0;
      order = here.0;
      is = here.1;
      none_before = λ i from to. elim (cases_lt i at) [
        | inl early ↦ none i from early
        | inr late ↦
            let place : at + (i - at) ≡ i = omega arith in
            let clear = lowest.2 (i - at) (omega arith) in
            rw (sym place) (is_clear rest bytes at start (i - at) marks (omega (arith, lowest.0)) (omega arith) clear)
      ];
    }

too_far : (a b : ℕ) → b < a → nat_le a b ≡ false
too_far a b less = grind (arith, nat_tests)

pub marks_after : (rest : ℕ) (bytes : List ℕ) (at start : ℕ) → 0 < rest → rest < 2 ^ 64 → Marks rest bytes at start → NextWhite bytes at start (count_trailing_zeros 64 rest) →
    Marks (bit_and rest (rest - 1)) bytes at (at + count_trailing_zeros 64 rest + 1)
marks_after rest bytes at start some small marks next i within =
    let place = count_trailing_zeros 64 rest in
    let cleared = lowest_cleared 64 rest i some small in
    elim (cases_lt place i) [
      | inl later ↦
          ap (λ n. n == 1) (cleared.1 later) ∙ marks i within
          ∙ ap (λ test. test && is_white (get_or bytes (at + i) 0)) (le-leb start (at + i) (omega (arith, next.order)) ∙ sym (le-leb (at + place + 1) (at + i) (omega arith)))
      | inr past ↦
          ap (λ n. n == 1) (cleared.0 past)
          ∙ ap (λ test. test && is_white (get_or bytes (at + i) 0)) (sym (too_far (at + place + 1) (at + i) (omega arith)))
    ]

-- no bit is left
pub none_left : (bytes : List ℕ) (at start : ℕ) → Marks 0 bytes at start → NoWhite bytes start at → NoWhite bytes start (at + 64)
none_left bytes at start marks none i from to =
    elim (cases_lt i at) [
      | inl early ↦ none i from early
      | inr late ↦
          let place : at + (i - at) ≡ i = omega arith in
          rw (sym place) (is_clear 0 bytes at start (i - at) marks (omega arith) (omega arith) (bit_at-zero (i - at)))
    ]
