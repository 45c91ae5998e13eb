-- A code of at most three characters is told by its number.
use Rattle.std.proofs.Common.{◌≡◌, ◌<◌, ◌≤◌, ◌+◌, ◌*◌, ℕ, Bool, true, false, not, ◌&&◌, ◌==◌, List, [], ◌∷◌, length, get_or, Some, None, Ok, ◌⊎◌, inl, inr, refl, ap, ap₂, sym, ◌∙◌, subst, arith, nat_le}
use Rattle.std.specs.Prelude.{if◌then◌else◌}
use mir.Val.{bool_byte}
use Rattle.std.specs.List.{list_all}
use Rattle.std.specs.Str.{bytes_eq}
use Rattle.std.proofs.lemmas.Bool.{leb-true, cases_eq, eq-eqb, ne_eqb, false_from_ne_true}
use Rattle.std.proofs.lemmas.Bool.Decides.{nat_tests}
use Rattle.std.proofs.lemmas.Slice.Eq.{bytes_eq-Decides}
use Rattle.vcd_read.specs.declared.dumps.Context.TheVariants.{Nothing}
use Rattle.vcd_read.specs.declared.samples.Level.{Level}
use Rattle.vcd_read.specs.declared.samples.Level.TheVariants.{Low, High}
use Rattle.vcd_read.specs.Changes.{changed, both_changed, on_both}
use Rattle.vcd_read.specs.States.{Line, State}
use Rattle.vcd_read.specs.Dumps.{step}
use Rattle.vcd_read.specs.Words.{is_empty, binary_level_of, is_code, is_code_byte, bytes_number, code_number}
use Rattle.vcd_read.proofs.RunLemmas.{and_both}

character : (byte : ℕ) → is_code_byte byte ≡ true → (33 ≤ byte) × (byte ≤ 126)
character byte is =
    let parts = and_both (nat_le 33 byte) (nat_le byte 126) is in
    (leb-true 33 byte parts.0, leb-true byte 126 parts.1)

same_lowest : (x y m n : ℕ) → x ≤ 126 → y ≤ 126 → x + 256 * m ≡ y + 256 * n → (x ≡ y) × (m ≡ n)
same_lowest x y m n small_x small_y same = omega arith

same_bytes : (xs ys : List ℕ) → list_all is_code_byte xs ≡ true → list_all is_code_byte ys ≡ true → bytes_number xs ≡ bytes_number ys → xs ≡ ys
same_bytes [] [] all_x all_y same = refl
same_bytes [] (y ∷ ys) all_x all_y same =
    let low = character y (and_both (is_code_byte y) (list_all is_code_byte ys) all_y).0 in
    absurd (omega arith)
same_bytes (x ∷ xs) [] all_x all_y same =
    let low = character x (and_both (is_code_byte x) (list_all is_code_byte xs) all_x).0 in
    absurd (omega arith)
same_bytes (x ∷ xs) (y ∷ ys) all_x all_y same =
    let both_x = and_both (is_code_byte x) (list_all is_code_byte xs) all_x in
    let both_y = and_both (is_code_byte y) (list_all is_code_byte ys) all_y in
    let parts = same_lowest x y (bytes_number xs) (bytes_number ys) (character x both_x.0).1 (character y both_y.0).1 same in
    ap₂ (λ b bs. b ∷ bs) parts.0 (same_bytes xs ys both_x.1 both_y.1 parts.1)

-- a code with a number has bytes that make up the number
numbered : (test : Bool) (number : ℕ) → 0 < (if test then number else 0) → (test ≡ true) × ((if test then number else 0) ≡ number)
numbered true number some = (refl, refl)
numbered false number some = absurd (omega arith)

all_are : (code : List ℕ) → is_code code ≡ true → list_all is_code_byte code ≡ true
all_are code is = (and_both (not (is_empty code)) (list_all is_code_byte code) is).1

same_code : (code other : List ℕ) → 0 < code_number code → code_number code ≡ code_number other → code ≡ other
same_code code other some same =
    let one = numbered (is_code code && nat_le (length code) 3) (bytes_number code) some in
    let two = numbered (is_code other && nat_le (length other) 3) (bytes_number other) (subst (λ n. 0 < n) same some) in
    same_bytes code other (all_are code (and_both (is_code code) (nat_le (length code) 3) one.0).0) (all_are other (and_both (is_code other) (nat_le (length other) 3) two.0).0)
    (sym one.1 ∙ same ∙ two.1)

-- the test that the code makes in place of comparing bytes
numbers_tell : (code other : List ℕ) (number known : ℕ) → 0 < number → code_number code ≡ number → known ≡ code_number other → (number == known) ≡ bytes_eq code other
numbers_tell code other number known some of_code of_other =
    elim (cases_eq number known) [
      | inl same ↦ eq-eqb number known same ∙ sym ((bytes_eq-Decides code other).1 (same_code code other (subst (λ n. 0 < n) (sym of_code) some) (of_code ∙ same ∙ of_other)))
      | inr differ ↦ ne_eqb number known differ ∙ sym (false_from_ne_true (bytes_eq code other) (λ test. differ (sym of_code ∙ ap code_number ((bytes_eq-Decides code other).0 test) ∙ sym of_other)))
    ]

level_by : (old : Line) (level : Level) (test same : Bool) → test ≡ same →
    record old { level = get_or (old.level ∷ (level ∷ [])) (bool_byte test) Low } ≡ (if same then record old { level = level } else old)
level_by old level true true is = refl
level_by old level true false is = absurd cc
level_by old level false true is = absurd cc
level_by old level false false is = refl

pub changed_by_number : (code : List ℕ) (level : Level) (old : Line) (number known : ℕ) → 0 < number → code_number code ≡ number → known ≡ code_number old.code →
    record old { level = get_or (old.level ∷ (level ∷ [])) (bool_byte (number == known)) Low } ≡ changed code level old
changed_by_number code level old number known some of_code of_old =
    level_by old level (number == known) (bytes_eq code old.code) (numbers_tell code old.code number known some of_code of_old)

-- ---- a change of one value and a code of at most three characters

is_binary : (value : ℕ) (level : Level) → binary_level_of value ≡ Some level → ((value ≡ 48) × (level ≡ Low)) ⊎ ((value ≡ 49) × (level ≡ High))
is_binary value level is = grind (arith, nat_tests)

pub has_code : (code : List ℕ) → 0 < code_number code → is_code code ≡ true
has_code code some = (and_both (is_code code) (nat_le (length code) 3) (numbered (is_code code && nat_le (length code) 3) (bytes_number code) some).0).0

pub short_change : (s : State) (value : ℕ) (code : List ℕ) (line : ℕ) (level : Level) → s.context ≡ Nothing → s.defined ≡ true →
    binary_level_of value ≡ Some level → 0 < code_number code → step s (value ∷ code) line ≡ Ok (both_changed code (on_both level) s, None)
unfolding step
short_change s value code line level outside defined is some =
    elim (is_binary value level is) [
      | inl low ↦ rw (outside, defined, low.0, low.1, has_code code some) refl
      | inr high ↦ rw (outside, defined, high.0, high.1, has_code code some) refl
    ]
