-- Bits as digits of a number, and as a text.
use Rattle.std.proofs.Common.{◌≡◌, ℕ, ◌+◌, ◌*◌, ◌<◌, ◌^◌, Bool, true, false, List, length, take, get_or, if◌then◌else◌, add-one, refl, ap, sym, ◌∙◌, arith}
use mir.Val.{bool_byte}
use Rattle.std.proofs.Math.Nat.{two-pow-succ}
use Rattle.std.proofs.lemmas.List.Sums.{fold_more}
use Rattle.byte_lines.specs.Bytes.{number}

as_digit : (bit : Bool) → bool_byte bit ≡ (if bit then 1 else 0)
as_digit true = refl
as_digit false = refl

pub one_digit_more : (bits : List Bool) (i n digit : ℕ) (d : Bool) → i < length bits → n ≡ number (take i bits) → digit ≡ bool_byte (get_or bits i d) → 2 * n + digit ≡ number (take (i + 1) bits)
one_digit_more bits i n digit d inside so_far is =
    ap (λ m. 2 * m + digit) so_far
    ∙ (ap (λ b. 2 * number (take i bits) + b) (is ∙ as_digit (get_or bits i d))
    ∙ sym (fold_more (λ n bit. 2 * n + (if bit then 1 else 0)) 0 bits i d inside))

-- a number of i digits has less than 2 to the power i
pub still_small : (i n digit : ℕ) (bit : Bool) → n < 2 ^ i → digit ≡ bool_byte bit → 2 * n + digit < 2 ^ (i + 1)
still_small i n digit true small is = let twice = two-pow-succ i in rw add-one (omega arith)
still_small i n digit false small is = let twice = two-pow-succ i in rw add-one (omega arith)
