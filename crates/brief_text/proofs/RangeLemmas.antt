-- The numbers of a range.
use Rattle.std.proofs.Common.{◌≡◌, ℕ, zero, suc, ◌+◌, ◌-◌, length, ap, refl}
use Rattle.std.specs.List.{range_with_len}
use Rattle.brief_text.specs.declared.syntax.Lengths.{Lengths}
use Rattle.brief_text.specs.Drafts.{lengths}

pub range_length : (a n : ℕ) → length (range_with_len a n) ≡ n
range_length a zero = refl
range_length a (suc n) = ap suc (range_length (a + 1) n)

-- as many numbers as there are
pub range_is : (range : Lengths) → range_with_len range.least (length (lengths range)) ≡ lengths range
range_is range = ap (range_with_len range.least) (range_length range.least (suc range.greatest - range.least))
