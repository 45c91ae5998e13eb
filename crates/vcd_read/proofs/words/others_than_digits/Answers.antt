use Rattle.std.proofs.Common.{ℕ, cond, nat_lt, refl}
use Rattle.std.proofs.lemmas.Simd.{zip2_splat, zip2_of_maps, splat_is_map}
use Rattle.vcd_read.proofs.EightLemmas.{mask_of_digits}
use Rattle.vcd_read.proofs.words.others_than_digits.Goals as goal

pub returns : goal.returns
returns c =
    let v = c.args.bytes in
    let long = c.fits-bytes.0 in
    mask_of_digits _ v _ long c.fits-bytes.1 (zip2_of_maps (λ (a b : ℕ). cond (nat_lt a b) 255 0) _ _ v (splat_is_map {Y = ℕ} v 8 9 long) (zip2_splat {Y = ℕ} _ v 8 48 long)) refl
