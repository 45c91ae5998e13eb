use Rattle.std.proofs.Common.{ℕ, refl}
use Rattle.std.proofs.lemmas.Simd.{zip2_splat, zip2_of_maps, splat_is_map}
use Rattle.vcd_read.specs.Tokens.{is_white}
use Rattle.vcd_read.proofs.MaskLemmas.{mask_tells}
use Rattle.vcd_read.proofs.bytes.whites.Goals as goal

pub returns : goal.returns
returns c =
    let v = c.args.bytes in
    let long = c.fits-bytes.0 in
    mask_tells _ is_white v _ long c.fits-bytes.1
    (zip2_of_maps _ _ _ v (zip2_of_maps _ _ _ v (zip2_splat {Y = ℕ} _ v 64 9 long) (splat_is_map v 64 4 long)) (zip2_splat {Y = ℕ} _ v 64 32 long)) refl
