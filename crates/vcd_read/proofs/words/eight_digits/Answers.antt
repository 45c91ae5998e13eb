use Rattle.std.proofs.Common.{◌≡◌, ◌<◌, ◌^◌, ℕ, true, false, Some, refl, ap, sym, ◌∙◌, subst}
use Rattle.std.specs.List.{list_all}
use Rattle.std.proofs.lemmas.Bool.{eq-eqb, ne_eqb}
use Rattle.std.proofs.lemmas.Simd.{zip2_splat}
use Rattle.vcd_read.specs.Words.{is_digit}
use Rattle.vcd_read.proofs.EightLemmas.{values_of_digits, no_number, word_whole, eight_fit}
use Rattle.vcd_read.proofs.words.eight_digits.Goals as goal

pub returns-then-others_than_digits-ne0-clause-number : goal.returns-then-others_than_digits-ne0-clause-number
returns-then-others_than_digits-ne0-clause-number c =
    let other : list_all is_digit c.args.bytes ≡ false = sym c.others_than_digits.ensures ∙ ne_eqb c.others_than_digits.result 0 c.if-others_than_digits-ne0.true in
    sym (no_number c.args.bytes 0 other)

pub returns-clause-number : goal.returns-clause-number
returns-clause-number c =
    let v = c.args.bytes in
    let long = c.fits-bytes.0 in
    let digits : list_all is_digit v ≡ true = sym c.others_than_digits.ensures ∙ eq-eqb c.others_than_digits.result 0 c.if-others_than_digits-ne0.false in
    let all = values_of_digits _ v _ long c.fits-bytes.1 (zip2_splat {Y = ℕ} _ v 8 48 long) digits refl in
    ap (λ n. Some n) (c.value_of_eight.ensures _ all.0 all.1.below (word_whole _ all.0 all.1.below)) ∙ sym (all.1.number 0)

pub returns-clause-fits : goal.returns-clause-fits
returns-clause-fits c =
    let v = c.args.bytes in
    let long = c.fits-bytes.0 in
    let digits : list_all is_digit v ≡ true = sym c.others_than_digits.ensures ∙ eq-eqb c.others_than_digits.result 0 c.if-others_than_digits-ne0.false in
    let all = values_of_digits _ v _ long c.fits-bytes.1 (zip2_splat {Y = ℕ} _ v 8 48 long) digits refl in
    let is = c.value_of_eight.ensures _ all.0 all.1.below (word_whole _ all.0 all.1.below) in
    subst (λ (n : ℕ). n < 10 ^ 8) (sym is) (eight_fit _ all.0 all.1.below)
