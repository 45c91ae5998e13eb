use Rattle.std.proofs.Common.{◌≡◌, ◌+◌, ◌%◌, ℕ, false, List, ◌∷◌, length, get_or, ◌==◌, refl, ap, sym, ◌∙◌, subst, arith, Fits, w8}
use Rattle.std.proofs.lemmas.Bool.{ne_eqb}
use Rattle.vcd_read.proofs.EightLemmas.{seven_digits}
use Rattle.vcd_read.proofs.WordLemmas.{time_from_eight}
use Rattle.vcd_read.proofs.words.stamp_time.Goals as goal

pub returns-then-token-eq8 : goal.returns-then-token-eq8
returns-then-token-eq8 c = λ digits is.
    let long : length (35 ∷ digits) ≡ 8 = sym (ap length is) ∙ c.if-token-eq8.true in
    let fits : (i : ℕ) → Fits w8 (get_or (35 ∷ digits) i 0) = subst (λ (l : List ℕ). (i : ℕ) → Fits w8 (get_or l i 0)) is c.type_inv.token in
    let some : (length digits == 0) ≡ false = ne_eqb (length digits) 0 (λ none. omega arith) in
    time_from_eight digits c.eight_digits.result some
    (c.eight_digits.ensures.number ∙ seven_digits (λ (x y : ℕ). (x + y) % 256) c.args.token.now digits is long fits refl refl)
    c.eight_digits.ensures.fits
