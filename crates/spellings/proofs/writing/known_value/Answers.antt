use Rattle.std.proofs.Common.{◌≡◌, ◌+◌, ◌*◌, ◌^◌, drop, sym, ap, ◌∙◌, arith, add-one}
use Rattle.std.proofs.Math.Nat.{pow-suc}
use Rattle.message_tree.specs.declared.bits.Bit.TheVariants.{Zero, One}
use Rattle.brief_text.specs.Words.{known_number}
use Rattle.spellings.proofs.WritingLemmas.{rest_is, four_digits}
use Rattle.spellings.proofs.writing.known_value.Goals as goal
use Rattle.spellings.proofs.writing.known_value.Goals.{in-Zero, in-One}

pub loop-bit-preserved : goal.loop-bit-preserved
loop-bit-preserved c =
    let n = c.loop-bit.value in
    let bits = c.args.bits.now in
    let k = c.loop-bit.bit-index in
    let within = c.loop-bit-test.true in
    let more : 2 ^ (k + 1) ≡ 2 ^ k * 2 = ap (λ m. 2 ^ m) (add-one k) ∙ pow-suc 2 k in
    let small = c.loop-bit.invariant.small in
    elim c.match-bit.branch [
      | in-Zero w ↦ record {
        rest = ap (λ m. known_number m (drop (k + 1) bits)) w.value-is ∙ sym (ap (known_number n) (rest_is bits k _ Zero within w.in-Zero.is)) ∙ c.loop-bit.invariant.rest;
        small = omega (arith, w.value-is, more, small);
      }
      | in-One w ↦ record {
        rest = ap (λ m. known_number m (drop (k + 1) bits)) w.value-is ∙ sym (ap (known_number n) (rest_is bits k _ One within w.in-One.is)) ∙ c.loop-bit.invariant.rest;
        small = omega (arith, w.value-is, more, small);
      }
    ]

pub returns-clause-small : goal.returns-clause-small
returns-clause-small c = four_digits c.loop-bit.value c.loop-bit.bit-index c.loop-bit.invariant.small (omega arith)
