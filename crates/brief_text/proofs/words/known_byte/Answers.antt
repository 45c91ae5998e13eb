use Rattle.std.proofs.Common.{◌≡◌, ◌+◌, ◌*◌, ◌^◌, drop, sym, ap, ◌∙◌, arith, add-one}
use Rattle.std.proofs.Math.Nat.{pow-suc}
use Rattle.message_tree.specs.Patterns.{pattern_bits}
use Rattle.brief_text.specs.Words.{known_number}
use Rattle.brief_text.proofs.WordLemmas.{rest_at, no_bits_after}
use Rattle.brief_text.proofs.words.known_byte.Goals as goal
use Rattle.brief_text.proofs.words.known_byte.Goals.{in-Zero, in-One}

pub returns-in-Either : goal.returns-in-Either
returns-in-Either c = record { read = sym (ap (known_number c.loop-place.number) (rest_at (pattern_bits c.args.bits.now) c.loop-place.place _ c.in-Either.ensures)) ∙ c.loop-place.invariant.rest }

pub loop-place-preserved : goal.loop-place-preserved
loop-place-preserved c =
    let n = c.loop-place.number in
    let all = pattern_bits c.args.bits.now in
    let later = drop (c.loop-place.place + 1) all in
    let more : 2 ^ (c.loop-place.place + 1) ≡ 2 ^ c.loop-place.place * 2 = ap (λ m. 2 ^ m) (add-one c.loop-place.place) ∙ pow-suc 2 c.loop-place.place in
    let small = c.loop-place.invariant.small in
    elim c.match-bit.branch [
      | in-Zero w ↦ record {
        rest = ap (λ m. known_number m later) w.number-is ∙ sym (ap (known_number n) (rest_at all c.loop-place.place _ w.in-Zero.ensures)) ∙ c.loop-place.invariant.rest;
        small = omega (arith, w.number-is, more, small);
      }
      | in-One w ↦ record {
        rest = ap (λ m. known_number m later) w.number-is ∙ sym (ap (known_number n) (rest_at all c.loop-place.place _ w.in-One.ensures)) ∙ c.loop-place.invariant.rest;
        small = omega (arith, w.number-is, more, small);
      }
    ]

pub returns : goal.returns
returns c = record { read = sym (ap (known_number c.loop-place.number) (no_bits_after c.args.bits.now c.loop-place.place (omega (arith, c.loop-place-test.false, c.loop-place.auto.place-end)))) ∙ c.loop-place.invariant.rest }
