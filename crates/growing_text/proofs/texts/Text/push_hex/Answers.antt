use Rattle.std.proofs.Common.{[], refl, arith, sym, ◌∙◌, string_bytes}
use Rattle.growing_text.proofs.HexLemmas.{hex_written}
use Rattle.growing_text.proofs.texts.Text.push_hex.Goals.{else-self-via-then-self+else-is_err, else-self-via-else-self}
use Rattle.growing_text.proofs.texts.Text.push_hex.Goals as goal

pub returns-else-self : goal.returns-else-self
returns-else-self c =
    elim c.else-self.branch [
      | else-self-via-then-self+else-is_err w ↦
          rw w.self-is (record { said = λ whole. (whole, hex_written w.write.result _ [] (string_bytes c.args.self.now.text) (string_bytes w.write.new.self) c.args.byte (omega (arith, c.ranges.byte.fits)) (sym w.is_err.ensures.value ∙ w.if-is_err.false) w.in_radix.ensures (rw w.laid_out.ensures at w.write.ensures.bytes)); left = λ cut. cc })
      | else-self-via-else-self w ↦ rw w.self-is (record { said = λ whole. absurd (cc); left = λ cut. refl })
    ]
