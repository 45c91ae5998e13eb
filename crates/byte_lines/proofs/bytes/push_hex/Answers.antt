use Rattle.std.proofs.Common.{[], arith, string_bytes, ap}
use Rattle.std.specs.Result.{is_err}
use Rattle.growing_text.proofs.HexLemmas.{hex_written}
use Rattle.byte_lines.proofs.bytes.push_hex.Goals as goal

pub returns : goal.returns
returns c =
    hex_written c.write.result _ [] (string_bytes c.args.text.now) (string_bytes c.write.new.self) c.args.byte (omega (arith, c.ranges.byte.fits)) (ap is_err c.in_ok-write.was) c.in_radix.ensures (rw c.laid_out.ensures at c.write.ensures.bytes)
