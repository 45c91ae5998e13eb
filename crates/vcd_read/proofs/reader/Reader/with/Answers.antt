use Rattle.std.proofs.Common.{[], Ok, ap, sym, refl}
use Rattle.vcd_read.specs.Views.{asked}
use Rattle.vcd_read.proofs.FedLemmas.{going_from_scan}
use Rattle.vcd_read.proofs.reader.Reader.with.Goals as goal

pub returns : goal.returns
returns c = going_from_scan (asked c.args.scl) (asked c.args.sda) [] [] _ refl (ap Ok (sym c.in_ok-new.ensures.kept))
