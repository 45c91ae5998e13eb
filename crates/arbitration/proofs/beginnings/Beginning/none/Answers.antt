use Rattle.std.proofs.Common.{refl}
use Rattle.arbitration.proofs.CommonBytes.{no_beginning}
use Rattle.arbitration.proofs.beginnings.Beginning.none.Goals as goal

pub returns : goal.returns
returns c = no_beginning (record { bytes = 0; outcomes = c.none.result }) refl c.none.ensures
