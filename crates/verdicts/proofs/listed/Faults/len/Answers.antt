use Rattle.std.proofs.Common.{arith}
use Rattle.verdicts.proofs.FaultLemmas.{entry_count}
use Rattle.verdicts.proofs.listed.Faults.len.Goals as goal

pub returns : goal.returns
returns c =
    let faults = c.args.self.now in
    omega (arith, c.len.ensures, faults.listed.ok.0, entry_count faults.known.items faults.listed.items faults.all_unsafe)
