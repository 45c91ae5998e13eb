use Rattle.verdicts.proofs.FaultLemmas.{not_listed}
use Rattle.verdicts.proofs.listed.list_if_unsafe.Goals as goal

pub returns-in_default : goal.returns-in_default
returns-in_default c =
    let none = not_listed c.args.known.now c.args.place c.args.pair _ c.requires c.in_default.not-Unsafe in
    none c.args.listed.now.items
