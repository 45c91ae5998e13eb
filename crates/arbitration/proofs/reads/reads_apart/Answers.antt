use Rattle.std.proofs.Common.{None, refl}
use Rattle.arbitration.proofs.ReadMeetings.{apart_of}
use Rattle.arbitration.proofs.reads.reads_apart.Goals as goal

pub returns : goal.returns
returns c =
    apart_of c.args.first.now c.args.second.now (record { both = None; first = c.reading_on.result; second = c.reading_on-2.result }) refl c.reading_on.ensures c.reading_on-2.ensures
