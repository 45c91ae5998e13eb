use Rattle.std.proofs.Common.{refl}
use Rattle.cert_check.specs.Holds.{accepted_plan}
use Rattle.bench_run.proofs.RehearsalLemmas.{winners_known}
use Rattle.bench_run.proofs.rehearsing.play.Goals as goal

pub returns-in-Ok-clause-winners : goal.returns-in-Ok-clause-winners
returns-in-Ok-clause-winners g c =
    let b = c.in-Ok in
    let plan = accepted_plan c.args.accepted.now in
    winners_known plan plan _ _ b.bench b.host b.seats.items c.args.fill c.in_ok-played-in-Ok.played.wire.items c.in_ok-played-in-Ok.played.won.items refl b.ensures.opened b.ensures.fit c.in_ok-played-in-Ok.ensures
