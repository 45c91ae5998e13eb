use Rattle.std.proofs.Common.{◌≡◌, ◌<◌, ◌∙◌, length, sym, subst, arith}
use Rattle.std.proofs.lemmas.Result.{IfOk-weaker}
use denote.Param.Send.{sendable, param_send}
use Rattle.bench_run.specs.Players.{IsPart}
use Rattle.bench_run.proofs.PlayerLemmas.{both_ok}
use Rattle.bench_run.proofs.Crossing.{part_send}
use Rattle.bench_run.proofs.rounds.play_in_threads.Lts as lts
use Rattle.bench_run.proofs.rounds.play_in_threads.Goals as goal

pub map_vec-requires-send-J : goal.map_vec-requires-send-J
map_vec-requires-send-J g c κs _ =
    param_send 1 (lts.arg-1-1 g.row.R g.row.G g.R.laws g.G.laws g.R.Threads-dict g.R.Clock-dict g.G.Gate-dict κs) (search (sendable, part_send) depth 20 fits 20000)

pub returns-clause-each : goal.returns-clause-each
returns-clause-each g c bench fill are =
    IfOk-weaker c.map_vec.result _ _ (λ v h k d lt.
    let many : length v.items ≡ length c.args.parts.items = sym v.ok.0 ∙ h.0 ∙ c.args.parts.ok.0 in
    let there : k < length c.args.parts.items = omega (arith, lt, many) in
    let job = (h.1 k d there).1 in
    let is_part : IsPart bench fill job.job = subst (IsPart bench fill) (sym job.job_read) (are k job.job there) in
    job.call.met bench fill is_part) (both_ok c.map_vec.result _ _ c.map_vec.ensures.len c.map_vec.ensures.each)
