use Rattle.std.proofs.Common.{length, refl, arith}
use Rattle.std.proofs.lemmas.Option.{slice_get_read}
use Rattle.plan_core.specs.Participants.{sender_at}
use Rattle.plan_core.specs.PlanContents.{plan_contents}
use Rattle.arbitration.proofs.SenderLemmas.{both_span, first_span, second_span}
use Rattle.arbitration.proofs.Runs.{ends_span, first_in_runs, second_in_runs}
use Rattle.arbitration.proofs.pairs.of_pair.Goals as goal

pub returns : goal.returns
returns c =
    let plan = plan_contents c.args.plan.now in
    let p = c.args.x in
    let q = c.args.y in
    let laid = c.requires.laid in
    let sent = c.args.laid.now.sent.items in
    let x = laid.sent p c.index.result.now (slice_get_read sent (length sent) p c.index.result.now refl (omega (arith, laid.all)) c.index.ensures) in
    let y = laid.sent q c.index-2.result.now (slice_get_read sent (length sent) q c.index-2.result.now refl (omega (arith, laid.all)) c.index-2.ensures) in
    let o = c.outcomes.result in
    let of = c.outcomes.ensures x.0 y.0 x.2 y.2 in
    let both = both_span (sender_at plan p) (sender_at plan q) x.0 y.0 x.1 y.1 o of in
    let first = first_span (sender_at plan p) (sender_at plan q) x.0 y.0 x.1 y.1 o of in
    let second = second_span (sender_at plan p) (sender_at plan q) x.0 y.0 x.1 y.1 o of in
    record {
      both = both;
      first = first;
      second = second;
      both_in_runs = λ n. ends_span plan p q n o.both both;
      first_in_runs = λ n. first_in_runs plan p q n o.first first;
      second_in_runs = λ n. second_in_runs plan p q n o.second second;
    }
