use Rattle.std.proofs.Common.{◌-◌, sym, subst, arith}
use Rattle.message_tree.specs.Texts.{PayloadText}
use Rattle.arbitration.specs.declared.spans.Outcomes.{Outcomes}
use Rattle.arbitration.specs.Frames.{rest_after}
use Rattle.arbitration.specs.Ways.{AreOutcomes}
use Rattle.arbitration.proofs.rows.Row.ending.Goals as goal

pub returns : goal.returns
returns c known are =
    let place = c.args.place in
    let x = rest_after place known c.args.self.now in
    subst (λ (o : Outcomes). AreOutcomes (PayloadText x) (PayloadText x) o) (sym c.index.ensures) (are (c.len.result - place) place c.index.result.now (omega (arith, c.requires.all)) (omega arith))
