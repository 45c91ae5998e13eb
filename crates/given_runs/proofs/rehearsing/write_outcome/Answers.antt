use Rattle.std.proofs.Common.{◌∙◌}
use Rattle.given_runs.specs.Written.{IsOfOutcome}
use Rattle.given_runs.proofs.RunLemmas.{lines_wrote, lines_stop}
use Rattle.given_runs.proofs.rehearsing.write_outcome.Goals as goal

pub returns-clause-wrote : goal.returns-clause-wrote
returns-clause-wrote g c =
    lines_wrote (IsOfOutcome c.args.outcome.now) g.O.Output.writer c.args.out.now c.write_lines.new.out c.as_bytes.result.now c.status_of_outcome.result (c.as_bytes.ensures.value ∙ c.in_ok-report.ensures, c.status_of_outcome.ensures) c.write_lines.result c.write_lines.ensures.status c.write_lines.ensures.all

pub returns-clause-stops : goal.returns-clause-stops
returns-clause-stops g c =
    lines_stop (IsOfOutcome c.args.outcome.now) g.O.Output.writer c.args.out.now c.write_lines.new.out c.as_bytes.result.now c.status_of_outcome.result (c.as_bytes.ensures.value ∙ c.in_ok-report.ensures, c.status_of_outcome.ensures) c.write_lines.result c.write_lines.ensures.stops
