use Rattle.std.proofs.Common.{◌≡◌, ◌++◌, drop, string_bytes}
use Rattle.order.specs.Labels.{AreLabels}
use Rattle.order.specs.Lines.{total_lines}
use Rattle.plan_core.specs.Contents.{Contents}
use Rattle.order.proofs.lines.push_totals.Given as goal

-- the lines so far and those of what is left are all lines
abbrev pub invariant-loop-p : goal.invariant-loop-p
invariant-loop-p l = (plan : Contents) → AreLabels plan l.labels →
    string_bytes l.report ++ total_lines plan l.p (drop l.p l.totals)
    ≡ string_bytes l.initial.report ++ total_lines plan 0 l.totals
