use Rattle.std.proofs.Common.{is_some, string_bytes}
use Rattle.order.proofs.LineLemmas.{on_ok, negated, unsafe_written, ways_written}
use Rattle.order.proofs.lines.push_ways.Goals as goal

pub returns-in_default : goal.returns-in_default
returns-in_default c =
    unsafe_written c.push_str.result (string_bytes c.args.report.now) (string_bytes c.push_str.new.self) c.args.first.now c.args.second.now c.args.way.now c.in_default.is c.push_str.ensures.bytes

pub returns : goal.returns
returns c =
    let o = c.in-Some.outcomes in
    on_ok c.push_way-3.result
    (ways_written (string_bytes c.args.report.now) (string_bytes c.push_way.new.report) (string_bytes c.push_way-2.new.report) (string_bytes c.push_way-3.new.report) c.args.first.now c.args.second.now o c.args.way.now c.is_none.result c.neither.result c.in-Some.is (negated (is_some o.both) c.is_none.result c.is_none.ensures) c.neither.ensures c.in_ok-push_way.ensures c.in_ok-push_way-2.ensures)
    c.push_way-3.ensures
