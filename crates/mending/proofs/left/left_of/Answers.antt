use Rattle.std.proofs.Common.{◌≡◌, true}
use Rattle.std.specs.List.{list_all}
use Rattle.mending.specs.Numbers.{is_among}
use Rattle.mending.proofs.TableLemmas.{all_found}
use Rattle.mending.proofs.left.left_of.Goals as goal

pub returns-then-not-all_true : goal.returns-then-not-all_true
returns-then-not-all_true c =
    all_found c.args.before.now c.args.later.now c.in_ok-known.known.items c.as_slice.result.now _ c.in_ok-known.ensures c.as_slice.ensures.value c.if-not-all_true.ensures

pub returns : goal.returns
returns c =
    let all : list_all (is_among c.args.before.now) c.args.later.now ≡ true =
    all_found c.args.before.now c.args.later.now c.in_ok-known.known.items c.as_slice.result.now true c.in_ok-known.ensures c.as_slice.ensures.value c.if-not-all_true.ensures in
    (all, c.in_ok-left.ensures)
