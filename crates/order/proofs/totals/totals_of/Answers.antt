use Rattle.std.proofs.Common.{◌∙◌, None, get_or, arith}
use Rattle.std.proofs.lemmas.List.{get_or_default}
use Rattle.order.proofs.TotalLemmas.{nothing_counted, counted_size, counted_pair, counted_room, counted_next, all_counted}
use Rattle.order.proofs.totals.totals_of.Goals as goal

pub loop-k-init : goal.loop-k-init
loop-k-init c = c.in_ok-totals.ensures ∙ nothing_counted c.args.participants

pub count-requires-clause-within : goal.count-requires-clause-within
count-requires-clause-within c =
    let a = c.args in
    let size = counted_size a.participants c.loop-k.k a.pairs.now a.ways.now c.loop-k.totals.items c.requires.within c.requires.all c.loop-k.invariant in
    let b = counted_pair a.participants c.loop-k.k a.pairs.now a.ways.now c.loop-k.totals.items c.requires.within c.requires.all c.loop-k.invariant c.loop-k-test.true (0, 0) in
    omega (arith, size, b.1)

pub count-requires-clause-two : goal.count-requires-clause-two
count-requires-clause-two c =
    let a = c.args in
    (counted_pair a.participants c.loop-k.k a.pairs.now a.ways.now c.loop-k.totals.items c.requires.within c.requires.all c.loop-k.invariant c.loop-k-test.true (0, 0)).0

pub count-requires-clause-room : goal.count-requires-clause-room
count-requires-clause-room c =
    let a = c.args in
    counted_room a.participants c.loop-k.k a.pairs.now a.ways.now c.loop-k.totals.items c.requires.within c.requires.all c.loop-k.invariant c.loop-k-test.true c.requires.few

pub loop-k-preserved : goal.loop-k-preserved
loop-k-preserved c =
    let a = c.args in
    let p = get_or a.pairs.now c.loop-k.k (0, 0) in
    let way = get_or a.ways.now c.loop-k.k None in
    c.count.ensures
    ∙ counted_next a.participants c.loop-k.k a.pairs.now a.ways.now c.loop-k.totals.items c.requires.within c.requires.all c.loop-k.invariant c.loop-k-test.true p way
    (get_or_default a.pairs.now c.loop-k.k (0, 0) p c.loop-k-test.true)
    (get_or_default a.ways.now c.loop-k.k None way (omega (arith, c.requires.all)))

pub returns : goal.returns
returns c =
    let a = c.args in
    all_counted a.participants c.loop-k.k a.pairs.now a.ways.now c.loop-k.totals.items c.requires.within c.requires.all c.loop-k.invariant c.loop-k-test.false
