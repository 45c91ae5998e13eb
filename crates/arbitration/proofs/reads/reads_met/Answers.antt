use Rattle.std.proofs.Common.{◌*◌, arith}
use Rattle.message_tree.specs.Counts.{greatest_of}
use Rattle.message_tree.specs.Texts.{TailText}
use Rattle.message_tree.proofs.TextLaws.{lawful_tail}
use Rattle.arbitration.specs.Ways.{span_of}
use Rattle.arbitration.proofs.Nodes.{reads_end}
use Rattle.arbitration.proofs.SpanLemmas.{less_room}
use Rattle.arbitration.proofs.reads.reads_met.Goals as goal

pub after-requires : goal.after-requires
after-requires c way =
    let m = c.requires.meet in
    less_room (9 * c.max-least.result) (9 * greatest_of c.args.first.now) (span_of way c.args.ended) (omega (arith, m.1.0, m.1.1, m.2.0, m.2.1, c.max-least.ensures, c.least.ensures, c.least-2.ensures)) (c.requires.room way)

pub after-requires-2 : goal.after-requires-2
after-requires-2 c way =
    less_room (9 * c.min-greatest.result) (9 * greatest_of c.args.first.now) (span_of way c.args.ended) (omega (arith, c.min-greatest.ensures, c.greatest.ensures, c.greatest-2.ensures)) (c.requires.room way)

pub returns : goal.returns
returns c x y h =
    reads_end c.args.first.now c.args.second.now (TailText x) (TailText y) c.reads_apart.result c.union.result c.args.ended c.max-least.result c.min-greatest.result c.requires.meet (omega (arith, c.max-least.ensures, c.least.ensures, c.least-2.ensures)) (omega (arith, c.min-greatest.ensures, c.greatest.ensures, c.greatest-2.ensures)) (lawful_tail x).some (lawful_tail y).some c.reads_apart.ensures h (λ way. let e = c.union.ensures way in let f = c.union-ends.ensures way in let g = c.after.ensures way in let h = c.after-2.ensures way in cc)
