use Rattle.std.proofs.Common.{ℕ, suc, sym, subst}
use Rattle.pair_walk.specs.declared.marks.Mark.{Mark}
use Rattle.pair_walk.specs.Marks.{Leads}
use Rattle.pair_walk.proofs.MarkLemmas.{mark_added, marks_kept, leads_on}
use Rattle.pair_walk.proofs.marks.Marking.follow.Goals as goal

pub loop-preserved : goal.loop-preserved
loop-preserved c =
    let nodes = c.args.nodes.now in
    let old = c.loop.self.beginnings.nodes.items in
    let new = c.put.new.self.nodes.items in
    let keeps = c.in_ok-k-in-Some.ensures.keeps in
    let so = c.loop.invariant in
    let m : Mark = record { root = c.args.root; beginning = c.loop.beginning; node = c.loop.node } in
    let marks = mark_added nodes old c.loop.self.marks.items c.push.new.self.items so.1 m so.0 so.2 c.in_ok-push.ensures.items in
    let step = c.in-Some.ensures in
    let on = leads_on nodes old new so.1 c.loop.beginning c.args.root c.loop.node c.in_ok-k-in-Some.k c.in-Some.next c.in-Some.step step.0 keeps so.2 c.in_ok-k-in-Some.ensures.stands step.1 step.2 in
    (marks_kept nodes old new c.push.new.self.items keeps marks, suc so.1, subst (λ (b : ℕ). Leads nodes new (suc so.1) b c.args.root c.in-Some.next) (sym c.in_ok-beginning-in-Some.ensures) on)

pub returns-in-None : goal.returns-in-None
returns-in-None c =
    let so = c.loop.invariant in
    let m : Mark = record { root = c.args.root; beginning = c.loop.beginning; node = c.loop.node } in
    mark_added c.args.nodes.now c.loop.self.beginnings.nodes.items c.loop.self.marks.items c.push.new.self.items so.1 m so.0 so.2 c.in_ok-push.ensures.items
