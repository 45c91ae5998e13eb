use Rattle.std.proofs.Common.{ap, ◌∙◌, Some}
use Rattle.pair_walk.specs.declared.shared.Node.{Node}
use Rattle.pair_walk.specs.Shared.{NeverMeet}
use Rattle.pair_walk.proofs.SharedLemmas.{on_true, never_same, agains_follow, bytes_part, bytes_follow, writes_part, writes_follow, reads_part, reads_follow}
use Rattle.pair_walk.proofs.quick.+quick.Goals as goal

pub never_clash-returns-then-a-b : goal.never_clash-returns-then-a-b
never_clash-returns-then-a-b t c = never_same c.args.nodes.now c.args.a c.args.b c.if-a-b.true

pub nodes_never_clash-returns-then-x-a : goal.nodes_never_clash-returns-then-x-a
nodes_never_clash-returns-then-x-a t c =
    let a = c.args in
    let x = c.in-Again.x in
    let y = c.in-Again-n.y in
    on_true c.never_clash.result (NeverMeet a.nodes.now x y) (NeverMeet a.nodes.now a.a a.b) (agains_follow a.nodes.now a.a a.b x y (c.requires.first ∙ ap (λ (n : Node). Some n) c.in-Again.is) (c.requires.second ∙ ap (λ (n : Node). Some n) c.in-Again-n.is)) c.never_clash.ensures

pub nodes_never_clash-returns-in-Some : goal.nodes_never_clash-returns-in-Some
nodes_never_clash-returns-in-Some t c =
    let a = c.args in
    let m = c.in-Byte in
    let n = c.in-Byte-n in
    bytes_part a.nodes.now a.a a.b m.p n.q m.x n.y m.r n.s (c.requires.first ∙ ap (λ (o : Node). Some o) m.is) (c.requires.second ∙ ap (λ (o : Node). Some o) n.is) c.in-Some.field-0 c.in-Some.ensures

pub nodes_never_clash-returns-in-None : goal.nodes_never_clash-returns-in-None
nodes_never_clash-returns-in-None t c =
    let a = c.args in
    let m = c.in-Byte in
    let n = c.in-Byte-n in
    on_true c.both.result (NeverMeet a.nodes.now m.x n.y × NeverMeet a.nodes.now m.r n.s) (NeverMeet a.nodes.now a.a a.b) (λ h. bytes_follow a.nodes.now a.a a.b m.p n.q m.x n.y m.r n.s (c.requires.first ∙ ap (λ (o : Node). Some o) m.is) (c.requires.second ∙ ap (λ (o : Node). Some o) n.is) c.in-None.ensures h) c.both.ensures

pub nodes_never_clash-returns-in-Some-first_split : goal.nodes_never_clash-returns-in-Some-first_split
nodes_never_clash-returns-in-Some-first_split t c =
    let a = c.args in
    let m = c.in-Write in
    let n = c.in-Write-n in
    writes_part a.nodes.now a.a a.b m.p n.q m.x n.y m.r n.s (c.requires.first ∙ ap (λ (o : Node). Some o) m.is) (c.requires.second ∙ ap (λ (o : Node). Some o) n.is) c.in-Some-first_split.field-0 c.in-Some-first_split.ensures

pub nodes_never_clash-returns-in-None-first_split : goal.nodes_never_clash-returns-in-None-first_split
nodes_never_clash-returns-in-None-first_split t c =
    let a = c.args in
    let m = c.in-Write in
    let n = c.in-Write-n in
    on_true c.both-in-None-first_split.result (NeverMeet a.nodes.now m.x n.y × NeverMeet a.nodes.now m.r n.s) (NeverMeet a.nodes.now a.a a.b) (λ h. writes_follow a.nodes.now a.a a.b m.p n.q m.x n.y m.r n.s (c.requires.first ∙ ap (λ (o : Node). Some o) m.is) (c.requires.second ∙ ap (λ (o : Node). Some o) n.is) c.in-None-first_split.ensures h) c.both-in-None-first_split.ensures

pub nodes_never_clash-returns-in-Some-first_split-2 : goal.nodes_never_clash-returns-in-Some-first_split-2
nodes_never_clash-returns-in-Some-first_split-2 t c =
    let a = c.args in
    let m = c.in-Read in
    let n = c.in-Read-n in
    reads_part a.nodes.now a.a a.b m.p n.q m.c n.d m.x n.y m.r n.s (c.requires.first ∙ ap (λ (o : Node). Some o) m.is) (c.requires.second ∙ ap (λ (o : Node). Some o) n.is) c.in-Some-first_split-2.field-0 c.in-Some-first_split-2.ensures

pub nodes_never_clash-returns-then-meets : goal.nodes_never_clash-returns-then-meets
nodes_never_clash-returns-then-meets t c =
    let a = c.args in
    let m = c.in-Read in
    let n = c.in-Read-n in
    on_true c.both-then-meets.result (NeverMeet a.nodes.now m.x n.y × NeverMeet a.nodes.now m.r n.s) (NeverMeet a.nodes.now a.a a.b) (λ h. reads_follow a.nodes.now a.a a.b m.p n.q m.c n.d m.x n.y m.r n.s (c.requires.first ∙ ap (λ (o : Node). Some o) m.is) (c.requires.second ∙ ap (λ (o : Node). Some o) n.is) c.in-None-first_split-2.ensures (c.meets.ensures.0 c.if-meets.true) h) c.both-then-meets.ensures
