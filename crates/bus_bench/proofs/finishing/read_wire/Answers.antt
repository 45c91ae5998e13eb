use Rattle.std.proofs.Common.{◌≡◌, ◌<◌, ◌≤◌, ◌+◌, ◌∷◌, [], ℕ, ◌∙◌, ap, sym, refl, subst, arith, length, List}
use Rattle.std.proofs.lemmas.List.{length-append}
use Rattle.atomic_table.specs.Table.{Me}
use Rattle.message_tree.specs.declared.items.Item.{Item}
use Rattle.plays.specs.Games.{answer_at}
use Rattle.plays.specs.Words.{shown_in, left_in}
use Rattle.bus_bench.specs.declared.hands.Hand.{Hand}
use Rattle.bus_bench.specs.Rule.{SLOTS}
use Rattle.bus_bench.specs.Steps.{HasRead}
use Rattle.bus_bench.specs.Tickets.{bench_name, setup_of, ticket_bench}
use Rattle.bus_bench.proofs.FinishLemmas.{IsReading, read_allowed, learned, read_on, read_out, host_game_valid}
use Rattle.bus_bench.proofs.finishing.read_wire.Goals as goal

pub load-requires : goal.load-requires
load-requires c =
    let w = c.args.wire.now.shared in
    let t = c.args.ticket.now in
    read_allowed t.table_id w.table_id w.key (setup_of w.key c.args.terms.now) t.id t.me 0 c.requires.named c.requires.bench c.requires.slots c.requires.host c.requires.all (omega arith)

pub loop-slot-init : goal.loop-slot-init
loop-slot-init c =
    let w = c.args.wire.now.shared in
    let t = c.args.ticket.now in
    let valid = host_game_valid t.table_id w.table_id w.key (setup_of w.key c.args.terms.now) t.me c.requires.named c.requires.bench in
    let count = c.len-live.ensures ∙ c.args.terms.now.starters.ok.0 ∙ (λ i. length (c.requires.named i).starters) in
    let start = learned t.me.0 0 c.load.result c.args.count c.len-live.result valid c.load.ensures.2.0 c.requires.run.1 count in
    (refl, refl, refl, c.load.ensures.0, c.load.ensures.2.1, ap length c.requires.items.0, c.requires.items.1, subst (λ (xs : List Item). IsReading t.me.0 c.args.count xs c.len-live.result) (sym c.requires.items.0) start)

pub load-requires-in-loop-slot : goal.load-requires-in-loop-slot
load-requires-in-loop-slot c =
    let w = c.args.wire.now.shared in
    let l = c.loop-slot in
    let t = c.args.ticket.now in
    let i = l.invariant in
    let me_is : l.ticket.me ≡ t.me = i.4 in
    let named : bench_name w.table_id (setup_of w.key c.args.terms.now) ≡ ticket_bench l.ticket.table_id l.ticket.me = c.requires.named ∙ (λ j. ticket_bench (sym i.3 j) (sym me_is j)) in
    let below : l.slot < c.args.count = c.loop-slot-test.true in
    let run = c.requires.run.0 in
    read_allowed l.ticket.table_id w.table_id w.key (setup_of w.key c.args.terms.now) l.ticket.id l.ticket.me l.slot named c.requires.bench (ap (λ (m : Me Unit Hand). m.1) me_is ∙ c.requires.slots) (ap (λ (m : Me Unit Hand). m.0.role) me_is ∙ c.requires.host)
    (ap (λ (m : Me Unit Hand). length m.0.back) me_is ∙ c.requires.all ∙ ap (λ (m : Me Unit Hand). length m.0.starters) (sym me_is)) (omega arith)

pub loop-slot-preserved : goal.loop-slot-preserved
loop-slot-preserved c =
    let w = c.args.wire.now.shared in
    let l = c.loop-slot in
    let t = c.args.ticket.now in
    let i = l.invariant in
    let valid = host_game_valid t.table_id w.table_id w.key (setup_of w.key c.args.terms.now) t.me c.requires.named c.requires.bench in
    let found : HasRead l.slot c.load-in-loop-slot.result t.me.0 = subst (λ (m : Me Unit Hand). HasRead l.slot c.load-in-loop-slot.result m.0) i.4 c.load-in-loop-slot.ensures.2.0 in
    let word = c.new-tally.ensures in
    let answers : c.deref.result.now ≡ t.me.0.answers = c.deref.ensures.value ∙ (λ j. (c.requires.named j).answers) in
    let shown : c.shown.result ≡ shown_in c.load-in-loop-slot.result (answer_at t.me.0.answers l.slot) = c.shown.ensures ∙ (λ j. shown_in (word j) (c.answer_in.ensures j)) ∙ ap (λ xs. shown_in c.load-in-loop-slot.result (answer_at xs l.slot)) answers in
    let left : c.left-live.result ≡ left_in c.load-in-loop-slot.result l.live = c.left-live.ensures ∙ ap (λ (n : ℕ). left_in n l.live) word in
    let next = read_on t.me.0 c.args.count l.items.items l.live l.slot c.load-in-loop-slot.result c.shown.result c.left-live.result valid i.7 found i.5 c.loop-slot-test.true shown left in (
      refl,
      refl,
      refl,
      c.load-in-loop-slot.ensures.0 ∙ i.3,
      c.load-in-loop-slot.ensures.2.1 ∙ i.4,
      ap length c.push_reserved.ensures.items ∙ length-append l.items.items (c.shown.result ∷ []) ∙ ap (λ (n : ℕ). n + 1) i.5,
      subst (λ (n : ℕ). SLOTS ≤ n) (sym c.push_reserved.ensures.capacity) i.6,
      subst (λ (xs : List Item). IsReading t.me.0 c.args.count xs c.left-live.result) (sym c.push_reserved.ensures.items) next,
    )

pub returns : goal.returns
returns c =
    let i = c.loop-slot.invariant in
    let ge = c.loop-slot-test.false in
    let le = c.loop-slot.auto.slot-end in
    let here : length c.loop-slot.items.items ≡ c.loop-slot.slot = i.5 in
    read_out c.args.ticket.now.me.0 c.args.count c.loop-slot.items.items c.loop-slot.live i.7 (omega arith)
