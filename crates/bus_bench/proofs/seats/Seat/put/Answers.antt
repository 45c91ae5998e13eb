use Rattle.std.proofs.Common.{rules, ◌≡◌, ◌∙◌, ap, sym, subst, refl, ℕ, Bool, Option, Some, None}
use Rattle.std.specs.Prelude.{IsTrue}
use Rattle.atomic_table.specs.Seated.{TableId}
use Rattle.atomic_table.specs.Table.{Me}
use Rattle.message_tree.specs.declared.items.Item.{Item}
use Rattle.places.specs.declared.cursor.Place.{Place}
use Rattle.places.specs.Places.{rest_of}
use Rattle.places.specs.Offers.{Begins}
use Rattle.plays.specs.declared.puts.Put.{Put}
use Rattle.plays.specs.Games.{answer_at}
use Rattle.plays.specs.Plays.{item_of, item_with}
use Rattle.bus_bench.specs.declared.hands.Hand.{Hand}
use Rattle.bus_bench.specs.declared.seats.Standing.{Standing}
use Rattle.bus_bench.specs.declared.seats.Standing.TheVariants.{Playing}
use Rattle.bus_bench.specs.Seats.{BenchName}
use Rattle.bus_bench.specs.Tickets.{IsSeat, ticket_bench, setup_of}
use Rattle.bus_bench.proofs.SeatLemmas.{put_allowed, put_done}
use Rattle.bus_bench.proofs.seats.Seat.put.Goals as goal

-- the seat was playing, and had not put
free : (me : Me Unit Hand) (number : ℕ) (place : Place) (own : Option Put) (slot live : ℕ) (standing : Standing) → standing ≡ Playing → own ≡ None → IsSeat me number place own slot live standing → IsSeat me number place None slot live Playing
free me number place own slot live standing plays none s = subst (λ (y : Option Put × Standing). IsSeat me number place y.0 slot live y.1) (λ j. (none j, plays j)) s

-- the item of the put, by the bench's answers
item_here : (bench : BenchName) (id : TableId) (me : Me Unit Hand) (slot : ℕ) (x : Put) (bit : Bool) (item : Item) → bench ≡ ticket_bench id me → bit ≡ answer_at bench.answers slot → item ≡ item_with bit x → item ≡ item_of me.0.answers slot x
item_here bench id me slot x bit item named b i = i ∙ ap (λ (c : Bool). item_with c x) (b ∙ ap (λ (n : BenchName). answer_at n.answers slot) named)

pub fetch_add-requires : goal.fetch_add-requires
fetch_add-requires c =
    let i = c.self.inside in
    let b = c.bench.inside in
    let named : c.args.bench.now ≡ ticket_bench i.ticket.table_id i.ticket.me = c.requires ∙ sym (λ j. (c.self.view_is j).bench) in
    let was_free = free i.ticket.me i.number i.place i.own i.slot i.live i.standing (search rules) (search rules) c.self.invariant in
    let item_is = item_here _ i.ticket.table_id i.ticket.me i.slot c.args.put _ _ named c.answer.ensures c.item.ensures in
    let begins = subst (Begins (rest_of i.place)) item_is ((c.offered.ensures.items c.item.result).1 (c.allows.ensures.0 (subst IsTrue (sym c.if-not-allows.false) refl))) in
    put_allowed i.ticket.table_id b.wire.shared.table_id b.wire.shared.key (setup_of b.wire.shared.key b.terms) i.ticket.id i.ticket.me i.number i.place i.slot i.live _ c.args.put (c.bench.view_is ∙ named) c.bench.invariant was_free begins c.contribution.ensures

pub invariant_of-self : goal.invariant_of-self
invariant_of-self c =
    let i = c.self.inside in
    let plays : i.standing ≡ Playing = search rules in
    let named : c.args.bench.now ≡ ticket_bench i.ticket.table_id i.ticket.me = c.requires ∙ sym (λ j. (c.self.view_is j).bench) in
    let was_free = free i.ticket.me i.number i.place i.own i.slot i.live i.standing plays (search rules) c.self.invariant in
    let item_is = item_here _ i.ticket.table_id i.ticket.me i.slot c.args.put _ _ named c.answer.ensures c.item.ensures in
    let begins = subst (Begins (rest_of i.place)) item_is ((c.offered.ensures.items c.item.result).1 (c.allows.ensures.0 (subst IsTrue (sym c.if-not-allows.false) refl))) in
    let done = put_done i.ticket.me c.fetch_add.new.seat.me i.number i.place i.slot i.live _ c.args.put was_free begins c.contribution.ensures c.fetch_add.ensures.2 in
    subst (IsSeat c.fetch_add.new.seat.me i.number i.place (Some c.args.put) i.slot i.live) (sym plays) done.1
