use Rattle.std.proofs.Common.{rules, ◌≡◌, ◌+◌, ◌∙◌, ap, sym, subst, ℕ, Option, Some, None}
use Rattle.atomic_table.specs.Table.{Me}
use Rattle.places.specs.declared.cursor.Place.{Place}
use Rattle.plays.specs.declared.puts.Put.{Put}
use Rattle.plays.specs.Words.{arrivals_in}
use Rattle.bus_bench.specs.declared.hands.Hand.{Hand}
use Rattle.bus_bench.specs.declared.seats.Standing.{Standing}
use Rattle.bus_bench.specs.declared.seats.Standing.TheVariants.{Playing}
use Rattle.bus_bench.specs.declared.errors.Sight.TheVariants as sight
use Rattle.bus_bench.specs.Tickets.{IsSeat, ticket_bench, setup_of}
use Rattle.bus_bench.proofs.SeatLemmas.{see_allowed, still_waits, never_waits_alone, complete_slot, lost_now, on_now, begins_on, saw_lost, saw_on, saw_at_bench, not_one, is_one}
use Rattle.bus_bench.proofs.seats.Seat.see.Goals as goal

-- the seat was playing, and had put
free : (me : Me Unit Hand) (number : ℕ) (place : Place) (own : Option Put) (x : Put) (slot live : ℕ) (standing : Standing) → standing ≡ Playing → own ≡ Some x → IsSeat me number place own slot live standing → IsSeat me number place (Some x) slot live Playing
free me number place own x slot live standing plays some s = subst (λ (y : Option Put × Standing). IsSeat me number place y.0 slot live y.1) (λ j. (some j, plays j)) s

pub load-word-requires : goal.load-word-requires
load-word-requires c =
    let i = c.self.inside in
    let b = c.bench.inside in
    let named : c.args.bench.now ≡ ticket_bench i.ticket.table_id i.ticket.me = c.requires ∙ sym (λ j. (c.self.view_is j).bench) in
    let was = free i.ticket.me i.number i.place i.own c.in-Some.own i.slot i.live i.standing (search rules) c.in-Some.is c.self.invariant in
    see_allowed i.ticket.table_id b.wire.shared.table_id b.wire.shared.key (setup_of b.wire.shared.key b.terms) i.ticket.id i.ticket.me i.number i.place i.slot i.live c.in-Some.own (c.bench.view_is ∙ named) c.bench.invariant was

pub returns-then-arrivals-self-clause-seen : goal.returns-then-arrivals-self-clause-seen
returns-then-arrivals-self-clause-seen c =
    let i = c.self.inside in
    let plays : i.standing ≡ Playing = search rules in
    let was = free i.ticket.me i.number i.place i.own c.in-Some.own i.slot i.live i.standing plays c.in-Some.is c.self.invariant in
    let arrived : c.arrivals.result ≡ arrivals_in c.load-word.result = c.arrivals.ensures ∙ ap arrivals_in c.new-tally.ensures in
    still_waits i.ticket.table_id c.load-word.new.seat.table_id i.ticket.me c.load-word.new.seat.me i.number i.place c.in-Some.own i.slot i.live i.standing _ c.load-word.result c.args.self.now plays was c.load-word.ensures.0 c.load-word.ensures.2 arrived c.if-arrivals-self.true c.self.view_is

pub returns-then-arrivals-self-clause-alone : goal.returns-then-arrivals-self-clause-alone
returns-then-arrivals-self-clause-alone c one same =
    let i = c.self.inside in
    let plays : i.standing ≡ Playing = search rules in
    let was = free i.ticket.me i.number i.place i.own c.in-Some.own i.slot i.live i.standing plays c.in-Some.is c.self.invariant in
    let arrived : c.arrivals.result ≡ arrivals_in c.load-word.result = c.arrivals.ensures ∙ ap arrivals_in c.new-tally.ensures in
    never_waits_alone i.ticket.table_id i.ticket.me c.load-word.new.seat.me i.number i.place c.in-Some.own i.slot i.live i.standing _ c.load-word.result c.args.self.now was c.load-word.ensures.2 arrived c.if-arrivals-self.true c.self.view_is one

pub invariant_of-self-then-not-are_one : goal.invariant_of-self-then-not-are_one
invariant_of-self-then-not-are_one c =
    let i = c.self.inside in
    let plays : i.standing ≡ Playing = search rules in
    let named : c.args.bench.now ≡ ticket_bench i.ticket.table_id i.ticket.me = c.requires ∙ sym (λ j. (c.self.view_is j).bench) in
    let was = free i.ticket.me i.number i.place i.own c.in-Some.own i.slot i.live i.standing plays c.in-Some.is c.self.invariant in
    let arrived : c.arrivals.result ≡ arrivals_in c.load-word.result = c.arrivals.ensures ∙ ap arrivals_in c.new-tally.ensures in
    let done = complete_slot i.ticket.table_id i.ticket.me c.load-word.new.seat.me i.number i.place c.in-Some.own i.slot i.live c.load-word.result _ _ c.args.bench.now _ c.shown-shown.result c.item.result was c.load-word.ensures.2 arrived c.if-arrivals-self.false named c.answer-answer.ensures c.new-tally.ensures c.shown-shown.ensures c.item.ensures in
    lost_now i.ticket.me c.load-word.new.seat.me i.number i.place i.place c.in-Some.own i.slot i.live c.load-word.result (i.slot + 1) c.left-self-inside.result None c.shown-shown.result c.item.result done (not_one _ _ _ c.are_one.ensures c.if-not-are_one.true)

pub returns-then-not-are_one-clause-seen : goal.returns-then-not-are_one-clause-seen
returns-then-not-are_one-clause-seen c =
    let i = c.self.inside in
    let plays : i.standing ≡ Playing = search rules in
    let named : c.args.bench.now ≡ ticket_bench i.ticket.table_id i.ticket.me = c.requires ∙ sym (λ j. (c.self.view_is j).bench) in
    let was = free i.ticket.me i.number i.place i.own c.in-Some.own i.slot i.live i.standing plays c.in-Some.is c.self.invariant in
    let arrived : c.arrivals.result ≡ arrivals_in c.load-word.result = c.arrivals.ensures ∙ ap arrivals_in c.new-tally.ensures in
    let done = complete_slot i.ticket.table_id i.ticket.me c.load-word.new.seat.me i.number i.place c.in-Some.own i.slot i.live c.load-word.result _ _ c.args.bench.now _ c.shown-shown.result c.item.result was c.load-word.ensures.2 arrived c.if-arrivals-self.false named c.answer-answer.ensures c.new-tally.ensures c.shown-shown.ensures c.item.ensures in
    saw_lost i.ticket.table_id c.load-word.new.seat.table_id i.ticket.me c.load-word.new.seat.me i.number i.place c.in-Some.own i.slot i.live c.load-word.result i.standing c.shown-shown.result c.item.result c.args.self.now plays c.load-word.ensures.0 done (not_one _ _ _ c.are_one.ensures c.if-not-are_one.true) c.self.view_is

pub after-self-inside-requires : goal.after-self-inside-requires
after-self-inside-requires c =
    let i = c.self.inside in
    let plays : i.standing ≡ Playing = search rules in
    let named : c.args.bench.now ≡ ticket_bench i.ticket.table_id i.ticket.me = c.requires ∙ sym (λ j. (c.self.view_is j).bench) in
    let was = free i.ticket.me i.number i.place i.own c.in-Some.own i.slot i.live i.standing plays c.in-Some.is c.self.invariant in
    let arrived : c.arrivals.result ≡ arrivals_in c.load-word.result = c.arrivals.ensures ∙ ap arrivals_in c.new-tally.ensures in
    let done = complete_slot i.ticket.table_id i.ticket.me c.load-word.new.seat.me i.number i.place c.in-Some.own i.slot i.live c.load-word.result _ _ c.args.bench.now _ c.shown-shown.result c.item.result was c.load-word.ensures.2 arrived c.if-arrivals-self.false named c.answer-answer.ensures c.new-tally.ensures c.shown-shown.ensures c.item.ensures in
    begins_on i.ticket.me c.load-word.new.seat.me i.number i.place c.in-Some.own i.slot i.live c.load-word.result c.shown-shown.result c.item.result done (is_one _ _ _ c.are_one.ensures c.if-not-are_one.false)

pub invariant_of-self-2 : goal.invariant_of-self-2
invariant_of-self-2 c =
    let i = c.self.inside in
    let plays : i.standing ≡ Playing = search rules in
    let named : c.args.bench.now ≡ ticket_bench i.ticket.table_id i.ticket.me = c.requires ∙ sym (λ j. (c.self.view_is j).bench) in
    let was = free i.ticket.me i.number i.place i.own c.in-Some.own i.slot i.live i.standing plays c.in-Some.is c.self.invariant in
    let arrived : c.arrivals.result ≡ arrivals_in c.load-word.result = c.arrivals.ensures ∙ ap arrivals_in c.new-tally.ensures in
    let done = complete_slot i.ticket.table_id i.ticket.me c.load-word.new.seat.me i.number i.place c.in-Some.own i.slot i.live c.load-word.result _ _ c.args.bench.now _ c.shown-shown.result c.item.result was c.load-word.ensures.2 arrived c.if-arrivals-self.false named c.answer-answer.ensures c.new-tally.ensures c.shown-shown.ensures c.item.ensures in
    on_now i.ticket.me c.load-word.new.seat.me i.number i.place c.after-self-inside.result c.in-Some.own i.slot i.live c.load-word.result _ c.left-self-inside.result c.shown-shown.result c.item.result c.standing_on-self-inside.result done (is_one _ _ _ c.are_one.ensures c.if-not-are_one.false) c.new-tally.ensures c.left-self-inside.ensures c.after-self-inside.ensures c.standing_on-self-inside.ensures

pub returns-clause-seen : goal.returns-clause-seen
returns-clause-seen c =
    let i = c.self.inside in
    let plays : i.standing ≡ Playing = search rules in
    let named : c.args.bench.now ≡ ticket_bench i.ticket.table_id i.ticket.me = c.requires ∙ sym (λ j. (c.self.view_is j).bench) in
    let was = free i.ticket.me i.number i.place i.own c.in-Some.own i.slot i.live i.standing plays c.in-Some.is c.self.invariant in
    let arrived : c.arrivals.result ≡ arrivals_in c.load-word.result = c.arrivals.ensures ∙ ap arrivals_in c.new-tally.ensures in
    let done = complete_slot i.ticket.table_id i.ticket.me c.load-word.new.seat.me i.number i.place c.in-Some.own i.slot i.live c.load-word.result _ _ c.args.bench.now _ c.shown-shown.result c.item.result was c.load-word.ensures.2 arrived c.if-arrivals-self.false named c.answer-answer.ensures c.new-tally.ensures c.shown-shown.ensures c.item.ensures in
    saw_on i.ticket.table_id c.load-word.new.seat.table_id i.ticket.me c.load-word.new.seat.me i.number i.place c.in-Some.own i.slot i.live c.load-word.result i.standing c.standing_on-self-inside.result c.shown-shown.result c.item.result c.args.self.now plays c.load-word.ensures.0 done (is_one _ _ _ c.are_one.ensures c.if-not-are_one.false) c.standing_on-self-inside.ensures c.self.view_is

pub returns-clause-bench : goal.returns-clause-bench
returns-clause-bench c = saw_at_bench (sight.On c.shown-shown.result) _ _ (returns-clause-seen c)

pub returns-then-not-are_one-clause-bench : goal.returns-then-not-are_one-clause-bench
returns-then-not-are_one-clause-bench c = saw_at_bench (sight.Lost c.shown-shown.result) _ _ (returns-then-not-are_one-clause-seen c)

pub returns-then-arrivals-self-clause-bench : goal.returns-then-arrivals-self-clause-bench
returns-then-arrivals-self-clause-bench c = saw_at_bench sight.Waiting _ _ (returns-then-arrivals-self-clause-seen c)
