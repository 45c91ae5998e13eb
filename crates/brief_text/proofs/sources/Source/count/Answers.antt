use Rattle.std.proofs.Common.{sym, inr, arith, ℕ, List}
use Rattle.plan_text.proofs.ValueLemmas.{count_found, count_none}
use Rattle.brief_text.specs.Standing.{place}
use Rattle.brief_text.proofs.StepLemmas.{count_bad, count_long, count_fits}
use Rattle.brief_text.proofs.sources.Source.count.Goals as goal

pub returns-in_default-count-clause-read : goal.returns-in_default-count-clause-read
returns-in_default-count-clause-read c =
    let ends : List ℕ × List ℕ = (c.in-Some.ends.least.now, c.in-Some.ends.greatest.now) in
    inr (count_bad c.next-token.result (place c.args.self.now) (place c.next-token.new.self) c.next-token.ensures.place c.in-Word.word c.in-Word.is c.args.room ends c.in-Some.ensures (count_none ends (sym c.in_default-count.ensures.form)))

pub returns-then-greatest-room-clause-read : goal.returns-then-greatest-room-clause-read
returns-then-greatest-room-clause-read c =
    let ends : List ℕ × List ℕ = (c.in-Some.ends.least.now, c.in-Some.ends.greatest.now) in
    let value = c.in-Some-count.ensures.value in
    inr (count_long c.next-token.result (place c.args.self.now) (place c.next-token.new.self) c.next-token.ensures.place c.in-Word.word c.in-Word.is c.args.room ends c.in-Some.ensures c.in-Some-count.count (count_found ends c.in-Some-count.count (sym value.0) (sym value.1)) (omega arith))

pub returns-clause-read : goal.returns-clause-read
returns-clause-read c =
    let ends : List ℕ × List ℕ = (c.in-Some.ends.least.now, c.in-Some.ends.greatest.now) in
    let value = c.in-Some-count.ensures.value in
    count_fits c.next-token.result (place c.args.self.now) (place c.next-token.new.self) c.next-token.ensures.place c.in-Word.word c.in-Word.is c.args.room ends c.in-Some.ensures c.in-Some-count.count (count_found ends c.in-Some-count.count (sym value.0) (sym value.1)) (omega arith)
