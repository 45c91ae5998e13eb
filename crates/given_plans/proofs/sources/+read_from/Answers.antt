use Rattle.std.proofs.Common.{◌≡◌, ◌<◌, ◌≤◌, ℕ, get_or, ap, arith}
use Rattle.brief_text.specs.Together.{together}
use Rattle.given_plans.specs.Sources.{HaltsAmong, at_this}
use Rattle.given_plans.specs.ReadingOn.{ReadsOn}
use Rattle.given_plans.proofs.SourceLemmas.{from_here, from_end, reads_nothing, step_reads, step_halts, step_refused, here_refused}
use Rattle.given_plans.proofs.sources.+read_from.Goals as goal

pub returns-then-place-readers-clause-read : goal.returns-then-place-readers-clause-read
returns-then-place-readers-clause-read g t c =
    from_end (λ befores nows. ReadsOn g.I.Input.reader c.args.read befores c.args.read nows) c.args.readers.now c.args.place (omega (arith, c.if-place-readers.true)) (reads_nothing g.I.Input.reader c.args.read)

within : (place size : ℕ) → place ≤ size → (place ≡ size → ⊥) → place < size
within place size most other = omega (arith, most, other)

pub returns-in-Ok-clause-read : goal.returns-in-Ok-clause-read
returns-in-Ok-clause-read g t c =
    let it = c.in-Ok.ensures.read in
    step_reads g.I.Input.reader c.args.read c.in-Ok.read c.args.readers.now c.read_from.new.readers c.args.place (get_or c.args.readers.now c.args.place c.index-readers-place.result) c.read_next.new.next it.0 (within _ _ c.requires c.if-place-readers.false) (ap (λ y. get_or c.args.readers.now c.args.place y) c.index-readers-place.is) it.1 it.2 it.3 c.read_from.result c.read_from.ensures.read

pub returns-in-Ok-clause-stops : goal.returns-in-Ok-clause-stops
returns-in-Ok-clause-stops g t c =
    let it = c.in-Ok.ensures.read in
    step_halts g.I.Input.reader c.args.read c.in-Ok.read c.args.readers.now c.read_from.new.readers c.args.place (get_or c.args.readers.now c.args.place c.index-readers-place.result) c.read_next.new.next it.0 (within _ _ c.requires c.if-place-readers.false) (ap (λ y. get_or c.args.readers.now c.args.place y) c.index-readers-place.is) it.1 it.2 it.3 c.read_from.result c.read_from.ensures.stops

pub returns-in-Ok-clause-text : goal.returns-in-Ok-clause-text
returns-in-Ok-clause-text g t c =
    let it = c.in-Ok.ensures.read in
    step_refused g.I.Input.reader c.args.read c.in-Ok.read c.args.readers.now c.read_from.new.readers c.args.place (get_or c.args.readers.now c.args.place c.index-readers-place.result) c.read_next.new.next it.0 (within _ _ c.requires c.if-place-readers.false) (ap (λ y. get_or c.args.readers.now c.args.place y) c.index-readers-place.is) it.1 it.2 it.3 c.read_from.result c.read_from.ensures.text

pub returns-in-Err-clause-stops : goal.returns-in-Err-clause-stops
returns-in-Err-clause-stops g t c =
    from_here (λ befores nows. HaltsAmong g.I.Input.reader (together c.args.read.briefs) befores c.in-Err.halted.error nows) c.args.readers.now c.args.place (get_or c.args.readers.now c.args.place c.index-readers-place.result) c.read_next.new.next (within _ _ c.requires c.if-place-readers.false) (ap (λ y. get_or c.args.readers.now c.args.place y) c.index-readers-place.is) (λ rest. at_this c.in-Err.ensures.stops)

pub returns-in-Err-clause-text : goal.returns-in-Err-clause-text
returns-in-Err-clause-text g t c =
    here_refused g.I.Input.reader c.args.read c.args.readers.now c.args.place (get_or c.args.readers.now c.args.place c.index-readers-place.result) c.read_next.new.next (within _ _ c.requires c.if-place-readers.false) (ap (λ y. get_or c.args.readers.now c.args.place y) c.index-readers-place.is) c.in-Err.halted.text c.in-Err.ensures.text
