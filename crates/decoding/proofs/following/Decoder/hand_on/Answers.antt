use Rattle.std.proofs.Common.{List, ℕ}
use Rattle.vcd_read.specs.Probes.{Finder}
use Rattle.decoding.specs.DecoderViews.{Follows, StopsAt, no_memory}
use Rattle.run_parts.specs.declared.errors.RunError.TheVariants as error
use Rattle.decoding.proofs.TakingLemmas.{goes_on, stops_there}
use Rattle.run_parts.proofs.RunLemmas.{on_error}
use Rattle.decoding.proofs.following.Decoder.hand_on.Goals as goal

pub returns-in_err-found-clause-stops : goal.returns-in_err-found-clause-stops
returns-in_err-found-clause-stops g c =
    let sink = g.S.TransactionSink.sink in
    on_error c.from_residual.result error.NoMemory (λ e. (start : _) (least : ℕ) (scl sda : Finder) (text : List ℕ) → Follows sink start least scl sda text c.args.self.now c.args.sink.now → StopsAt sink start least scl sda text c.args.sink.now e c.args.sink.now) c.from_residual.ensures.1
    (λ start least scl sda text f. no_memory)

pub returns-in_err-take-clause-stops : goal.returns-in_err-take-clause-stops
returns-in_err-take-clause-stops g c =
    let sink = g.S.TransactionSink.sink in
    let e = c.in_err-take.field-0.0 in
    on_error c.from_residual-in_err-take.result e (λ e. (start : _) (least : ℕ) (scl sda : Finder) (text : List ℕ) → Follows sink start least scl sda text c.args.self.now c.args.sink.now → StopsAt sink start least scl sda text c.args.sink.now e c.take.new.self) c.from_residual-in_err-take.ensures.1
    (λ start least scl sda text f. stops_there sink start least scl sda text c.args.self.now c.follow.new.self c.samples.result.now c.in_ok-found.found.items c.as_slice.result.now c.args.sink.now c.take.new.self e f c.samples.ensures.samples c.as_slice.ensures.value c.in_ok-found.ensures.found c.in_err-take.ensures.stops)

pub returns-clause-handed : goal.returns-clause-handed
returns-clause-handed g c = λ start least scl sda text f.
    goes_on g.S.TransactionSink.sink start least scl sda text c.args.self.now (record { reader = c.clear_samples.new.self; follower = c.follow.new.self }) c.samples.result.now c.in_ok-found.found.items c.as_slice.result.now c.args.sink.now c.take.new.self f (c.clear_samples.ensures scl sda text f.cleared f.fed) c.samples.ensures.samples c.as_slice.ensures.value c.in_ok-found.ensures.found (c.in_ok-found.ensures.handed_out f.out) c.in_ok-take.ensures.taken
