use Rattle.std.proofs.Common.{List, ℕ, ◌++◌, Err, ap, refl, ◌∙◌}
use Rattle.vcd_read.specs.Probes.{Finder}
use Rattle.decoding.specs.DecoderViews.{Follows, StopsAt, StopsAtPiece}
use Rattle.decoding.specs.declared.following.Decoder.{Decoder}
use Rattle.decoding.proofs.DumpLemmas.{refuses_beginning}
use Rattle.decoding.proofs.TakingLemmas.{on_ok, if_err, read_on, piece_stops, piece_refused, piece_unfound}
use Rattle.run_parts.specs.declared.errors.RunError.TheVariants as error
use Rattle.run_parts.proofs.RunLemmas.{on_error}
use Rattle.decoding.proofs.following.Decoder.feed.Goals as goal

pub returns-in_ok-found-in-Err-clause-stops : goal.returns-in_ok-found-in-Err-clause-stops
returns-in_ok-found-in-Err-clause-stops g c = λ start least scl sda text f.
    let sink = g.S.TransactionSink.sink in
    let piece = c.args.piece.now in
    let told = c.args.sink.now in
    let end = c.take-taken.new.self in
    let mid : Decoder = record { reader = c.feed_with.new.self; follower = c.args.self.now.follower } in
    let error = c.in-Err.error in
    piece_refused sink start least scl sda text piece c.args.self.now mid c.follow.new.self c.samples.result.now c.in_ok-found-in-Err.found.items c.as_slice.result.now told end error c.refused_with.result c.take-taken.result f refl (c.in-Err.ensures.fed scl sda text f.cleared f.fed) (λ none. c.in-Err.ensures.memory (ap Err none))
    (refuses_beginning scl sda (text ++ piece) error (c.in-Err.ensures.told scl sda text f.cleared f.fed))
    c.samples.ensures.samples c.as_slice.ensures.value c.in_ok-found-in-Err.ensures.found c.in_ok-found-in-Err.ensures.handed_out c.take-taken.ensures.taken c.take-taken.ensures.stops
    c.refused_with.ensures.memory (λ n. c.refused_with.ensures.refusal n ∙ c.from.ensures)

pub returns-in_err-found-in-Err-clause-stops : goal.returns-in_err-found-in-Err-clause-stops
returns-in_err-found-in-Err-clause-stops g c =
    let sink = g.S.TransactionSink.sink in
    on_error c.from_residual.result error.NoMemory (λ e. (start : _) (least : ℕ) (scl sda : Finder) (text : List ℕ) → Follows sink start least scl sda text c.args.self.now c.args.sink.now → StopsAtPiece sink start least scl sda text c.args.piece.now e c.args.sink.now) c.from_residual.ensures.1
    (λ start least scl sda text f. piece_unfound sink start least scl sda text c.args.piece.now c.args.self.now c.args.sink.now f)

pub returns-in-Ok-clause-stops : goal.returns-in-Ok-clause-stops
returns-in-Ok-clause-stops g c =
    let sink = g.S.TransactionSink.sink in
    let piece = c.args.piece.now in
    let told = c.args.sink.now in
    let end = c.hand_on.new.sink in
    let d : Decoder = c.args.self.now in
    let mid : Decoder = record { reader = c.feed_with.new.self; follower = c.args.self.now.follower } in
    if_err c.hand_on.result (λ e. (start : _) (least : ℕ) (scl sda : Finder) (text : List ℕ) → Follows sink start least scl sda text mid told → StopsAt sink start least scl sda text told e end) (λ e. (start : _) (least : ℕ) (scl sda : Finder) (text : List ℕ) → Follows sink start least scl sda text d told → StopsAtPiece sink start least scl sda text piece e end)
    (λ e h start least scl sda text f.
    let on = read_on sink start least scl sda text (text ++ piece) d mid told f (c.in-Ok.ensures.fed scl sda text f.cleared f.fed) refl in
    piece_stops sink start least scl sda text piece mid told end e on (c.in-Ok.ensures.told scl sda text f.cleared f.fed) (h start least scl sda (text ++ piece) on))
    c.hand_on.ensures.stops

pub returns-in-Ok-clause-fed : goal.returns-in-Ok-clause-fed
returns-in-Ok-clause-fed g c =
    let sink = g.S.TransactionSink.sink in
    let piece = c.args.piece.now in
    let told = c.args.sink.now in
    let d : Decoder = c.args.self.now in
    let mid : Decoder = record { reader = c.feed_with.new.self; follower = c.args.self.now.follower } in
    on_ok c.hand_on.result
    (λ h start least scl sda text f. h start least scl sda (text ++ piece) (read_on sink start least scl sda text (text ++ piece) d mid told f (c.in-Ok.ensures.fed scl sda text f.cleared f.fed) refl))
    c.hand_on.ensures.handed
