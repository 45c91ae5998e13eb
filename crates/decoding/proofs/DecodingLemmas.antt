-- What the loop over a dump keeps.
use Rattle.std.proofs.Common.{◌≡◌, sym, ℕ, ◌+◌, ◌<◌, ◌≤◌, false, List, [], ◌++◌, length, take, Some, Result, Ok, Err, IfOk, IfErr, suc, subst, length-take, refl, arith}
use Rattle.std.specs.Io.KnownBytes.{Consumes}
use Rattle.decoding.specs.Decoding.{BeginsWith, AreAllEnded, DecodesDump, DecodesAll, HaltsAtDecoding, at_dump, at_both, at_sink}
use Rattle.decoding.specs.Decoding.{at_end as sink_stops_at_end}
use Rattle.decoding.specs.DecoderViews.{IsNew, Follows, FollowsAll, StopsAtPiece, StopsAtEnd, refused, both, within, at_end}
use Rattle.decoding.specs.Dumps.{PassesSoFar, HasBegun, HaltsAtDump, given_by_then, refused_within, refused_at_end}
use Rattle.decoding.specs.Sinks.{Sink, no_call}
use Rattle.decoding.specs.declared.following.Decoder.{Decoder}
use Rattle.run_parts.specs.Devices.{Reader, next_read}
use Rattle.run_parts.specs.Reading.{ReadsAll}
use Rattle.run_parts.specs.Runs.{most_reads}
use Rattle.run_parts.specs.declared.errors.RunError.{RunError}
use Rattle.run_parts.proofs.DeviceLemmas.{Reading, nothing_read, one_more_read}
use Rattle.vcd_read.specs.Probes.{Finder}
use Rattle.decoding.proofs.TakingLemmas.{all_taken, begins}

-- so many reads have given this text of a dump, and it was followed
pub record ReadsOn {D S : Type 0} (reader : Reader D) (start : D) (sink : Sink S) (silent : S) (begun : Decoder) (reads : ℕ) (now : D) (decoder : Decoder) (told : S) : Type 0 where
  pub text : List ℕ
  pub reading : Reading reader start reads text now
  pub follows : (least : ℕ) (scl sda : Finder) → IsNew least scl sda begun → FollowsAll sink silent least scl sda text decoder told
  pub passes : (least : ℕ) (scl sda : Finder) → IsNew least scl sda begun → PassesSoFar scl sda text

module _ {D : Type 0} (reader : Reader D) (start : D) where
  module _ {S : Type 0} (sink : Sink S) (silent : S) (begun : Decoder) where
    pub begin : ReadsOn reader start sink silent begun 0 start begun silent
    begin = record {
      text = [];
      reading = nothing_read reader start [] refl;
      follows = λ least scl sda new. record {
        follows = record { cleared = []; fed = new.fed; done = []; taken = no_call; left = new.left; out = new.out };
        all = refl;
      };
      passes = λ least scl sda new. tt;
    }

    -- the whole dump has been read
    pub ends : {R : Type 0} (r : Result R RunError) (reads : ℕ) (last now : D) (decoder : Decoder) (told end : S) → (on : ReadsOn reader start sink silent begun reads last decoder told) → ReadsAll reader most_reads start on.text now → IfOk r (λ it. (silent : S) (least : ℕ) (scl sda : Finder) (text : List ℕ) → Follows sink silent least scl sda text decoder told → DecodesDump sink silent least scl sda text end) → (least : ℕ) (scl sda : Finder) → IsNew least scl sda begun → IfOk r (λ it. DecodesAll sink silent least scl sda reader start now end)
    ends (Ok it) reads last now decoder told end on all h least scl sda new = record { dump = on.text; read = all; passes = on.passes least scl sda new; decodes = h silent least scl sda on.text (on.follows least scl sda new).follows }
    ends (Err e) reads last now decoder told end on all h least scl sda new = tt

    ended : (reads : ℕ) (last now : D) (decoder : Decoder) (told end : S) (e : RunError) → (on : ReadsOn reader start sink silent begun reads last decoder told) → ReadsAll reader most_reads start on.text now → (least : ℕ) (scl sda : Finder) → IsNew least scl sda begun → StopsAtEnd sink silent least scl sda on.text e end → HaltsAtDecoding sink silent least scl sda reader start e now end
    ended reads last now decoder told end e on all least scl sda new (refused refuses begins whole taken) =
        at_dump (refused_at_end all (on.passes least scl sda new) refuses) begins whole taken
    ended reads last now decoder told end e on all least scl sda new (at_end given split taken why) =
        sink_stops_at_end all (on.passes least scl sda new) given split taken why

    pub end_halts : {R : Type 0} (r : Result R RunError) (reads : ℕ) (last now : D) (decoder : Decoder) (told end : S) → (on : ReadsOn reader start sink silent begun reads last decoder told) → ReadsAll reader most_reads start on.text now → IfErr r (λ e. (silent : S) (least : ℕ) (scl sda : Finder) (text : List ℕ) → FollowsAll sink silent least scl sda text decoder told → StopsAtEnd sink silent least scl sda text e end) → (least : ℕ) (scl sda : Finder) → IsNew least scl sda begun → IfErr r (λ e. HaltsAtDecoding sink silent least scl sda reader start e now end)
    end_halts (Ok it) reads last now decoder told end on all h least scl sda new = tt
    end_halts (Err e) reads last now decoder told end on all h least scl sda new =
        ended reads last now decoder told end e on all least scl sda new (h silent least scl sda on.text (on.follows least scl sda new))

    -- a read that gave a piece, which was then followed
    pub one_more : (reads n : ℕ) (buf : List ℕ) (before after : D) (decoder grown : Decoder) (told tells : S) → ReadsOn reader start sink silent begun reads before decoder told → reader.gives before (length buf) (Some (take n buf)) after → 0 < n → n ≤ length buf → reader.has_failed after ≡ false → Consumes (reader.remaining before) (reader.remaining after) (take n buf) → ((silent : S) (least : ℕ) (scl sda : Finder) (text : List ℕ) → Follows sink silent least scl sda text decoder told → FollowsAll sink silent least scl sda (text ++ take n buf) grown tells) → ((silent : S) (least : ℕ) (scl sda : Finder) (text : List ℕ) → Follows sink silent least scl sda text decoder told → PassesSoFar scl sda (text ++ take n buf)) → ReadsOn reader start sink silent begun (reads + 1) after grown tells
    one_more reads n buf before after decoder grown told tells on call some most sound lost follows passes = record {
      text = on.text ++ take n buf;
      reading = one_more_read reader start reads (length buf) n on.text buf (on.text ++ take n buf) before after on.reading call some most sound lost refl;
      follows = λ least scl sda new. follows silent least scl sda on.text (on.follows least scl sda new).follows;
      passes = λ least scl sda new. passes silent least scl sda on.text (on.follows least scl sda new).follows;
    }

    -- a read that gave a piece, at which the dump is refused or the sink stops
    pub feed_halts : (reads n : ℕ) (buf : List ℕ) (before after : D) (decoder : Decoder) (told end : S) (e : RunError) → (on : ReadsOn reader start sink silent begun reads before decoder told) → reads < most_reads → reader.gives before (length buf) (Some (take n buf)) after → 0 < n → n ≤ length buf → reader.has_failed after ≡ false → (least : ℕ) (scl sda : Finder) → IsNew least scl sda begun → StopsAtPiece sink silent least scl sda on.text (take n buf) e end → HaltsAtDecoding sink silent least scl sda reader start e after end
    feed_halts reads n buf before after decoder told end e on few call some most sound least scl sda new (refused refuses begins whole taken) =
        let long : 0 < length (take n buf) = omega (arith, length-take n buf) in
        let begun : HasBegun reader scl sda start reads on.text before = record { given = on.reading.read; passes = on.passes least scl sda new } in
        at_dump (refused_within few begun call long sound refuses) begins whole taken
    feed_halts reads n buf before after decoder told end e on few call some most sound least scl sda new (both refuses begins whole taken why memory) =
        let long : 0 < length (take n buf) = omega (arith, length-take n buf) in
        let begun : HasBegun reader scl sda start reads on.text before = record { given = on.reading.read; passes = on.passes least scl sda new } in
        at_both (refused_within few begun call long sound refuses) begins whole taken why memory
    feed_halts reads n buf before after decoder told end e on few call some most sound least scl sda new (within passes begins taken why) =
        let long : 0 < length (take n buf) = omega (arith, length-take n buf) in
        at_sink {reads = suc reads} (omega (arith, few)) (record { given = next_read on.reading.read call long sound; passes = passes }) begins taken why

    -- the dump goes no further after these reads
    pub reads_halt : (reads : ℕ) (last now : D) (decoder : Decoder) (told : S) (e : RunError) → (on : ReadsOn reader start sink silent begun reads last decoder told) → (least : ℕ) (scl sda : Finder) → IsNew least scl sda begun → (halts : HasBegun reader scl sda start reads on.text last → HaltsAtDump reader scl sda start e now) → ((begun : HasBegun reader scl sda start reads on.text last) → given_by_then reader (halts begun) ≡ on.text) → HaltsAtDecoding sink silent least scl sda reader start e now told
    reads_halt reads last now decoder told e on least scl sda new halts given =
        let begun : HasBegun reader scl sda start reads on.text last = record { given = on.reading.read; passes = on.passes least scl sda new } in
        let all = on.follows least scl sda new in
        let same = sym (given begun) in
        at_dump (halts begun)
        (subst (λ (text : List ℕ). BeginsWith least scl sda text all.follows.done) same (begins sink silent least scl sda on.text decoder told all.follows))
        (λ n. subst (λ (text : List ℕ). AreAllEnded least scl sda text all.follows.done) same (all_taken sink silent least scl sda on.text decoder told all))
        all.follows.taken
