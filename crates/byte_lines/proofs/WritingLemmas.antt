-- What lines that are written as they come say, once the writer has them.
use Rattle.std.proofs.Common.{◌≡◌, ◌≢◌, ◌≤◌, ◌⊎◌, inl, inr, ℕ, ◌+◌, Bool, true, false, List, [], ◌++◌, length, length-append, Result, Ok, Err, IfOk, IfErr, OnOk, string_bytes, ap, sym, ◌∙◌, subst, refl, append_assoc, append-nil, arith}
use Rattle.byte_lines.specs.Decoded.{DecodeOf}
use Rattle.byte_lines.specs.DecodedRuns.{FirstLines, LinesOfDump, TellsDecoded, HaltsDecoded}
use Rattle.byte_lines.specs.DecodedRuns.{at_dump as halts_at_dump, at_both as halts_at_both, at_writer, at_end as halts_at_end, at_report}
use Rattle.byte_lines.specs.Lines.{decode_lines, decode_report, count_line, stopped}
use Rattle.byte_lines.specs.Writing.{KeepsLines, WritesLines, TakesLines, FailsAtLines, NoRoom, lines_with, writing_sink}
use Rattle.byte_lines.specs.declared.writing.ByteCounts.{ByteCounts}
use Rattle.byte_lines.specs.declared.writing.ByteWriting.{ByteWriting}
use Rattle.byte_lines.proofs.DecodedLemmas.{decode_lines-append, stopped-append}
use Rattle.capture_check.specs.Transactions.{Recorded}
use Rattle.decoding.specs.Decoding.{AreAllEnded, BeginsWith, DecodesAll, HaltsAtDecoding, at_dump, at_both, at_sink, at_end}
use Rattle.decoding.specs.Dumps.{HaltsAtDump, HasBegun, no_memory, given_by_then}
use Rattle.decoding.specs.Parts.{IsLeft}
use Rattle.decoding.specs.Sinks.{Sink, HasTaken, no_call, next_call}
use Rattle.decoding.proofs.PartLemmas.{all_left, none_left, part_written, part_stops, front_of_stop, first_begin}
use Rattle.pulses.specs.Following.{quiet_transactions}
use Rattle.run_parts.specs.Devices.{Reader, Writer, by_parts}
use Rattle.run_parts.specs.Runs.{ReadsText, most_reads}
use Rattle.run_parts.specs.Writing.{WritesAll, WritesFront, WritingStops}
use Rattle.run_parts.specs.declared.errors.RunError.{RunError}
use Rattle.run_parts.specs.declared.errors.RunError.TheVariants as error
use Rattle.vcd_read.specs.declared.samples.Sample.{Sample}
use Rattle.vcd_read.specs.Dumps.{samples_of}
use Rattle.vcd_read.specs.Probes.{Finder}

module _ {O : Type 0} (writer : Writer O) where
  -- nothing was told and nothing is kept
  pub record IsSilent (start : ByteWriting O) : Type 0 where
    pub lines : string_bytes start.telling.lines ≡ []
    pub transactions : start.telling.transactions ≡ 0
    pub stopped : start.telling.stopped ≡ 0

  -- the lines of the first of these transactions were written, in parts, and the others are kept
  pub record HasWritten (start : ByteWriting O) (ts : List Recorded) (now : ByteWriting O) : Type 0 where
    pub same_writer : now.out.ghost_name ≡ start.out.ghost_name
    pub told : List Recorded
    pub kept : List Recorded
    pub split : ts ≡ told ++ kept
    pub live : now.live ≡ start.live
    pub none_kept : start.live ≡ true → kept ≡ []
    pub lines : string_bytes now.telling.lines ≡ decode_lines kept
    pub transactions : now.telling.transactions ≡ length ts
    pub stopped : now.telling.stopped ≡ stopped ts
    pub written : (rest : List ℕ) → IsLeft writer start.out.now (decode_lines told ++ rest) rest now.out.now

  module _ (start : ByteWriting O) (silent : IsSilent start) where
    nothing_yet : HasWritten start [] start
    nothing_yet = record {
      same_writer = refl;
      told = [];
      kept = [];
      split = refl;
      live = refl;
      none_kept = λ live. refl;
      lines = silent.lines;
      transactions = silent.transactions;
      stopped = silent.stopped;
      written = λ rest. all_left writer start.out.now rest;
    }

    -- the lines that are there where more come
    lines_there : (ts more : List Recorded) (before : ByteWriting O) → (w : HasWritten start ts before) → lines_with before more ≡ decode_lines (w.kept ++ more)
    lines_there ts more before w = ap (λ (lines : List ℕ). lines ++ decode_lines more) w.lines ∙ sym (decode_lines-append w.kept more)

    all_there : (ts more : List Recorded) (before : ByteWriting O) → (w : HasWritten start ts before) → ts ++ more ≡ w.told ++ (w.kept ++ more)
    all_there ts more before w = ap (λ (us : List Recorded). us ++ more) w.split ∙ append_assoc w.told w.kept more

    -- what is left where lines after those that were written come next
    more_left : (ts next : List Recorded) (before : ByteWriting O) (rest : List ℕ) → (w : HasWritten start ts before) → IsLeft writer start.out.now (decode_lines (w.told ++ next) ++ rest) (decode_lines next ++ rest) before.out.now
    more_left ts next before rest w =
        subst (λ (all : List ℕ). IsLeft writer start.out.now all (decode_lines next ++ rest) before.out.now)
        (sym (append_assoc (decode_lines w.told) (decode_lines next) rest) ∙ ap (λ (all : List ℕ). all ++ rest) (sym (decode_lines-append w.told next)))
        (w.written (decode_lines next ++ rest))

    next_lines : (ts more : List Recorded) (before now : ByteWriting O) → HasWritten start ts before → TakesLines writer before more now → KeepsLines writer before more now ⊎ WritesLines writer before more now → HasWritten start (ts ++ more) now
    next_lines ts more before now w call (inl keeps) = record {
      same_writer = call.same_writer ∙ w.same_writer;
      told = w.told;
      kept = w.kept ++ more;
      split = all_there ts more before w;
      live = call.live ∙ w.live;
      none_kept = λ live. let both : true ≡ false = sym (w.live ∙ live) ∙ keeps.blocks in cc;
      lines = keeps.lines ∙ lines_there ts more before w;
      transactions = omega (arith, w.transactions, call.transactions, length-append ts more);
      stopped = omega (arith, w.stopped, call.stopped, stopped-append ts more);
      written = λ rest. subst (λ (out : O). IsLeft writer start.out.now (decode_lines w.told ++ rest) rest out) (sym keeps.same) (w.written rest);
    }
    next_lines ts more before now w call (inr writes) = record {
      same_writer = call.same_writer ∙ w.same_writer;
      told = w.told ++ (w.kept ++ more);
      kept = [];
      split = all_there ts more before w ∙ sym (append-nil (w.told ++ (w.kept ++ more)));
      live = call.live ∙ w.live;
      none_kept = λ live. refl;
      lines = writes.lines;
      transactions = omega (arith, w.transactions, call.transactions, length-append ts more);
      stopped = omega (arith, w.stopped, call.stopped, stopped-append ts more);
      written = λ rest. part_written writer start.out.now (decode_lines (w.told ++ (w.kept ++ more)) ++ rest) rest (decode_lines (w.kept ++ more)) before.out.now now.out.now
          (more_left ts (w.kept ++ more) before rest w)
          (subst (λ (lines : List ℕ). WritesAll writer before.out.now lines now.out.now) (lines_there ts more before w) writes.written);
    }

    written_by : (ts : List Recorded) (now : ByteWriting O) → HasTaken (writing_sink writer) start ts now → HasWritten start ts now
    written_by _ _ no_call = nothing_yet
    written_by _ now (next_call {ts} {more} {before} taken call) = next_lines ts more before now (written_by ts before taken) call call.lines

    told_lines : (ts : List Recorded) (now : ByteWriting O) → (w : HasWritten start ts now) → WritesAll (by_parts writer) start.out.now (decode_lines w.told) now.out.now
    told_lines ts now w =
        none_left writer start.out.now (decode_lines w.told) now.out.now
        (subst (λ (all : List ℕ). IsLeft writer start.out.now all [] now.out.now) (append-nil (decode_lines w.told)) (w.written []))

    -- the writer failed at the next lines, whatever comes after these
    next_fails : (ts more : List Recorded) (before now : ByteWriting O) (e : RunError) (rest : List ℕ) → HasWritten start ts before → FailsAtLines writer before more e now → WritingStops (by_parts writer) start.out.now (decode_lines (ts ++ more) ++ rest) e now.out.now
    next_fails ts more before now e rest w f =
        subst (λ (us : List Recorded). WritingStops (by_parts writer) start.out.now (decode_lines us ++ rest) e now.out.now) (sym (all_there ts more before w))
        (part_stops writer start.out.now (decode_lines (w.told ++ (w.kept ++ more)) ++ rest) rest (decode_lines (w.kept ++ more)) before.out.now now.out.now e
        (more_left ts (w.kept ++ more) before rest w)
        (subst (λ (lines : List ℕ). WritingStops writer before.out.now lines e now.out.now) (lines_there ts more before w) f.stops))

    lines_fail : (ts more : List Recorded) (before now : ByteWriting O) (e : RunError) → HasWritten start ts before → FailsAtLines writer before more e now → WritingStops (by_parts writer) start.out.now (decode_lines (ts ++ more)) e now.out.now
    lines_fail ts more before now e w f =
        subst (λ (all : List ℕ). WritingStops (by_parts writer) start.out.now all e now.out.now) (append-nil (decode_lines (ts ++ more))) (next_fails ts more before now e [] w f)

    -- ---- why the run halts

    -- why a call stops: memory ran out and nothing was written, or the writer failed
    Reason : ByteWriting O → List Recorded → RunError → ByteWriting O → Type 0
    Reason last more e told = NoRoom writer last more e told ⊎ FailsAtLines writer last more e told

    same_name : (last told : ByteWriting O) (more : List Recorded) (e : RunError) → Reason last more e told → told.out.ghost_name ≡ last.out.ghost_name
    unfolding Reason
    same_name last told more e (inl room) = room.same_writer
    same_name last told more e (inr fails) = fails.same_writer

    module _ (least : ℕ) (scl sda : Finder) {E : Type 0} (second : Reader E) (before : E) where
      abbrev Halts : RunError → E → O → Type 0
      Halts error now end = HaltsDecoded least scl sda second writer before start.out.now start.live error now end

      abbrev first_lines : (text : List ℕ) (ts : List Recorded) → BeginsWith least scl sda text ts → FirstLines least scl sda text (decode_lines ts)
      first_lines text ts ended = record { transactions = ts; ended = ended; same = refl }

      abbrev told_first : (text : List ℕ) (ts : List Recorded) (now : ByteWriting O) → BeginsWith least scl sda text ts → (w : HasWritten start ts now) → FirstLines least scl sda text (decode_lines w.told)
      told_first text ts now begins w =
          first_lines text w.told (first_begin least scl sda text w.told w.kept (subst (λ (us : List Recorded). BeginsWith least scl sda text us) w.split begins))

      told_all : (text : List ℕ) (ts : List Recorded) (now : ByteWriting O) → AreAllEnded least scl sda text ts → (w : HasWritten start ts now) → start.live ≡ true → AreAllEnded least scl sda text w.told
      told_all text ts now all w live =
          subst (λ (us : List Recorded). AreAllEnded least scl sda text us)
          (w.split ∙ (ap (λ (us : List Recorded). w.told ++ us) (w.none_kept live) ∙ append-nil w.told)) all

      both : (ts more : List Recorded) (now : E) (e second_error : RunError) (last told : ByteWriting O) → (halts : HaltsAtDump second scl sda before e now) → BeginsWith least scl sda (given_by_then second halts) (ts ++ more) → (e ≢ error.NoMemory → AreAllEnded least scl sda (given_by_then second halts) (ts ++ more)) → HasWritten start ts last → (second_error ≡ error.NoMemory → e ≡ error.NoMemory) → Reason last more second_error told → Halts e now told.out.now
      unfolding Reason
      both ts more now e second_error last told halts begins all w memory (inl room) =
          subst (λ (out : O). Halts e now out) (sym room.same)
          (halts_at_dump halts (told_first (given_by_then second halts) ts last (first_begin least scl sda (given_by_then second halts) ts more begins) w) (λ live other. absurd (other (memory room.no_memory))) (told_lines ts last w))
      both ts more now e second_error last told halts begins all w memory (inr fails) =
          halts_at_both halts (first_lines (given_by_then second halts) (ts ++ more) begins) all
          (front_of_stop (by_parts writer) start.out.now told.out.now (decode_lines (ts ++ more)) second_error (lines_fail ts more last told second_error w fails))

      within : (text : List ℕ) (ts more : List Recorded) (reads : ℕ) (now : E) (e : RunError) (last told : ByteWriting O) → reads ≤ most_reads → HasBegun second scl sda before reads text now → BeginsWith least scl sda text (ts ++ more) → HasWritten start ts last → Reason last more e told → Halts e now told.out.now
      unfolding Reason
      within text ts more reads now e last told few begun begins w (inl room) =
          subst (λ (out : O). Halts e now out) (sym room.same)
          (subst (λ (d : RunError). Halts d now last.out.now) (sym room.no_memory)
          (halts_at_dump (no_memory few begun) (told_first text ts last (first_begin least scl sda text ts more begins) w) (λ live other. absurd (other refl)) (told_lines ts last w)))
      within text ts more reads now e last told few begun begins w (inr fails) =
          at_writer few begun (first_lines text (ts ++ more) begins) (lines_fail ts more last told e w fails)

      told_of_dump : (dump : List ℕ) (samples : List Sample) (ts more : List Recorded) (now : ByteWriting O) → samples_of scl sda dump ≡ Ok samples → quiet_transactions least samples ≡ ts ++ more → (w : HasWritten start ts now) → LinesOfDump least scl sda dump (decode_lines w.told)
      told_of_dump dump samples ts more now given split w = record {
        samples = samples;
        read = given;
        transactions = w.told;
        later = w.kept ++ more;
        split = split ∙ all_there ts more now w;
        same = refl;
      }

      report_of : (dump : List ℕ) (samples : List Sample) (ts : List Recorded) → samples_of scl sda dump ≡ Ok samples → quiet_transactions least samples ≡ ts → DecodeOf least scl sda dump (decode_report ts)
      report_of dump samples ts given same = record { samples = samples; read = given; lines = ap decode_report (sym same) }

      at_last : (text : List ℕ) (samples : List Sample) (ts more : List Recorded) (now : E) (e : RunError) (last told : ByteWriting O) → ReadsText second before text now → samples_of scl sda text ≡ Ok samples → quiet_transactions least samples ≡ ts ++ more → HasWritten start ts last → Reason last more e told → Halts e now told.out.now
      unfolding Reason
      at_last text samples ts more now e last told read given split w (inl room) =
          subst (λ (out : O). Halts e now out) (sym room.same)
          (subst (λ (d : RunError). Halts d now last.out.now) (sym room.no_memory)
          (halts_at_end read (told_of_dump text samples ts more last given split w) (told_lines ts last w)))
      at_last text samples ts more now e last told read given split w (inr fails) =
          at_report read (report_of text samples (ts ++ more) given split) (next_fails ts more last told e (count_line (stopped (ts ++ more))) w fails)

      pub halts_decoded : (now : E) (e : RunError) (told : ByteWriting O) → HaltsAtDecoding (writing_sink writer) start least scl sda second before e now told → (told.out.ghost_name ≡ start.out.ghost_name) × Halts e now told.out.now
      unfolding Reason
      halts_decoded now e told (at_dump {ts = ts} halts begins all taken) =
          let w = written_by ts told taken in
          let text = given_by_then second halts in
          (w.same_writer, halts_at_dump halts (told_first text ts told begins w) (λ live other. told_all text ts told (all other) w live) (told_lines ts told w))
      halts_decoded now e told (at_both {second_error = second_error} {ts = ts} {more = more} {last = last} halts begins all taken why memory) =
          let w = written_by ts last taken in
          (same_name last told more second_error why ∙ w.same_writer, both ts more now e second_error last told halts begins all w memory why)
      halts_decoded now e told (at_sink {reads = reads} {text = text} {ts = ts} {more = more} {last = last} few begun begins taken why) =
          let w = written_by ts last taken in
          (same_name last told more e why ∙ w.same_writer, within text ts more reads now e last told few begun begins w why)
      halts_decoded now e told (at_end {text = text} {samples = samples} {ts = ts} {more = more} {last = last} read passes given split taken why) =
          let w = written_by ts last taken in
          (same_name last told more e why ∙ w.same_writer, at_last text samples ts more now e last told read given split w why)

      -- ---- the dump was read to its end, and the lines that are kept are left, and the one that counts

      module _ (now : E) (told : ByteWriting O) (all : DecodesAll (writing_sink writer) start least scl sda second before now told) where
        abbrev in_dump : List Recorded
        in_dump = quiet_transactions least all.decodes.samples

        abbrev at_its_end : HasWritten start in_dump told
        at_its_end = written_by in_dump told all.decodes.taken

        pub same_to_end : told.out.ghost_name ≡ start.out.ghost_name
        same_to_end = at_its_end.same_writer

        -- what is left to be written
        last_lines : string_bytes told.telling.lines ++ count_line told.telling.stopped ≡ decode_lines at_its_end.kept ++ count_line (stopped in_dump)
        last_lines =
            ap (λ (lines : List ℕ). lines ++ count_line told.telling.stopped) at_its_end.lines
            ∙ ap (λ (n : ℕ). decode_lines at_its_end.kept ++ count_line n) at_its_end.stopped

        last_left : IsLeft writer start.out.now (decode_report in_dump) ((decode_lines at_its_end.kept ++ count_line (stopped in_dump)) ++ []) told.out.now
        last_left =
            subst (λ (left : List ℕ). IsLeft writer start.out.now (decode_report in_dump) left told.out.now) (sym (append-nil (decode_lines at_its_end.kept ++ count_line (stopped in_dump))))
            (subst (λ (us : List Recorded). IsLeft writer start.out.now (decode_lines us ++ count_line (stopped in_dump)) (decode_lines at_its_end.kept ++ count_line (stopped in_dump)) told.out.now) (sym at_its_end.split)
            (more_left in_dump at_its_end.kept told (count_line (stopped in_dump)) at_its_end))

        abbrev whole : DecodeOf least scl sda all.dump (decode_report in_dump)
        whole = record { samples = all.decodes.samples; read = all.decodes.read; lines = refl }

        ends_decoded : (it : ByteCounts) (end : O) → it.transactions ≡ told.telling.transactions → it.stopped ≡ told.telling.stopped → WritesAll writer told.out.now (string_bytes told.telling.lines ++ count_line told.telling.stopped) end → TellsDecoded least scl sda second writer before start.out.now it now end
        ends_decoded it end same_transactions same_stopped written = record {
          dump = all.dump;
          read = all.read;
          report = decode_report in_dump;
          decode = whole;
          transactions = same_transactions ∙ at_its_end.transactions;
          stopped = same_stopped ∙ at_its_end.stopped;
          written = none_left writer start.out.now (decode_report in_dump) end
              (part_written writer start.out.now (decode_report in_dump) [] (decode_lines at_its_end.kept ++ count_line (stopped in_dump)) told.out.now end last_left
              (subst (λ (lines : List ℕ). WritesAll writer told.out.now lines end) last_lines written));
        }

        -- memory ran out for the last line
        no_last : Halts error.NoMemory now told.out.now
        no_last =
            halts_at_end all.read
            (told_of_dump all.dump all.decodes.samples in_dump [] told all.decodes.read (sym (append-nil in_dump)) at_its_end)
            (told_lines in_dump told at_its_end)

        last_fails : (e : RunError) (end : O) → WritingStops writer told.out.now (string_bytes told.telling.lines ++ count_line told.telling.stopped) e end → Halts e now end
        last_fails e end stops =
            at_report all.read whole
            (part_stops writer start.out.now (decode_report in_dump) [] (decode_lines at_its_end.kept ++ count_line (stopped in_dump)) told.out.now end e last_left
            (subst (λ (lines : List ℕ). WritingStops writer told.out.now lines e end) last_lines stops))

        -- ---- how the writing of what is left ends

        abbrev left : List ℕ
        left = string_bytes told.telling.lines ++ count_line told.telling.stopped

        pub ends : (r : Result ByteCounts RunError) (end : O) → IfOk r (λ it. it.transactions ≡ told.telling.transactions) → IfOk r (λ it. it.stopped ≡ told.telling.stopped) → OnOk r (WritesAll writer told.out.now left end) → IfOk r (λ it. TellsDecoded least scl sda second writer before start.out.now it now end)
        ends (Ok it) end same_transactions same_stopped written = ends_decoded it end same_transactions same_stopped written
        ends (Err e) end same_transactions same_stopped written = tt

        halts_last : (e : RunError) (end : O) → ((e ≡ error.NoMemory) × (end ≡ told.out.now)) ⊎ WritingStops writer told.out.now left e end → Halts e now end
        halts_last e end (inl memory) =
            subst (λ (out : O). Halts e now out) (sym memory.1) (subst (λ (d : RunError). Halts d now told.out.now) (sym memory.0) no_last)
        halts_last e end (inr stops) = last_fails e end stops

        pub halts : (r : Result ByteCounts RunError) (end : O) → IfErr r (λ e. ((e ≡ error.NoMemory) × (end ≡ told.out.now)) ⊎ WritingStops writer told.out.now left e end) → IfErr r (λ e. Halts e now end)
        halts (Ok it) end why = tt
        halts (Err e) end why = halts_last e end why
