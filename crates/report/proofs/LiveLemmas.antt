-- What lines that are written as they come say, once the writer has them.
use Rattle.std.proofs.Common.{◌≡◌, ◌≢◌, zero, suc, string_bytes, ◌≤◌, ◌⊎◌, inl, inr, ℕ, ◌+◌, List, [], ◌∷◌, ◌++◌, length, length-append, Ok, ap, sym, ◌∙◌, subst, refl, append_assoc, append-nil, arith}
use Rattle.plan_core.specs.Contents.{Contents}
use Rattle.plan_core.specs.PlanContents.{plan_contents}
use Rattle.vcd_read.specs.declared.samples.Sample.{Sample}
use Rattle.vcd_read.specs.Dumps.{samples_of}
use Rattle.vcd_read.specs.Probes.{Finder}
use Rattle.pulses.specs.Following.{quiet_transactions}
use Rattle.capture_check.specs.Transactions.{Recorded}
use Rattle.decoding.specs.Decoding.{BeginsWith, AreAllEnded, DecodesAll, HaltsAtDecoding, at_dump, at_both, at_sink, at_end}
use Rattle.decoding.specs.Dumps.{HaltsAtDump, HasBegun, given_by_then, no_memory}
use Rattle.decoding.specs.Explaining.{explaining_sink}
use Rattle.decoding.specs.Sinks.{Sink, HasTaken, no_call, next_call}
use Rattle.decoding.specs.declared.sinks.Explaining.{Explaining}
use Rattle.decoding.specs.Parts.{IsLeft}
use Rattle.report.specs.CaptureLines.{Tally, Tells, no_transaction, next_transaction, with_line, capture_line, stopped, unexplained, count_line, capture_report}
use Rattle.report.specs.Captures.{Explained, CaptureOf}
use Rattle.report.specs.CaptureViews.{tally_of}
use Rattle.report.specs.LiveCaptures.{FirstLines, LinesOfDump, HaltsLive, TellsLive}
use Rattle.report.specs.LiveCaptures.{at_dump as live_at_dump, at_both as live_at_both, at_writer, at_end as live_at_end, at_report}
use Rattle.report.specs.LiveViews.{FailsAtBlock, live_sink, HasTold}
use Rattle.report.specs.declared.live.Live.{Live}
use Rattle.report.specs.declared.telling.CaptureCounts.{CaptureCounts}
use Rattle.report.specs.declared.telling.Telling.{Telling}
use Rattle.decoding.proofs.PartLemmas.{all_left, none_left, part_written, part_stops, front_of_stop, first_begin}
use Rattle.run_parts.specs.Devices.{Reader, Writer, by_parts}
use Rattle.run_parts.specs.Runs.{ReadsText, most_reads}
use Rattle.run_parts.specs.Writing.{WritesAll, WritesFront, WritingStops}
use Rattle.run_parts.specs.declared.runs.Status.{Status}
use Rattle.run_parts.specs.declared.runs.Status.TheVariants.{Good, Bad, Refused}
use Rattle.run_parts.specs.declared.errors.RunError.{RunError}
use Rattle.run_parts.specs.declared.errors.RunError.TheVariants as error

-- ---- the lines of some transactions, and of those after them

abbrev pub made : List ℕ → ℕ → ℕ → Tally
made lines stopped unexplained = record { lines = lines; stopped = stopped; unexplained = unexplained }

abbrev pub none : Tally
none = made [] 0 0

abbrev pub plus : Tally → Tally → Tally
plus a b = made (a.lines ++ b.lines) (a.stopped + b.stopped) (a.unexplained + b.unexplained)

pub made_by : (l m : List ℕ) (s t u v : ℕ) → l ≡ m → s ≡ t → u ≡ v → made l s u ≡ made m t v
made_by l m s t u v a b c = rw a (rw b (rw c refl))

pub plus-none : (a : Tally) → plus a none ≡ a
plus-none a = made_by (a.lines ++ []) a.lines (a.stopped + 0) a.stopped (a.unexplained + 0) a.unexplained (append-nil a.lines) (omega arith) (omega arith)

plus-line : (plan : Contents) (a b : Tally) (t : Recorded) (ps : List ℕ) → with_line plan (plus a b) t ps ≡ plus a (with_line plan b t ps)
plus-line plan a b t ps = made_by _ _ _ _ _ _ (append_assoc a.lines b.lines (capture_line plan t.from t.until ps)) (omega arith) (omega arith)

tells_more : (plan : Contents) (ts : List Recorded) (a : Tally) → Tells plan ts a → (more : List Recorded) (b : Tally) → Tells plan more b → Tells plan (ts ++ more) (plus a b)
tells_more plan ts a told _ _ no_transaction =
    subst (λ (us : List Recorded). Tells plan us (plus a none)) (sym (append-nil ts))
    (subst (λ (sum : Tally). Tells plan ts sum) (sym (plus-none a)) told)
tells_more plan ts a told _ _ (next_transaction {ts = us} {tally = b} t ps more ex) =
    subst (λ (vs : List Recorded). Tells plan vs (plus a (with_line plan b t ps))) (append_assoc ts us (t ∷ []))
    (subst (λ (sum : Tally). Tells plan ((ts ++ us) ++ t ∷ []) sum) (plus-line plan a b t ps)
    (next_transaction t ps (tells_more plan ts a told us b more) ex))

-- the status of a run with these lines
judged : (tally : Tally) → (status : Status) × Explained status tally
judged tally = go tally.unexplained refl
  where
    go : (n : ℕ) → tally.unexplained ≡ n → (status : Status) × Explained status tally
    go zero same = (Good, same)
    go (suc n) same = (Bad, λ no. absurd (omega (arith, same, no)))

-- ---- what the calls so far have written

module _ {R O : Type 0} (writer : Writer O) where
  abbrev pub under : Explaining R (Live O) → Contents
  under e = plan_contents e.plan.now

  abbrev pub sink : Sink (Explaining R (Live O))
  sink = explaining_sink (live_sink writer)

  -- the lines of these transactions, in parts, and they were counted
  record HasWritten (start : Explaining R (Live O)) (ts : List Recorded) (now : Explaining R (Live O)) : Type 0 where
    pub same_plan : now.plan ≡ start.plan
    pub same_writer : now.sink.out.ghost_name ≡ start.sink.out.ghost_name
    pub tally : Tally
    pub told : Tells (under start) ts tally
    pub stopped : now.sink.stopped ≡ start.sink.stopped + tally.stopped
    pub unexplained : now.sink.unexplained ≡ start.sink.unexplained + tally.unexplained
    pub transactions : now.sink.transactions ≡ start.sink.transactions + length ts
    pub written : (rest : List ℕ) → IsLeft writer start.sink.out.now (tally.lines ++ rest) rest now.sink.out.now

  module _ (start : Explaining R (Live O)) where
    block_under : (ts more : List Recorded) (before : Explaining R (Live O)) (block : Tally) → HasWritten start ts before → Tells (under before) more block → Tells (under start) more block
    block_under ts more before block so_far told =
        subst (λ (plan : Contents). Tells plan more block) (ap (λ p. plan_contents p.now) so_far.same_plan) told

    next_written : (ts more : List Recorded) (before now : Explaining R (Live O)) → HasWritten start ts before → sink.takes before more now → HasWritten start (ts ++ more) now
    next_written ts more before now so_far call =
        let b = call.1 in
        let s = start.sink.out.now in
        record {
          same_plan = call.0 ∙ so_far.same_plan;
          same_writer = b.same_writer ∙ so_far.same_writer;
          tally = plus so_far.tally b.block;
          told = tells_more (under start) ts so_far.tally so_far.told more b.block (block_under ts more before b.block so_far b.told);
          stopped = omega (arith, so_far.stopped, b.stopped);
          unexplained = omega (arith, so_far.unexplained, b.unexplained);
          transactions = omega (arith, so_far.transactions, b.transactions, length-append ts more);
          written = λ rest. subst (λ (all : List ℕ). IsLeft writer s all rest now.sink.out.now) (sym (append_assoc so_far.tally.lines b.block.lines rest))
              (part_written writer s (so_far.tally.lines ++ (b.block.lines ++ rest)) rest b.block.lines before.sink.out.now now.sink.out.now (so_far.written (b.block.lines ++ rest)) b.written);
        }

    written_by : (ts : List Recorded) (now : Explaining R (Live O)) → HasTaken sink start ts now → HasWritten start ts now
    written_by _ _ no_call = record {
      same_plan = refl;
      same_writer = refl;
      tally = none;
      told = no_transaction;
      stopped = omega arith;
      unexplained = omega arith;
      transactions = omega arith;
      written = λ rest. all_left writer start.sink.out.now rest;
    }
    written_by _ now (next_call {ts} {more} {before} taken call) = next_written ts more before now (written_by ts before taken) call

    all_lines : (ts : List Recorded) (now : Explaining R (Live O)) → (w : HasWritten start ts now) → WritesAll (by_parts writer) start.sink.out.now w.tally.lines now.sink.out.now
    all_lines ts now w =
        none_left writer start.sink.out.now w.tally.lines now.sink.out.now
        (subst (λ (all : List ℕ). IsLeft writer start.sink.out.now all [] now.sink.out.now) (append-nil w.tally.lines) (w.written []))

    -- the writer failed at the next lines, whatever comes after these
    next_fails : (ts more : List Recorded) (before now : Explaining R (Live O)) (e : RunError) (rest : List ℕ) → (w : HasWritten start ts before) → (f : FailsAtBlock writer (under before) before.sink more e now.sink) → WritingStops (by_parts writer) start.sink.out.now ((w.tally.lines ++ f.block.lines) ++ rest) e now.sink.out.now
    next_fails ts more before now e rest w f =
        let s = start.sink.out.now in
        subst (λ (all : List ℕ). WritingStops (by_parts writer) s all e now.sink.out.now) (sym (append_assoc w.tally.lines f.block.lines rest))
        (part_stops writer s (w.tally.lines ++ (f.block.lines ++ rest)) rest f.block.lines before.sink.out.now now.sink.out.now e (w.written (f.block.lines ++ rest)) f.stops)

    lines_fail : (ts more : List Recorded) (before now : Explaining R (Live O)) (e : RunError) → (w : HasWritten start ts before) → (f : FailsAtBlock writer (under before) before.sink more e now.sink) → WritingStops (by_parts writer) start.sink.out.now (w.tally.lines ++ f.block.lines) e now.sink.out.now
    lines_fail ts more before now e w f =
        subst (λ (all : List ℕ). WritingStops (by_parts writer) start.sink.out.now all e now.sink.out.now) (append-nil (w.tally.lines ++ f.block.lines)) (next_fails ts more before now e [] w f)

  -- why a call stops: memory ran out and nothing was written, or the writer failed
  Reason : Explaining R (Live O) → List Recorded → RunError → Explaining R (Live O) → Type 0
  Reason last more e told = ((e ≡ error.NoMemory) × (told.sink.out.now ≡ last.sink.out.now)) ⊎ FailsAtBlock writer (under last) last.sink more e told.sink

  reason : (last told : Explaining R (Live O)) (more : List Recorded) (e : RunError) → sink.stops last more e told → (told.sink.out.ghost_name ≡ last.sink.out.ghost_name) × Reason last more e told
  unfolding Reason
  reason last told more e (same, inl before) = (ap (λ (s : Live O). s.out.ghost_name) before.1, inl (before.0, ap (λ (s : Live O). s.out.now) before.1))
  reason last told more e (same, inr (inl room)) = (room.same_writer, inl (room.no_memory, room.same))
  reason last told more e (same, inr (inr fails)) = (fails.same_writer, inr fails)

  -- ---- why the run halts

  module _ (start : Explaining R (Live O)) (least : ℕ) (scl sda : Finder) {E : Type 0} (second : Reader E) (before : E) where
    abbrev Halts : RunError → E → O → Type 0
    Halts = HaltsLive least scl sda (under start) second writer before start.sink.out.now

    abbrev first_lines : (text : List ℕ) (ts : List Recorded) (tally : Tally) → BeginsWith least scl sda text ts → Tells (under start) ts tally → FirstLines least scl sda (under start) text tally.lines
    first_lines text ts tally ended told = record { transactions = ts; ended = ended; tally = tally; told = told; same = refl }

    at_front : (ts : List Recorded) (now : E) (e : RunError) (told : Explaining R (Live O)) → (halts : HaltsAtDump second scl sda before e now) → BeginsWith least scl sda (given_by_then second halts) ts → (e ≢ error.NoMemory → AreAllEnded least scl sda (given_by_then second halts) ts) → HasWritten start ts told → Halts e now told.sink.out.now
    at_front ts now e told halts begins whole w =
        live_at_dump halts (first_lines (given_by_then second halts) ts w.tally begins w.told) whole (all_lines start ts told w)

    both : (ts more : List Recorded) (now : E) (e second_error : RunError) (last told : Explaining R (Live O)) → (halts : HaltsAtDump second scl sda before e now) → BeginsWith least scl sda (given_by_then second halts) (ts ++ more) → (e ≢ error.NoMemory → AreAllEnded least scl sda (given_by_then second halts) (ts ++ more)) → HasWritten start ts last → Reason last more second_error told → (second_error ≡ error.NoMemory → e ≡ error.NoMemory) → Halts e now told.sink.out.now
    unfolding Reason
    both ts more now e second_error last told halts begins whole w (inl memory) is =
        subst (λ (out : O). Halts e now out) (sym memory.1)
        (at_front ts now e last halts (first_begin least scl sda (given_by_then second halts) ts more begins) (λ n. absurd (n (is memory.0))) w)
    both ts more now e second_error last told halts begins whole w (inr fails) is =
        let all = plus w.tally fails.block in
        live_at_both halts
        (first_lines (given_by_then second halts) (ts ++ more) all begins (tells_more (under start) ts w.tally w.told more fails.block (block_under start ts more last fails.block w fails.told)))
        whole
        (front_of_stop (by_parts writer) start.sink.out.now told.sink.out.now all.lines second_error (lines_fail start ts more last told second_error w fails))

    within : (text : List ℕ) (ts more : List Recorded) (reads : ℕ) (now : E) (e : RunError) (last told : Explaining R (Live O)) → reads ≤ most_reads → HasBegun second scl sda before reads text now → BeginsWith least scl sda text (ts ++ more) → HasWritten start ts last → Reason last more e told → Halts e now told.sink.out.now
    unfolding Reason
    within text ts more reads now e last told few begun begins w (inl memory) =
        subst (λ (out : O). Halts e now out) (sym memory.1)
        (subst (λ (d : RunError). Halts d now last.sink.out.now) (sym memory.0)
        (at_front ts now error.NoMemory last (no_memory few begun) (first_begin least scl sda text ts more begins) (λ n. absurd (n refl)) w))
    within text ts more reads now e last told few begun begins w (inr fails) =
        let all = plus w.tally fails.block in
        at_writer few begun
        (first_lines text (ts ++ more) all begins (tells_more (under start) ts w.tally w.told more fails.block (block_under start ts more last fails.block w fails.told)))
        (lines_fail start ts more last told e w fails)

    lines_at_end : (dump : List ℕ) (samples : List Sample) (ts more : List Recorded) (tally : Tally) → samples_of scl sda dump ≡ Ok samples → quiet_transactions least samples ≡ ts ++ more → Tells (under start) ts tally → LinesOfDump least scl sda (under start) dump tally.lines
    lines_at_end dump samples ts more tally given split told = record { samples = samples; read = given; transactions = ts; later = more; split = split; tally = tally; told = told; same = refl }

    report_of : (dump : List ℕ) (samples : List Sample) (tally : Tally) → samples_of scl sda dump ≡ Ok samples → Tells (under start) (quiet_transactions least samples) tally → CaptureOf least scl sda (under start) dump (capture_report tally) (judged tally).0
    report_of dump samples tally given told = record { samples = samples; read = given; tally = tally; told = told; lines = refl; judged = (judged tally).1 }

    at_last : (text : List ℕ) (samples : List Sample) (ts more : List Recorded) (now : E) (e : RunError) (last told : Explaining R (Live O)) → ReadsText second before text now → samples_of scl sda text ≡ Ok samples → quiet_transactions least samples ≡ ts ++ more → HasWritten start ts last → Reason last more e told → Halts e now told.sink.out.now
    unfolding Reason
    at_last text samples ts more now e last told read given split w (inl memory) =
        subst (λ (out : O). Halts e now out) (sym memory.1)
        (subst (λ (d : RunError). Halts d now last.sink.out.now) (sym memory.0)
        (live_at_end read (lines_at_end text samples ts more w.tally given split w.told) (all_lines start ts last w)))
    at_last text samples ts more now e last told read given split w (inr fails) =
        let all = plus w.tally fails.block in
        let tells = tells_more (under start) ts w.tally w.told more fails.block (block_under start ts more last fails.block w fails.told) in
        at_report read (report_of text samples all given (subst (λ (us : List Recorded). Tells (under start) us all) (sym split) tells))
        (next_fails start ts more last told e (count_line all.stopped all.unexplained) w fails)

    pub halts_live : (now : E) (e : RunError) (told : Explaining R (Live O)) → HaltsAtDecoding sink start least scl sda second before e now told → (told.sink.out.ghost_name ≡ start.sink.out.ghost_name) × Halts e now told.sink.out.now
    halts_live now e told (at_dump {ts = ts} halts begins whole taken) =
        let w = written_by start ts told taken in
        (w.same_writer, at_front ts now e told halts begins whole w)
    halts_live now e told (at_both {second_error = second_error} {ts = ts} {more = more} {last = last} halts begins whole taken why is) =
        let w = written_by start ts last taken in
        let r = reason last told more second_error why in
        (r.0 ∙ w.same_writer, both ts more now e second_error last told halts begins whole w r.1 is)
    halts_live now e told (at_sink {reads = reads} {text = text} {ts = ts} {more = more} {last = last} few begun begins taken why) =
        let w = written_by start ts last taken in
        let r = reason last told more e why in
        (r.0 ∙ w.same_writer, within text ts more reads now e last told few begun begins w r.1)
    halts_live now e told (at_end {text = text} {samples = samples} {ts = ts} {more = more} {last = last} read passes given split taken why) =
        let w = written_by start ts last taken in
        let r = reason last told more e why in
        (r.0 ∙ w.same_writer, at_last text samples ts more now e last told read given split w r.1)

    -- the dump was read to its end, and only the last line is left
    pub tells_all : (now : E) (told : Explaining R (Live O)) (it : Telling) → start.sink.stopped ≡ 0 → start.sink.unexplained ≡ 0 → start.sink.transactions ≡ 0 → it.transactions ≡ told.sink.transactions → it.stopped ≡ told.sink.stopped → it.unexplained ≡ told.sink.unexplained → string_bytes it.lines ≡ [] → DecodesAll sink start least scl sda second before now told → (told.sink.out.ghost_name ≡ start.sink.out.ghost_name) × HasTold least scl sda (under start) second writer before start.sink.out.now it now told.sink.out.now
    tells_all now told it none_stopped none_unexplained none_told same_told same_stopped same_unexplained empty all =
        let w = written_by start (quiet_transactions least all.decodes.samples) told all.decodes.taken in (
          w.same_writer,
          record {
            dump = all.dump;
            read = all.read;
            passes = all.passes;
            samples = all.decodes.samples;
            given = all.decodes.read;
            tally = w.tally;
            told = w.told;
            no_lines = empty;
            stopped = omega (arith, w.stopped, none_stopped, same_stopped);
            unexplained = omega (arith, w.unexplained, none_unexplained, same_unexplained);
            transactions = omega (arith, w.transactions, none_told, same_told);
            written = w.written;
          },
        )

-- ---- the last line

explained_same : (status : Status) (a b : Tally) → a.unexplained ≡ b.unexplained → Explained status a → Explained status b
explained_same Good a b same right = sym same ∙ right
explained_same Bad a b same right = λ no. right (same ∙ no)
explained_same Refused a b same right = absurd right

module _ (least : ℕ) (scl sda : Finder) (plan : Contents) {E O : Type 0} (second : Reader E) (writer : Writer O) (before : E) (start : O) (told : Telling) (now : E) (middle : O) (h : HasTold least scl sda plan second writer before start told now middle) where
  last_line : (bytes : List ℕ) → bytes ≡ capture_report (tally_of told) → bytes ≡ count_line h.tally.stopped h.tally.unexplained
  last_line bytes same =
      same ∙ (ap (λ (lines : List ℕ). lines ++ count_line told.stopped told.unexplained) h.no_lines
      ∙ (ap (λ (n : ℕ). count_line n told.unexplained) h.stopped ∙ ap (λ (n : ℕ). count_line h.tally.stopped n) h.unexplained))

  last_left : (bytes : List ℕ) → bytes ≡ capture_report (tally_of told) → IsLeft writer start (capture_report h.tally) (bytes ++ []) middle
  last_left bytes same =
      subst (λ (left : List ℕ). IsLeft writer start (capture_report h.tally) left middle) (sym (last_line bytes same) ∙ sym (append-nil bytes)) (h.written (count_line h.tally.stopped h.tally.unexplained))

  abbrev whole : (status : Status) → Explained status (tally_of told) → CaptureOf least scl sda plan h.dump (capture_report h.tally) status
  whole status right = record { samples = h.samples; read = h.given; tally = h.tally; told = h.told; lines = refl; judged = explained_same status (tally_of told) h.tally h.unexplained right }

  pub ends_live : (it : CaptureCounts) (bytes : List ℕ) (end : O) → Explained it.status (tally_of told) → it.transactions ≡ told.transactions → it.stopped ≡ told.stopped → it.unexplained ≡ told.unexplained → bytes ≡ capture_report (tally_of told) → WritesAll writer middle bytes end → TellsLive least scl sda plan second writer before start it now end
  ends_live it bytes end right same_told same_stopped same_unexplained same written = record {
    dump = h.dump;
    read = h.read;
    report = capture_report h.tally;
    capture = whole it.status right;
    stopped = same_stopped ∙ h.stopped;
    unexplained = same_unexplained ∙ h.unexplained;
    transactions = same_told ∙ h.transactions;
    written = none_left writer start (capture_report h.tally) end (part_written writer start (capture_report h.tally) [] bytes middle end (last_left bytes same) written);
  }

  pub last_fails : (status : Status) (bytes : List ℕ) (e : RunError) (end : O) → Explained status (tally_of told) → bytes ≡ capture_report (tally_of told) → WritingStops writer middle bytes e end → HaltsLive least scl sda plan second writer before start e now end
  last_fails status bytes e end right same stops =
      at_report h.read (whole status right) (part_stops writer start (capture_report h.tally) [] bytes middle end e (last_left bytes same) stops)

  -- memory ran out for the last line
  pub no_last : HaltsLive least scl sda plan second writer before start error.NoMemory now middle
  no_last =
      live_at_end h.read
      (record { samples = h.samples; read = h.given; transactions = quiet_transactions least h.samples; later = []; split = sym (append-nil (quiet_transactions least h.samples)); tally = h.tally; told = h.told; same = refl })
      (none_left writer start h.tally.lines middle (subst (λ (all : List ℕ). IsLeft writer start all [] middle) (append-nil h.tally.lines) (h.written [])))
