-- What has ended in a dump that goes on, and what a sink has taken of it.
use Rattle.std.proofs.Common.{◌≡◌, ◌≢◌, ◌⊎◌, inl, inr, ℕ, List, [], ◌++◌, map, Result, Ok, Err, IfErr, OnOk, ap, refl, arith, subst, sym, ◌∙◌}
use Rattle.std.proofs.lemmas.List.{append_assoc}
use Rattle.run_errors.specs.declared.dumps.VcdError.{VcdError}
use Rattle.run_errors.specs.declared.dumps.VcdError.TheVariants.{NoMemory}
use Rattle.vcd_read.specs.declared.samples.Sample.{Sample}
use Rattle.vcd_read.specs.Dumps.{samples_of, given_so_far}
use Rattle.vcd_read.specs.Probes.{Finder}
use Rattle.vcd_read.specs.Readers.{Fed, Reading, reading_of}
use Rattle.vcd_read.proofs.FedLemmas.{given_in}
use Rattle.pulses.specs.declared.following.QuietFollower.{QuietFollower}
use Rattle.pulses.specs.Following.{quiet_behind, quiet_transactions, HasHandedOut}
use Rattle.capture_check.specs.Transactions.{Recorded}
use Rattle.capture_check.specs.Views.{recorded}
use Rattle.capture_check.specs.declared.listening.Transaction.{Transaction}
use Rattle.decoding.specs.Decoding.{BeginsWith, AreAllEnded, DecodesDump, HaltsAtDecoding, at_dump}
use Rattle.decoding.specs.DecoderViews.{Follows, FollowsAll, StopsAt, StopsAtPiece, StopsAtEnd, no_memory, stops_at, refused, both, within, at_end}
use Rattle.decoding.specs.Dumps.{PassesSoFar, RefusesBeginning, HasBegun}
use Rattle.decoding.specs.Dumps.{no_memory as dump_no_memory}
use Rattle.decoding.specs.Sinks.{Sink, HasTaken, no_call, next_call}
use Rattle.decoding.specs.declared.following.Decoder.{Decoder}
use Rattle.decoding.proofs.EndedLemmas.{all_ended, given_more}
use Rattle.run_parts.specs.Devices.{Reader, no_read}
use Rattle.run_parts.specs.RunErrors.{vcd_error}
use Rattle.run_parts.specs.declared.errors.RunError.{RunError}
use Rattle.run_parts.specs.declared.errors.RunError.TheVariants as error

-- what has ended with the samples that were given has ended whatever follows
begins_by : (least : ℕ) (scl sda : Finder) (text : List ℕ) (cleared : List Sample) (r : Reading) (ts : List Recorded) (after : List Sample → List Recorded) → Fed scl sda text cleared r → ((more : List Sample) → ts ++ after more ≡ quiet_transactions least (cleared ++ (r.kept.samples ++ more))) → BeginsWith least scl sda text ts
begins_by least scl sda text cleared r ts after fed left more =
    let given : given_so_far scl sda text ++ more ≡ cleared ++ (r.kept.samples ++ more) =
    ap (λ (u : List Sample). u ++ more) (given_in scl sda text cleared r fed) ∙ append_assoc cleared r.kept.samples more in
    (after more, ap (quiet_transactions least) given ∙ sym (left more))

-- and whatever the dump goes on with
begins_more : (least : ℕ) (scl sda : Finder) (text piece : List ℕ) (ts : List Recorded) → BeginsWith least scl sda text ts → BeginsWith least scl sda (text ++ piece) ts
begins_more least scl sda text piece ts begins more =
    let on = given_more scl sda text piece in
    let given : given_so_far scl sda (text ++ piece) ++ more ≡ given_so_far scl sda text ++ (on.0 ++ more) =
    ap (λ (u : List Sample). u ++ more) on.1 ∙ append_assoc (given_so_far scl sda text) on.0 more in
    let b = begins (on.0 ++ more) in
    (b.0, ap (quiet_transactions least) given ∙ b.1)

memory_or_not : (e : RunError) → (e ≡ error.NoMemory) ⊎ (e ≢ error.NoMemory)
memory_or_not (error.Plan e) = inr (λ same. cc)
memory_or_not (error.Brief e) = inr (λ same. cc)
memory_or_not (error.Vcd e) = inr (λ same. cc)
memory_or_not (error.Bench e) = inr (λ same. cc)
memory_or_not error.Workers = inr (λ same. cc)
memory_or_not error.Read = inr (λ same. cc)
memory_or_not error.Write = inr (λ same. cc)
memory_or_not error.NoMemory = inl refl

ok_no_memory : {R : Type 0} (it : R) → Ok it ≢ Err error.NoMemory
ok_no_memory it same = cc

the_error : {R : Type 0} (e : RunError) (r : Result R RunError) → r ≡ Err e → r ≡ Err error.NoMemory → e ≡ error.NoMemory
the_error e r is same = cc

pub on_ok : {X E : Type 0} (r : Result X E) {P Q : Type 0} → (P → Q) → OnOk r P → OnOk r Q
on_ok (Ok x) f h = f h
on_ok (Err e) f h = tt

pub if_err : {X E : Type 0} (r : Result X E) (P Q : E → Type 0) → ((e : E) → P e → Q e) → IfErr r P → IfErr r Q
if_err (Ok x) P Q f h = tt
if_err (Err e) P Q f h = f e h

module _ {S : Type 0} (sink : Sink S) (start : S) (least : ℕ) (scl sda : Finder) where
  -- with what ended in these samples, all is there but what follows
  all_left : (text : List ℕ) (d : Decoder) (told : S) (f : Follows sink start least scl sda text d told) (given samples : List Sample) (items slice : List Transaction) (behind : List Recorded) (more : List Sample) → samples ≡ given → slice ≡ items → map recorded items ++ behind ≡ quiet_behind d.follower (samples ++ more) → (f.done ++ map recorded slice) ++ behind ≡ quiet_transactions least (f.cleared ++ (given ++ more))
  all_left text d told f given samples items slice behind more these same followed =
      append_assoc f.done (map recorded slice) behind
      ∙ (ap (λ (u : List Recorded). f.done ++ u) (ap (λ (u : List Transaction). map recorded u ++ behind) same ∙ (followed ∙ ap (λ (u : List Sample). quiet_behind d.follower (u ++ more)) these))
      ∙ f.left (given ++ more))

  last_left : (text : List ℕ) (d : Decoder) (told : S) (f : Follows sink start least scl sda text d told) (samples handed : List Sample) (items slice : List Transaction) → handed ≡ samples → slice ≡ items → map recorded items ≡ quiet_behind d.follower handed → f.done ++ map recorded slice ≡ quiet_transactions least (f.cleared ++ samples)
  last_left text d told f samples handed items slice these same followed =
      ap (λ (u : List Recorded). f.done ++ u) (ap (λ (u : List Transaction). map recorded u) same ∙ (followed ∙ ap (λ (u : List Sample). quiet_behind d.follower u) these))
      ∙ f.left samples

  pub begins : (text : List ℕ) (d : Decoder) (told : S) → (f : Follows sink start least scl sda text d told) → BeginsWith least scl sda text f.done
  begins text d told f =
      let r = reading_of d.reader in
      begins_by least scl sda text f.cleared r f.done (λ more. quiet_behind d.follower (r.kept.samples ++ more)) f.fed (λ more. f.left (r.kept.samples ++ more))

  -- a piece was read, and what ended in it is still to be handed on
  pub read_on : (text read : List ℕ) (d grown : Decoder) (told : S) → (f : Follows sink start least scl sda text d told) → Fed scl sda read f.cleared (reading_of grown.reader) → grown.follower ≡ d.follower → Follows sink start least scl sda read grown told
  read_on text read d grown told f fed same = record {
    cleared = f.cleared;
    fed = fed;
    done = f.done;
    taken = f.taken;
    left = λ more. ap (λ (u : QuietFollower). f.done ++ quiet_behind u more) same ∙ f.left more;
    out = subst HasHandedOut (sym same) f.out;
  }

  -- the sink took what ended in what was read
  pub goes_on : (text : List ℕ) (d grown : Decoder) (samples : List Sample) (items slice : List Transaction) (told end : S) → (f : Follows sink start least scl sda text d told) → Fed scl sda text (f.cleared ++ (reading_of d.reader).kept.samples) (reading_of grown.reader) → samples ≡ (reading_of d.reader).kept.samples → slice ≡ items → ((more : List Sample) → map recorded items ++ quiet_behind grown.follower more ≡ quiet_behind d.follower (samples ++ more)) → HasHandedOut grown.follower → sink.takes told (map recorded slice) end → FollowsAll sink start least scl sda text grown end
  goes_on text d grown samples items slice told end f fed these same followed out took =
      let given = (reading_of d.reader).kept.samples in
      record {
        follows = record {
          cleared = f.cleared ++ given;
          fed = fed;
          done = f.done ++ map recorded slice;
          taken = next_call f.taken took;
          left = λ more. all_left text d told f given samples items slice (quiet_behind grown.follower more) more these same (followed more)
              ∙ ap (quiet_transactions least) (sym (append_assoc f.cleared given more));
          out = out;
        };
        all = given_in scl sda text f.cleared (reading_of d.reader) f.fed;
      }

  -- what ended in what was read
  found : (text : List ℕ) (d : Decoder) (follower : QuietFollower) (samples : List Sample) (items slice : List Transaction) (told : S) → (f : Follows sink start least scl sda text d told) → samples ≡ (reading_of d.reader).kept.samples → slice ≡ items → ((more : List Sample) → map recorded items ++ quiet_behind follower more ≡ quiet_behind d.follower (samples ++ more)) → BeginsWith least scl sda text (f.done ++ map recorded slice)
  found text d follower samples items slice told f these same followed =
      let r = reading_of d.reader in
      begins_by least scl sda text f.cleared r (f.done ++ map recorded slice) (λ more. quiet_behind follower more) f.fed (λ more. all_left text d told f r.kept.samples samples items slice (quiet_behind follower more) more these same (followed more))

  -- and that is all
  found_all : (text : List ℕ) (d : Decoder) (follower : QuietFollower) (samples : List Sample) (items slice : List Transaction) (told : S) → (f : Follows sink start least scl sda text d told) → samples ≡ (reading_of d.reader).kept.samples → slice ≡ items → ((more : List Sample) → map recorded items ++ quiet_behind follower more ≡ quiet_behind d.follower (samples ++ more)) → HasHandedOut follower → AreAllEnded least scl sda text (f.done ++ map recorded slice)
  found_all text d follower samples items slice told f these same followed out =
      let given = (reading_of d.reader).kept.samples in
      all_ended least scl sda text (f.cleared ++ given) (f.done ++ map recorded slice) follower (given_in scl sda text f.cleared (reading_of d.reader) f.fed)
      (λ more. all_left text d told f given samples items slice (quiet_behind follower more) more these same (followed more) ∙ ap (quiet_transactions least) (sym (append_assoc f.cleared given more)))
      out

  -- all that was read has been followed
  pub all_taken : (text : List ℕ) (d : Decoder) (told : S) → (f : FollowsAll sink start least scl sda text d told) → AreAllEnded least scl sda text f.follows.done
  all_taken text d told f =
      all_ended least scl sda text f.follows.cleared f.follows.done d.follower f.all f.follows.left f.follows.out

  -- the sink stopped at what ended in what was read
  pub stops_there : (text : List ℕ) (d : Decoder) (follower : QuietFollower) (samples : List Sample) (items slice : List Transaction) (told end : S) (e : RunError) → (f : Follows sink start least scl sda text d told) → samples ≡ (reading_of d.reader).kept.samples → slice ≡ items → ((more : List Sample) → map recorded items ++ quiet_behind follower more ≡ quiet_behind d.follower (samples ++ more)) → sink.stops told (map recorded slice) e end → StopsAt sink start least scl sda text told e end
  stops_there text d follower samples items slice told end e f these same followed why =
      stops_at (found text d follower samples items slice told f these same followed) f.taken why

  -- the piece passes, and the sink stops
  pub piece_stops : (text piece : List ℕ) (d : Decoder) (told end : S) (e : RunError) → Follows sink start least scl sda (text ++ piece) d told → PassesSoFar scl sda (text ++ piece) → StopsAt sink start least scl sda (text ++ piece) told e end → StopsAtPiece sink start least scl sda text piece e end
  piece_stops text piece d told _ _ f passes no_memory =
      refused {error = error.NoMemory} tt (begins (text ++ piece) d told f) (λ n. absurd (n refl)) f.taken
  piece_stops text piece d told end e f passes (stops_at begin taken why) = within passes begin taken why

  -- the piece is refused, and the sink took what ended before, or stopped there
  refused_with : {R : Type 0} (text piece : List ℕ) (ts more : List Recorded) (told end : S) (e answered : RunError) (r : Result R RunError) → (r ≡ Err error.NoMemory → answered ≡ error.NoMemory) → (r ≢ Err error.NoMemory → answered ≡ e) → RefusesBeginning scl sda (text ++ piece) e → BeginsWith least scl sda (text ++ piece) (ts ++ more) → (e ≢ error.NoMemory → AreAllEnded least scl sda (text ++ piece) (ts ++ more)) → HasTaken sink start ts told → OnOk r (sink.takes told more end) → IfErr r (λ other. sink.stops told more other end) → StopsAtPiece sink start least scl sda text piece answered end
  refused_with text piece ts more told end e answered (Ok it) memory refusal refuses begun all taken took stops =
      subst (λ (a : RunError). StopsAtPiece sink start least scl sda text piece a end) (sym (refusal (ok_no_memory it)))
      (refused refuses begun all (next_call taken took))
  refused_with text piece ts more told end e answered (Err other) memory refusal refuses begun all taken took stops = go (memory_or_not other)
    where
      go : (other ≡ error.NoMemory) ⊎ (other ≢ error.NoMemory) → StopsAtPiece sink start least scl sda text piece answered end
      go (inl is) =
          subst (λ (a : RunError). StopsAtPiece sink start least scl sda text piece a end) (sym (memory (ap Err is)))
          (both {error = error.NoMemory} tt begun (λ n. absurd (n refl)) taken stops (λ same. refl))
      go (inr is_not) =
          subst (λ (a : RunError). StopsAtPiece sink start least scl sda text piece a end) (sym (refusal (λ same. is_not (the_error other (Err other) refl same))))
          (both refuses begun all taken stops (λ same. absurd (is_not same)))

  -- the piece is refused, or memory ran out and nothing of it was read; and the sink was handed what ended before
  pub piece_refused : {R : Type 0} (text piece : List ℕ) (d mid : Decoder) (follower : QuietFollower) (samples : List Sample) (items slice : List Transaction) (told end : S) (v : VcdError) (answered : RunError) (r : Result R RunError) → (f : Follows sink start least scl sda text d told) → mid.follower ≡ d.follower → (v ≡ NoMemory) ⊎ Fed scl sda (text ++ piece) f.cleared (reading_of mid.reader) → (v ≡ NoMemory → reading_of mid.reader ≡ reading_of d.reader) → RefusesBeginning scl sda (text ++ piece) (vcd_error v) → samples ≡ (reading_of mid.reader).kept.samples → slice ≡ items → ((more : List Sample) → map recorded items ++ quiet_behind follower more ≡ quiet_behind mid.follower (samples ++ more)) → (HasHandedOut mid.follower → HasHandedOut follower) → OnOk r (sink.takes told (map recorded slice) end) → IfErr r (λ other. sink.stops told (map recorded slice) other end) → (r ≡ Err error.NoMemory → answered ≡ error.NoMemory) → (r ≢ Err error.NoMemory → answered ≡ vcd_error v) → StopsAtPiece sink start least scl sda text piece answered end
  piece_refused text piece d mid follower samples items slice told end v answered r f same (inl none) kept refuses these alike followed out took stops memory refusal =
      let on = read_on text text d mid told f (subst (Fed scl sda text f.cleared) (sym (kept none)) f.fed) same in
      let begun = begins_more least scl sda text piece (on.done ++ map recorded slice) (found text mid follower samples items slice told on these alike followed) in
      refused_with text piece on.done (map recorded slice) told end (vcd_error v) answered r memory refusal refuses begun (λ n. absurd (n (ap vcd_error none))) on.taken took stops
  piece_refused text piece d mid follower samples items slice told end v answered r f same (inr fed) kept refuses these alike followed out took stops memory refusal =
      let whole = text ++ piece in
      let on = read_on text whole d mid told f fed same in
      refused_with text piece on.done (map recorded slice) told end (vcd_error v) answered r memory refusal refuses
      (found whole mid follower samples items slice told on these alike followed)
      (λ n. found_all whole mid follower samples items slice told on these alike followed (out on.out))
      on.taken took stops

  -- the piece is refused, or memory ran out; and then memory ran out
  pub piece_unfound : (text piece : List ℕ) (d : Decoder) (told : S) → Follows sink start least scl sda text d told → StopsAtPiece sink start least scl sda text piece error.NoMemory told
  piece_unfound text piece d told f =
      refused {error = error.NoMemory} tt (begins_more least scl sda text piece f.done (begins text d told f)) (λ n. absurd (n refl)) f.taken

  -- the sink took what is left at the end
  pub end_taken : (text : List ℕ) (d : Decoder) (samples handed : List Sample) (items slice : List Transaction) (told end : S) → (f : Follows sink start least scl sda text d told) → samples_of scl sda text ≡ Ok (f.cleared ++ samples) → handed ≡ samples → slice ≡ items → map recorded items ≡ quiet_behind d.follower handed → sink.takes told (map recorded slice) end → DecodesDump sink start least scl sda text end
  end_taken text d samples handed items slice told end f given these same followed took = record {
    samples = f.cleared ++ samples;
    read = given;
    taken = subst (λ (ts : List Recorded). HasTaken sink start ts end) (last_left text d told f samples handed items slice these same followed) (next_call f.taken took);
  }

  -- the sink stopped at what is left at the end
  pub end_stops : (text : List ℕ) (d : Decoder) (samples handed : List Sample) (items slice : List Transaction) (told end : S) (e : RunError) → (f : Follows sink start least scl sda text d told) → samples_of scl sda text ≡ Ok (f.cleared ++ samples) → handed ≡ samples → slice ≡ items → map recorded items ≡ quiet_behind d.follower handed → sink.stops told (map recorded slice) e end → StopsAtEnd sink start least scl sda text e end
  end_stops text d samples handed items slice told end e f given these same followed why =
      at_end given (sym (last_left text d told f samples handed items slice these same followed)) f.taken why

  -- nothing was read, and an allocation failed
  pub not_begun : {E : Type 0} (second : Reader E) (before : E) → HaltsAtDecoding sink start least scl sda second before error.NoMemory before start
  not_begun second before =
      let begun : HasBegun second scl sda before 0 [] before = record { given = no_read; passes = tt } in
      let begins : BeginsWith least scl sda [] [] = λ more. (quiet_transactions least (given_so_far scl sda [] ++ more), refl) in
      at_dump (dump_no_memory {reads = 0} {text = []} (omega arith) begun) begins (λ n. absurd (n refl)) no_call
