-- Parts of a text that are written one after another, and transactions that are the first of a dump.
use Rattle.std.proofs.Common.{◌≡◌, ◌<◌, ◌≤◌, ◌⊎◌, ℕ, List, [], ◌++◌, Some, length, drop, refl, sym, ap, ◌∙◌, subst, append_assoc, append-nil, length-append, inl, inr, arith}
use Rattle.std.proofs.KnownBytes.{Appends-nil, Appends-trans}
use Rattle.std.specs.Io.KnownBytes.{Appends}
use Rattle.std.proofs.lemmas.List.{drop-append-le}
use Rattle.vcd_read.specs.Probes.{Finder}
use Rattle.capture_check.specs.Transactions.{Recorded}
use Rattle.run_parts.specs.Devices.{Writer, TakesPart, by_parts, HasTaken, no_write, next_write}
use Rattle.run_parts.specs.Writing.{WritesAll, WritesFront, WriteFails, WritingStops}
use Rattle.run_parts.specs.declared.errors.RunError.{RunError}
use Rattle.run_parts.specs.declared.errors.RunError.TheVariants as error
use Rattle.decoding.specs.Decoding.{BeginsWith}
use Rattle.decoding.specs.Parts.{IsLeft}

module _ {D : Type 0} (writer : Writer D) (start : D) (text rest : List ℕ) where
  taken_on : {part : List ℕ} {before : D} {left : List ℕ} {now : D} → HasTaken writer before part left now → HasTaken (by_parts writer) start text (part ++ rest) before → HasTaken (by_parts writer) start text (left ++ rest) now
  taken_on no_write h = h
  taken_on (next_write {left = left} {n = n} {after = after} earlier call some within sound) h =
      let long : n ≤ length (left ++ rest) = omega (arith, within, length-append left rest) in
      let part : TakesPart writer _ (left ++ rest) (Some n) after = record { part = left; rest = rest; split = refl; some = omega (arith, some, within); within = within; call = call } in
      subst (λ (l : List ℕ). HasTaken (by_parts writer) start text l after) (drop-append-le n left rest within) (next_write (taken_on earlier h) part some long sound)

  -- a part of what was left is written
  pub part_written : (part : List ℕ) (before now : D) → IsLeft writer start text (part ++ rest) before → WritesAll writer before part now → IsLeft writer start text rest now
  part_written part before now so_far all = record {
    front = so_far.front ++ part;
    split = so_far.split ∙ sym (append_assoc so_far.front part rest);
    written = taken_on all.written so_far.written;
    appended = Appends-trans _ _ _ _ _ so_far.appended all.appended;
  }

  part_fails : (part : List ℕ) (before last now : D) (left : List ℕ) → 0 < length left → WriteFails writer before part last left now → WriteFails (by_parts writer) start text last (left ++ rest) now
  part_fails part before last now left some (inl error) = inl (record { part = left; rest = rest; split = refl; some = some; within = tt; call = error.0 }, error.1)
  part_fails part before last now left some (inr none) = inr (record { part = left; rest = rest; split = refl; some = some; within = omega arith; call = none.0 }, none.1)

  front_written : (part : List ℕ) (before now : D) → IsLeft writer start text (part ++ rest) before → WritesFront writer before part now → WritesFront (by_parts writer) start text now
  front_written part before now so_far stopped = record {
    front = so_far.front ++ stopped.front;
    left = stopped.left ++ rest;
    split = so_far.split ∙ (ap (λ (cs : List ℕ). so_far.front ++ (cs ++ rest)) stopped.split ∙ (ap (λ (cs : List ℕ). so_far.front ++ cs) (append_assoc stopped.front stopped.left rest) ∙ sym (append_assoc so_far.front stopped.front (stopped.left ++ rest))));
    last = stopped.last;
    written = taken_on stopped.written so_far.written;
    some_left = omega (arith, stopped.some_left, length-append stopped.left rest);
    fault = part_fails part before stopped.last now stopped.left stopped.some_left stopped.fault;
    appended = Appends-trans _ _ _ _ _ so_far.appended stopped.appended;
  }

  -- the writing stopped at a part of what was left
  pub part_stops : (part : List ℕ) (before now : D) (e : RunError) → IsLeft writer start text (part ++ rest) before → WritingStops writer before part e now → WritingStops (by_parts writer) start text e now
  part_stops part before now error.Write so_far stopped = front_written part before now so_far stopped
  part_stops part before now _ so_far stopped = absurd stopped

module _ {D : Type 0} (writer : Writer D) (start : D) (text : List ℕ) where
  pub all_left : IsLeft writer start text text start
  all_left = record { front = []; split = refl; written = no_write; appended = Appends-nil (writer.contents start) }

  pub none_left : (now : D) → IsLeft writer start text [] now → WritesAll (by_parts writer) start text now
  none_left now so_far = record {
    written = so_far.written;
    appended = subst (λ (cs : List ℕ). Appends (writer.contents start) (writer.contents now) cs) (sym (so_far.split ∙ append-nil so_far.front)) so_far.appended;
  }

pub front_of_stop : {D : Type 0} (writer : Writer D) (start now : D) (text : List ℕ) (e : RunError) → WritingStops writer start text e now → WritesFront writer start text now
front_of_stop writer start now text error.Write stops = stops
front_of_stop writer start now text _ stops = absurd stops

pub first_begin : (least : ℕ) (scl sda : Finder) (text : List ℕ) (ts more : List Recorded) → BeginsWith least scl sda text (ts ++ more) → BeginsWith least scl sda text ts
first_begin least scl sda text ts more begins samples = let b = begins samples in (more ++ b.0, b.1 ∙ append_assoc ts more b.0)
