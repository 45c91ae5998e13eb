-- One more read or write of a loop.
use Rattle.std.proofs.Common.{◌≡◌, ◌<◌, ◌≤◌, ℕ, ◌+◌, false, List, [], ◌++◌, length, take, drop, Some, refl, sym, ap, ◌∙◌, subst, append-nil, append_assoc, take-append-drop, length-take, add-one, arith}
use Rattle.std.proofs.KnownBytes.{Appends-nil, Appends-trans, Consumes-nil, Consumes-trans}
use Rattle.std.specs.Io.KnownBytes.{Appends, Consumes, IsAtEnd}
use Rattle.run_parts.specs.Devices.{Reader, Writer, HasGiven, no_read, next_read, HasTaken, no_write, next_write}
use Rattle.run_parts.specs.Reading.{ReadsAll}

module _ {D : Type 0} (reader : Reader D) (start : D) where
  -- what the reading loop keeps
  abbrev pub Reading : ℕ → List ℕ → D → Type 0
  Reading reads text now = record {
    read : HasGiven reader start reads text now;
    consumed : Consumes (reader.remaining start) (reader.remaining now) text;
  }

  pub nothing_read : (text : List ℕ) → text ≡ [] → Reading 0 text start
  nothing_read text e = rw e (record { read = no_read; consumed = Consumes-nil (reader.remaining start) })

  pub one_more_read : (reads room n : ℕ) (text buf new : List ℕ) (before after : D) → Reading reads text before → reader.gives before room (Some (take n buf)) after → 0 < n → n ≤ length buf → reader.has_failed after ≡ false → Consumes (reader.remaining before) (reader.remaining after) (take n buf) → new ≡ text ++ take n buf → Reading (reads + 1) new after
  one_more_read reads room n text buf new before after so_far call some within sound lost grown =
      let long : 0 < length (take n buf) = omega (arith, length-take n buf) in
      rw (add-one, grown) (record { read = next_read so_far.read call long sound; consumed = Consumes-trans _ _ _ _ _ so_far.consumed lost })

  -- the read that gave no bytes
  pub all_read : (limit reads n : ℕ) (text buf : List ℕ) (last now : D) → Reading reads text last → reads < limit → n ≡ 0 → 0 < length buf → reader.gives last (length buf) (Some (take n buf)) now → reader.has_failed now ≡ false → Consumes (reader.remaining last) (reader.remaining now) (take n buf) → (n ≡ 0 → 0 < length buf → IsAtEnd (reader.remaining now)) → ReadsAll reader limit start text now
  all_read limit reads n text buf last now so_far few none room call sound lost end =
      let empty : take n buf ≡ [] = ap (λ m. take m buf) none in
      record {
        reads = reads;
        few = few;
        last = last;
        read = so_far.read;
        room = length buf;
        has_room = room;
        end = subst (λ (piece : List ℕ). reader.gives last (length buf) (Some piece) now) empty call;
        sound = sound;
        consumed = subst (λ (t : List ℕ). Consumes (reader.remaining start) (reader.remaining now) t) (ap (λ (p : List ℕ). text ++ p) empty ∙ append-nil text) (Consumes-trans _ _ _ _ _ so_far.consumed lost);
        at_end = end none room;
      }

module _ {D : Type 0} (writer : Writer D) (start : D) (report : List ℕ) where
  -- what the writing loop keeps
  abbrev pub Writing : List ℕ → D → Type 0
  Writing left now = record {
    front : List ℕ;
    split : report ≡ front ++ left;
    written : HasTaken writer start report left now;
    appended : Appends (writer.contents start) (writer.contents now) front;
  }

  pub nothing_written : Writing report start
  nothing_written = record { front = []; split = refl; written = no_write; appended = Appends-nil (writer.contents start) }

  pub one_more_written : (left : List ℕ) (n : ℕ) (before after : D) → Writing left before → writer.takes before left (Some n) after → 0 < n → n ≤ length left → writer.has_failed after ≡ false → Appends (writer.contents before) (writer.contents after) (take n left) → Writing (drop n left) after
  one_more_written left n before after so_far call some within sound grown = record {
    front = so_far.front ++ take n left;
    split = so_far.split ∙ ap (λ l. so_far.front ++ l) (sym (take-append-drop n left)) ∙ sym (append_assoc so_far.front (take n left) (drop n left));
    written = next_write so_far.written call some within sound;
    appended = Appends-trans _ _ _ _ _ so_far.appended grown;
  }
