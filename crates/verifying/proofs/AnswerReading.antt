-- What the loop over a certificate keeps.
use Rattle.std.proofs.Common.{◌≡◌, ℕ, ◌+◌, ◌*◌, ◌^◌, ◌<◌, ◌≤◌, false, List, [], ◌++◌, length, take, Some, Result, Ok, Err, IfOk, IfErr, refl, sym, subst, length-take, length-append, arith}
use Rattle.std.specs.Io.KnownBytes.{Consumes}
use Rattle.verifying.proofs.AcceptLemmas.{answers_texts}
use Rattle.cert_check.specs.Accepts.{IsAnswer}
use Rattle.verifying.specs.Accepts.{AnswersBytes}
use Rattle.cert_check.specs.Fed.{IsFed}
use Rattle.cert_check.specs.declared.answers.Answer.{Answer}
use Rattle.cert_check.specs.declared.answers.Judged.{Judged}
use Rattle.cert_check.specs.declared.checkers.Checker.{Checker}
use Rattle.plan_core.specs.Contents.{Contents}
use Rattle.plan_text.specs.Grammar.{Spells}
use Rattle.verifying.specs.Answering.{HaltsAtAnswer, unread, no_memory}
use Rattle.run_parts.specs.Devices.{Reader}
use Rattle.run_parts.specs.PlanTexts.{RefusesPlan, SpellsPlan}
use Rattle.run_parts.specs.Reading.{ReadsAll}
use Rattle.run_parts.specs.Runs.{ReadsText, most_reads, HaltsAtBoth, at_second, after_both}
use Rattle.run_parts.specs.declared.errors.RunError.{RunError}
use Rattle.run_parts.specs.declared.errors.RunError.TheVariants as error
use Rattle.run_parts.proofs.DeviceLemmas.{Reading, nothing_read, one_more_read}

-- so many reads have given this text, of so many bytes at most, and the checker was fed it
pub record ReadsOn {D : Type 0} (reader : Reader D) (start : D) (plan : Contents) (reads : ℕ) (now : D) (checker : Checker) : Type 0 where
  pub text : List ℕ
  pub reading : Reading reader start reads text now
  pub fed : IsFed plan checker text
  pub short : length text ≤ reads * 65_536

module _ {D : Type 0} (reader : Reader D) (start : D) (plan : Contents) where
  pub begin : (checker : Checker) → IsFed plan checker [] → ReadsOn reader start plan 0 start checker
  begin checker fed = record { text = []; reading = nothing_read reader start [] refl; fed = fed; short = omega arith }

  -- a read that gave a piece, with which the checker was then fed
  pub one_more : (reads n : ℕ) (buf : List ℕ) (before after : D) (checker grown : Checker) → ReadsOn reader start plan reads before checker → reader.gives before (length buf) (Some (take n buf)) after → 0 < n → n ≤ length buf → length buf ≡ 65_536 → reader.has_failed after ≡ false → Consumes (reader.remaining before) (reader.remaining after) (take n buf) → ((text : List ℕ) → IsFed plan checker text → IsFed plan grown (text ++ take n buf)) → ReadsOn reader start plan (reads + 1) after grown
  one_more reads n buf before after checker grown on call some within size sound lost fed = record {
    text = on.text ++ take n buf;
    reading = one_more_read reader start reads (length buf) n on.text buf (on.text ++ take n buf) before after on.reading call some within sound lost refl;
    fed = fed on.text on.fed;
    short = grows on.text n buf reads on.short within size;
  }
    where
      grows : (text : List ℕ) (n : ℕ) (buf : List ℕ) (reads : ℕ) → length text ≤ reads * 65_536 → n ≤ length buf → length buf ≡ 65_536 → length (text ++ take n buf) ≤ (reads + 1) * 65_536
      grows text n buf reads short within size = omega (arith, short, within, size, length-append text (take n buf), length-take n buf)

-- what so many reads give is not too long
pub is_short : (text : List ℕ) (reads : ℕ) → length text ≤ reads * 65_536 → reads ≤ 4_294_967_295 → length text < 2 ^ 63
is_short text reads short few = omega (arith, short, few)

pub is_short_with : (text buf : List ℕ) (n reads : ℕ) → length text ≤ reads * 65_536 → reads < 4_294_967_295 → n ≤ length buf → length buf ≡ 65_536 → length (text ++ take n buf) < 2 ^ 63
is_short_with text buf n reads short few within size = omega (arith, short, few, within, size, length-append text (take n buf), length-take n buf)

module _ {D : Type 0} (reader : Reader D) (start : D) (plan : Contents) where
  -- the whole certificate has been read
  pub ends : (r : Result Judged RunError) (reads : ℕ) (last now : D) (checker : Checker) → (on : ReadsOn reader start plan reads last checker) → ReadsAll reader most_reads start on.text now → IfOk r (λ it. (text : List ℕ) → IsFed plan checker text → IsAnswer plan text it.answer) → IfOk r (λ it. (text : List ℕ) × ReadsText reader start text now × IsAnswer plan text it.answer)
  ends (Ok answer) reads last now checker on all h = (on.text, all, h on.text on.fed)
  ends (Err e) reads last now checker on all h = tt

  pub ended : (r : Result Judged RunError) (reads : ℕ) (last now : D) (checker : Checker) → (on : ReadsOn reader start plan reads last checker) → reads ≤ 4_294_967_295 → ReadsAll reader most_reads start on.text now → IfErr r (λ e. (text : List ℕ) → IsFed plan checker text → length text < 2 ^ 63 → e ≡ error.NoMemory) → IfErr r (λ e. HaltsAtAnswer reader start e now)
  ended (Ok answer) reads last now checker on few all h = tt
  ended (Err e) reads last now checker on few all h =
      subst (λ (x : RunError). HaltsAtAnswer reader start x now) (sym (h on.text on.fed (is_short on.text reads on.short few))) (no_memory all)

  -- a read that gave a piece, at which an allocation failed
  pub piece_halts : (reads n : ℕ) (buf : List ℕ) (before after : D) (checker : Checker) (e : RunError) → (on : ReadsOn reader start plan reads before checker) → reads < 4_294_967_295 → reader.gives before (length buf) (Some (take n buf)) after → 0 < n → n ≤ length buf → length buf ≡ 65_536 → reader.has_failed after ≡ false → Consumes (reader.remaining before) (reader.remaining after) (take n buf) → ((text : List ℕ) → IsFed plan checker text → length (text ++ take n buf) < 2 ^ 63 → e ≡ error.NoMemory) → HaltsAtAnswer reader start e after
  piece_halts reads n buf before after checker e on few call some within size sound lost h =
      let now = one_more_read reader start reads (length buf) n on.text buf (on.text ++ take n buf) before after on.reading call some within sound lost refl in
      let more : reads + 1 ≤ 4_294_967_295 = omega (arith, few) in
      subst (λ (x : RunError). HaltsAtAnswer reader start x after) (sym (h on.text on.fed (is_short_with on.text buf n reads on.short few within size)))
      (unread {error = error.NoMemory} (record { reads = reads + 1; few = more; text = on.text ++ take n buf; read = now.read }))

-- the run halts where the answer is not there
pub halts_at_both : {D E : Type 0} (first : Reader D) (second : Reader E) (before : D × E) (now : D) (later : E) (text : List ℕ) (e : RunError) → ReadsText first before.0 text now → SpellsPlan text → HaltsAtAnswer second before.1 e later → HaltsAtBoth first second RefusesPlan SpellsPlan before e (now, later)
halts_at_both first second before now later text e read spelled (unread stops) = at_second read spelled stops
halts_at_both first second before now later text e read spelled (no_memory all) = after_both (read, all)

-- what is answered for a plan that was read is answered for the two texts
pub answers_read : (text slice cert : List ℕ) (plan : Contents) (answer : Answer) → slice ≡ text → Spells slice plan → IsAnswer plan cert answer → AnswersBytes text cert answer
answers_read text slice cert plan answer same spelled is = answers_texts plan cert answer is text (subst (λ (t : List ℕ). Spells t plan) same spelled)
