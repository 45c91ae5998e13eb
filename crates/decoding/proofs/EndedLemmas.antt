-- All that has ended in a dump that goes on, and what it has given however it goes on.
use Rattle.std.proofs.Common.{◌≡◌, ℕ, List, [], ◌∷◌, ◌++◌, None, Some, Ok, Err, ap, refl, sym, ◌∙◌}
use Rattle.std.proofs.lemmas.List.{append-nil}
use Rattle.vcd_read.specs.declared.samples.Sample.{Sample}
use Rattle.vcd_read.specs.Dumps.{given_so_far}
use Rattle.vcd_read.specs.Pieces.{Kept, Refused, Scan, kept_at_first, bytes_read}
use Rattle.vcd_read.specs.Probes.{Finder}
use Rattle.vcd_read.specs.Readers.{Reading}
use Rattle.vcd_read.proofs.FedLemmas.{given_in, going_from_scan, refused_from_scan, scan_more, scan_refused, scan_still_refused}
use Rattle.vcd_read.proofs.PieceLemmas.{with_cleared}
use Rattle.pulses.specs.declared.following.QuietFollower.{QuietFollower}
use Rattle.pulses.specs.Following.{quiet_behind, quiet_transactions, HasHandedOut}
use Rattle.pulses.proofs.EndedLemmas.{none_has_ended}
use Rattle.capture_check.specs.Transactions.{Recorded}
use Rattle.decoding.specs.Decoding.{AreAllEnded}

-- ---- what ends is handed out, and no more

same_first : (a b : Recorded) (xs ys : List Recorded) → a ∷ xs ≡ b ∷ ys → a ≡ b
same_first a b xs ys e = cc

same_rest : (a b : Recorded) (xs ys : List Recorded) → a ∷ xs ≡ b ∷ ys → xs ≡ ys
same_rest a b xs ys e = cc

-- where nothing comes first in all that may follow
no_longer : (behind : List Sample → List Recorded) → ((t : Recorded) → ((more : List Sample) → (later : List Recorded) × (behind more ≡ t ∷ later)) → ⊥) → (done others : List Recorded) → ((more : List Sample) → (later : List Recorded) × (done ++ behind more ≡ others ++ later)) → (left : List Recorded) × (done ≡ others ++ left)
no_longer behind none done [] same = (done, refl)
no_longer behind none [] (t ∷ others) same = absurd (none t (λ more. (others ++ (same more).0, (same more).1)))
no_longer behind none (d ∷ done) (t ∷ others) same =
    let rest = no_longer behind none done others (λ more. ((same more).0, same_rest d t (done ++ behind more) (others ++ (same more).0) (same more).1)) in
    let is : d ≡ t = same_first d t (done ++ behind []) (others ++ (same []).0) (same []).1 in
    (rest.0, ap (λ (ts : List Recorded). d ∷ ts) rest.1 ∙ ap (λ (u : Recorded). u ∷ (others ++ rest.0)) is)

pub all_ended : (least : ℕ) (scl sda : Finder) (text : List ℕ) (given : List Sample) (done : List Recorded) (f : QuietFollower) → given_so_far scl sda text ≡ given → ((more : List Sample) → done ++ quiet_behind f more ≡ quiet_transactions least (given ++ more)) → HasHandedOut f → AreAllEnded least scl sda text done
all_ended least scl sda text given done f is left out others begins =
    no_longer (quiet_behind f) (none_has_ended f out) done others
    (λ more. ((begins more).0, left more ∙ (ap (λ (samples : List Sample). quiet_transactions least (samples ++ more)) (sym is) ∙ (begins more).1)))

-- ---- what a dump has given stays

module _ (scl sda : Finder) (text piece : List ℕ) where
  GoesOn : Type 0
  GoesOn = (more : List Sample) × (given_so_far scl sda (text ++ piece) ≡ given_so_far scl sda text ++ more)

  abbrev going : Kept → Reading
  going k = record { kept = k; refused = None }

  abbrev refusing : Refused → Reading
  refusing r = record { kept = record (kept_at_first scl sda) { samples = r.samples }; refused = Some r.refusal }

  in_the_piece : (k : Kept) → bytes_read (kept_at_first scl sda) text ≡ Ok k → (scan : Scan) → bytes_read (record k { samples = [] }) piece ≡ scan → GoesOn
  unfolding GoesOn
  in_the_piece k first (Ok next) scan =
      let cleared : bytes_read (kept_at_first scl sda) text ≡ Ok (with_cleared k.samples (record k { samples = [] })) = first ∙ ap (λ (given : List Sample). Ok (record k { samples = given })) (sym (append-nil k.samples)) in
      let given = given_in scl sda text [] (going k) (going_from_scan scl sda text [] (going k) refl first) in
      let whole = scan_more scl sda text piece k.samples (record k { samples = [] }) next cleared scan in (
        next.samples,
        given_in scl sda (text ++ piece) k.samples (going next) (going_from_scan scl sda (text ++ piece) k.samples (going next) refl whole)
            ∙ ap (λ (samples : List Sample). samples ++ next.samples) (sym given),
      )
  in_the_piece k first (Err r) scan =
      let cleared : bytes_read (kept_at_first scl sda) text ≡ Ok (with_cleared k.samples (record k { samples = [] })) = first ∙ ap (λ (given : List Sample). Ok (record k { samples = given })) (sym (append-nil k.samples)) in
      let given = given_in scl sda text [] (going k) (going_from_scan scl sda text [] (going k) refl first) in
      let whole = scan_refused scl sda text piece k.samples (record k { samples = [] }) r cleared scan in (
        r.samples,
        given_in scl sda (text ++ piece) k.samples (refusing r) (refused_from_scan scl sda (text ++ piece) k.samples (refusing r) r.refusal refl whole)
            ∙ ap (λ (samples : List Sample). samples ++ r.samples) (sym given),
      )

  in_the_text : (scan : Scan) → bytes_read (kept_at_first scl sda) text ≡ scan → GoesOn
  unfolding GoesOn
  in_the_text (Ok k) scan = in_the_piece k scan (bytes_read (record k { samples = [] }) piece) refl
  in_the_text (Err r) scan =
      let given = given_in scl sda text [] (refusing r) (refused_from_scan scl sda text [] (refusing r) r.refusal refl scan) in
      let whole = given_in scl sda (text ++ piece) [] (refusing r) (refused_from_scan scl sda (text ++ piece) [] (refusing r) r.refusal refl (scan_still_refused scl sda text piece r scan)) in
      ([], whole ∙ (sym given ∙ sym (append-nil (given_so_far scl sda text))))

  pub given_more : (more : List Sample) × (given_so_far scl sda (text ++ piece) ≡ given_so_far scl sda text ++ more)
  unfolding GoesOn
  given_more = in_the_text (bytes_read (kept_at_first scl sda) text) refl
