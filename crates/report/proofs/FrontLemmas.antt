-- What was written of a capture by the time that a run halts begins the report.
use Rattle.std.proofs.Common.{◌≡◌, ◌⊎◌, inl, inr, ℕ, zero, suc, ◌<◌, List, [], ◌∷◌, ◌++◌, AllPairs, Contains, None, Result, Ok, Err, MatchResult, ap, sym, ◌∙◌, subst, refl, append_assoc, append-nil, arith}
use Rattle.plan_core.specs.Contents.{Contents}
use Rattle.vcd_read.specs.declared.errors.Refusal.{Refusal}
use Rattle.vcd_read.specs.declared.samples.Sample.{Sample}
use Rattle.vcd_read.specs.Dumps.{samples_of, given_so_far}
use Rattle.vcd_read.specs.Pieces.{Kept, Scan, kept_at_first, bytes_read, samples_at_end}
use Rattle.vcd_read.specs.Probes.{Finder}
use Rattle.vcd_read.proofs.PieceLemmas.{with_cleared}
use Rattle.vcd_read.proofs.FedLemmas.{going_from_scan, given_in, scan_more, scan_refused, scan_still_refused, samples_going, samples_refused, samples_refused_at_end}
use Rattle.capture_check.specs.declared.listening.Mark.{Mark}
use Rattle.capture_check.specs.declared.listening.Until.{Until}
use Rattle.capture_check.specs.declared.listening.Until.TheVariants.{Stopped, Cut, Unfinished}
use Rattle.capture_check.specs.Explained.{AreLeavers, AreExplainersUntil, AreExplainers}
use Rattle.capture_check.specs.Transactions.{Recorded}
use Rattle.pulses.specs.Following.{quiet_transactions}
use Rattle.decoding.specs.Dumps.{given_by_then}
use Rattle.decoding.proofs.DumpLemmas.{given_then}
use Rattle.report.specs.CaptureLines.{Tally, Tells, no_transaction, next_transaction, capture_line, stopped, unexplained, count_line, capture_report}
use Rattle.report.specs.Captures.{CaptureOf}
use Rattle.report.specs.LiveCaptures.{FirstLines, LinesOfDump, BeginsReport, HaltsLive, at_dump, at_both, at_writer, at_end, at_report, WroteFront, of_each, of_whole}
use Rattle.decoding.proofs.PartLemmas.{front_of_stop}
use Rattle.report.proofs.LiveLemmas.{made, none, plus, made_by, plus-none}
use Rattle.run_parts.specs.Devices.{Reader, Writer, by_parts}
use Rattle.run_parts.specs.declared.runs.Status.{Status}
use Rattle.run_parts.specs.declared.errors.RunError.{RunError}

-- ---- who explains a transaction is one list

in_rest : (y : ℕ) (ys : List ℕ) (p : ℕ) → Contains (y ∷ ys) p → (y ≡ p) ⊎ Contains ys p
in_rest y ys p (zero, h, e) = inl e
in_rest y ys p (suc k, h, e) = inr (k, omega (arith, h), e)

in_all : (y : ℕ) (ys : List ℕ) (p : ℕ) → Contains ys p → Contains (y ∷ ys) p
in_all y ys p (k, h, e) = (suc k, omega (arith, h), e)

in_none : (p : ℕ) → Contains [] p → ⊥
in_none p (k, h, e) = absurd (omega (arith, h))

is_first : (y : ℕ) (ys : List ℕ) → Contains (y ∷ ys) y
is_first y ys = (zero, omega arith, refl)

below_rest : (y : ℕ) (ys : List ℕ) (p : ℕ) → AllPairs ◌<◌ (y ∷ ys) → Contains ys p → y < p
below_rest y ys p increasing (k, h, e) = subst (λ (q : ℕ). y < q) e (increasing zero (suc k) _ (omega arith) (omega (arith, h)))

rest_increases : (y : ℕ) (ys : List ℕ) → AllPairs ◌<◌ (y ∷ ys) → AllPairs ◌<◌ ys
rest_increases y ys increasing = λ i j d before within. increasing (suc i) (suc j) d (omega (arith, before)) (omega (arith, within))

same_first : (x y : ℕ) → (x ≡ y) ⊎ (x < y) → (y ≡ x) ⊎ (y < x) → x ≡ y
same_first x y (inl e) h = e
same_first x y (inr l) (inl e) = sym e
same_first x y (inr l) (inr m) = absurd (omega (arith, l, m))

first_of : (x : ℕ) (xs : List ℕ) (y : ℕ) → AllPairs ◌<◌ (x ∷ xs) → Contains (x ∷ xs) y → (x ≡ y) ⊎ (x < y)
first_of x xs y increasing there = elim (in_rest x xs y there) [ inl e ↦ inl e | inr c ↦ inr (below_rest x xs y increasing c) ]

moved : (x y : ℕ) (xs ys : List ℕ) (p : ℕ) → x ≡ y → AllPairs ◌<◌ (x ∷ xs) → (Contains (x ∷ xs) p → Contains (y ∷ ys) p) → Contains xs p → Contains ys p
moved x y xs ys p same increasing to there =
    let l : x < p = below_rest x xs p increasing there in
    elim (in_rest y ys p (to (in_all x xs p there))) [ inl e ↦ absurd (omega (arith, l, same, e)) | inr c ↦ c ]

same_members : (xs ys : List ℕ) → AllPairs ◌<◌ xs → AllPairs ◌<◌ ys → ((p : ℕ) → Contains xs p → Contains ys p) → ((p : ℕ) → Contains ys p → Contains xs p) → xs ≡ ys
same_members [] [] a b to from = refl
same_members [] (y ∷ ys) a b to from = absurd (in_none y (from y (is_first y ys)))
same_members (x ∷ xs) [] a b to from = absurd (in_none x (to x (is_first x xs)))
same_members (x ∷ xs) (y ∷ ys) a b to from =
    let first = same_first x y (first_of x xs y a (from y (is_first y ys))) (first_of y ys x b (to x (is_first x xs))) in
    let rest = same_members xs ys (rest_increases x xs a) (rest_increases y ys b) (λ p. moved x y xs ys p first a (to p)) (λ p. moved y x ys xs p (sym first) b (from p)) in
    ap (λ (z : ℕ). z ∷ xs) first ∙ ap (λ (zs : List ℕ). y ∷ zs) rest

same_leavers : (plan : Contents) (marks : List Mark) (ps qs : List ℕ) → AreLeavers plan marks ps → AreLeavers plan marks qs → ps ≡ qs
same_leavers plan marks ps qs a b = same_members ps qs a.increasing b.increasing (λ p h. (b.each p).1 ((a.each p).0 h)) (λ p h. (a.each p).1 ((b.each p).0 h))

same_explainers : (until : Until) (plan : Contents) (marks : List Mark) (ps qs : List ℕ) → AreExplainersUntil until plan marks ps → AreExplainersUntil until plan marks qs → ps ≡ qs
same_explainers (Stopped time) plan marks ps qs a b = same_leavers plan marks ps qs a b
same_explainers (Cut time) plan marks ps qs a b = a ∙ sym b
same_explainers Unfinished plan marks ps qs a b = a ∙ sym b

-- ---- the lines of some transactions begin those of more

abbrev one : Contents → Recorded → List ℕ → Tally
one plan t ps = made (capture_line plan t.from t.until ps) (stopped t.until) (unexplained t.until ps)

none-plus : (a : Tally) → plus none a ≡ a
none-plus a = made_by _ a.lines _ a.stopped _ a.unexplained refl (omega arith) (omega arith)

plus-assoc : (a b c : Tally) → plus (plus a b) c ≡ plus a (plus b c)
plus-assoc a b c = made_by _ _ _ _ _ _ (append_assoc a.lines b.lines c.lines) (omega arith) (omega arith)

-- the tally of these transactions, one after another
AreTold : Contents → List Recorded → Tally → Type 0
AreTold plan [] tally = tally ≡ none
AreTold plan (t ∷ ts) tally = (ps : List ℕ) × (rest : Tally) × AreExplainers plan t ps × AreTold plan ts rest × (tally ≡ plus (one plan t ps) rest)

one_more : (plan : Contents) (ts : List Recorded) (tally : Tally) (t : Recorded) (ps : List ℕ) → AreTold plan ts tally → AreExplainers plan t ps → AreTold plan (ts ++ t ∷ []) (plus tally (one plan t ps))
unfolding AreTold
one_more plan [] tally t ps same ex =
    (ps, none, ex, refl, ap (λ (a : Tally). plus a (one plan t ps)) same ∙ (none-plus (one plan t ps) ∙ sym (plus-none (one plan t ps))))
one_more plan (u ∷ ts) tally t ps (qs, rest, first, more, same) ex = (
  qs,
  plus rest (one plan t ps),
  first,
  one_more plan ts rest t ps more ex,
  ap (λ (a : Tally). plus a (one plan t ps)) same ∙ plus-assoc (one plan u qs) rest (one plan t ps),
)

each_told : (plan : Contents) (ts : List Recorded) (tally : Tally) → Tells plan ts tally → AreTold plan ts tally
unfolding AreTold
each_told plan _ _ no_transaction = refl
each_told plan _ _ (next_transaction {ts} {tally} t ps told ex) = one_more plan ts tally t ps (each_told plan ts tally told) ex

begin_so : (plan : Contents) (ts later : List Recorded) (tally all : Tally) → AreTold plan ts tally → AreTold plan (ts ++ later) all → (left : Tally) × (all ≡ plus tally left)
unfolding AreTold
begin_so plan [] later tally all same more = (all, sym (none-plus all) ∙ ap (λ (a : Tally). plus a all) (sym same))
begin_so plan (t ∷ ts) later tally all (ps, rest, ex, tail, same) (qs, more, ex-all, tail-all, same-all) =
    let who : qs ≡ ps = same_explainers t.until plan t.marks qs ps ex-all ex in
    let left = begin_so plan ts later rest more tail tail-all in (
      left.0,
      same-all ∙ (ap (λ (rs : List ℕ). plus (one plan t rs) more) who
          ∙ (ap (λ (a : Tally). plus (one plan t ps) a) left.1
          ∙ (sym (plus-assoc (one plan t ps) rest left.0) ∙ ap (λ (a : Tally). plus a left.0) (sym same)))),
    )

same_tally : (plan : Contents) (ts : List Recorded) (a b : Tally) → AreTold plan ts a → AreTold plan ts b → a ≡ b
unfolding AreTold
same_tally plan [] a b is other = is ∙ sym other
same_tally plan (t ∷ ts) a b (ps, rest, ex, tail, same) (qs, more, ex-other, tail-other, same-other) =
    same ∙ (ap (λ (rs : List ℕ). plus (one plan t rs) rest) (same_explainers t.until plan t.marks ps qs ex ex-other)
    ∙ (ap (λ (c : Tally). plus (one plan t qs) c) (same_tally plan ts rest more tail tail-other) ∙ sym same-other))

-- ---- what a dump has given stays

abbrev samples_in : Result (List Sample) Refusal → List Sample
samples_in (Ok samples) = samples
samples_in (Err refusal) = []

same_samples : (scl sda : Finder) (dump : List ℕ) (samples others : List Sample) → samples_of scl sda dump ≡ Ok samples → samples_of scl sda dump ≡ Ok others → samples ≡ others
same_samples scl sda dump samples others a b = ap samples_in (sym a ∙ b)

not_both : (scl sda : Finder) (dump : List ℕ) (samples : List Sample) (refusal : Refusal) → samples_of scl sda dump ≡ Ok samples → samples_of scl sda dump ≡ Err refusal → ⊥
not_both scl sda dump samples refusal a b =
    subst (λ (r : Result (List Sample) Refusal). MatchResult r (λ _. Unit {0}) (λ _. ⊥)) (sym a ∙ b) tt

module _ (scl sda : Finder) (text rest : List ℕ) (samples : List Sample) (read : samples_of scl sda (text ++ rest) ≡ Ok samples) where
  GoesOn : Type 0
  GoesOn = (more : List Sample) × (samples ≡ given_so_far scl sda text ++ more)

  given_first : (k : Kept) → bytes_read (kept_at_first scl sda) text ≡ Ok k → given_so_far scl sda text ≡ k.samples
  given_first k scan = given_in scl sda text [] (record { kept = k; refused = None }) (going_from_scan scl sda text [] (record { kept = k; refused = None }) refl scan)

  at_its_end : (k next : Kept) → bytes_read (kept_at_first scl sda) text ≡ Ok k → bytes_read (kept_at_first scl sda) (text ++ rest) ≡ Ok (with_cleared k.samples next) → (last : Result (List Sample) Refusal) → samples_at_end next ≡ last → GoesOn
  unfolding GoesOn
  at_its_end k next first scan (Ok more) last = (
    more,
    same_samples scl sda (text ++ rest) samples (k.samples ++ more) read (samples_going scl sda (text ++ rest) k.samples next more scan last)
        ∙ ap (λ (given : List Sample). given ++ more) (sym (given_first k first)),
  )
  at_its_end k next first scan (Err refusal) last =
      absurd (not_both scl sda (text ++ rest) samples refusal read (samples_refused_at_end scl sda (text ++ rest) k.samples next refusal scan last))

  in_the_rest : (k : Kept) → bytes_read (kept_at_first scl sda) text ≡ Ok k → (scan : Scan) → bytes_read (record k { samples = [] }) rest ≡ scan → GoesOn
  in_the_rest k first (Ok next) scan =
      let cleared : bytes_read (kept_at_first scl sda) text ≡ Ok (with_cleared k.samples (record k { samples = [] })) = first ∙ ap (λ (given : List Sample). Ok (record k { samples = given })) (sym (append-nil k.samples)) in
      at_its_end k next first (scan_more scl sda text rest k.samples (record k { samples = [] }) next cleared scan) (samples_at_end next) refl
  in_the_rest k first (Err refused) scan =
      let cleared : bytes_read (kept_at_first scl sda) text ≡ Ok (with_cleared k.samples (record k { samples = [] })) = first ∙ ap (λ (given : List Sample). Ok (record k { samples = given })) (sym (append-nil k.samples)) in
      absurd (not_both scl sda (text ++ rest) samples _ read (samples_refused scl sda (text ++ rest) _ (scan_refused scl sda text rest k.samples (record k { samples = [] }) refused cleared scan)))

  in_the_text : (scan : Scan) → bytes_read (kept_at_first scl sda) text ≡ scan → GoesOn
  in_the_text (Ok k) scan = in_the_rest k scan (bytes_read (record k { samples = [] }) rest) refl
  in_the_text (Err refused) scan =
      absurd (not_both scl sda (text ++ rest) samples _ read (samples_refused scl sda (text ++ rest) refused (scan_still_refused scl sda text rest refused scan)))

  pub goes_on : (more : List Sample) × (samples ≡ given_so_far scl sda text ++ more)
  unfolding GoesOn
  goes_on = in_the_text (bytes_read (kept_at_first scl sda) text) refl

-- ---- what was written begins the report

module _ (least : ℕ) (scl sda : Finder) (plan : Contents) where
  lines_begin : (dump report : List ℕ) (status : Status) (ts later : List Recorded) (tally : Tally) → (c : CaptureOf least scl sda plan dump report status) → quiet_transactions least c.samples ≡ ts ++ later → Tells plan ts tally → (left : List ℕ) × (report ≡ tally.lines ++ left)
  lines_begin dump report status ts later tally c split told =
      let whole = subst (λ (us : List Recorded). AreTold plan us c.tally) split (each_told plan (quiet_transactions least c.samples) c.tally c.told) in
      let left = begin_so plan ts later tally c.tally (each_told plan ts tally told) whole in
      let count = count_line c.tally.stopped c.tally.unexplained in
      (left.0.lines ++ count, c.lines ∙ (ap (λ (a : Tally). a.lines ++ count) left.1 ∙ append_assoc tally.lines left.0.lines count))

  first_begin : (text lines rest : List ℕ) → FirstLines least scl sda plan text lines → BeginsReport least scl sda plan lines (text ++ rest)
  first_begin text lines rest f report status c =
      let g = goes_on scl sda text rest c.samples c.read in
      let later = f.ended g.0 in
      let begun = lines_begin (text ++ rest) report status f.transactions later.0 f.tally c (ap (quiet_transactions least) g.1 ∙ later.1) f.told in
      (begun.0, begun.1 ∙ ap (λ (ls : List ℕ). ls ++ begun.0) (sym f.same))

  dump_begins : (dump lines : List ℕ) → LinesOfDump least scl sda plan dump lines → BeginsReport least scl sda plan lines dump
  dump_begins dump lines d report status c =
      let same = same_samples scl sda dump c.samples d.samples c.read d.read in
      let begun = lines_begin dump report status d.transactions d.later d.tally c (ap (quiet_transactions least) same ∙ d.split) d.told in
      (begun.0, begun.1 ∙ ap (λ (ls : List ℕ). ls ++ begun.0) (sym d.same))

  same_report : (dump report other : List ℕ) (status second_status : Status) → CaptureOf least scl sda plan dump report status → CaptureOf least scl sda plan dump other second_status → report ≡ other
  same_report dump report other status second_status a b =
      let same = same_samples scl sda dump a.samples b.samples a.read b.read in
      let first = subst (λ (samples : List Sample). AreTold plan (quiet_transactions least samples) a.tally) same (each_told plan (quiet_transactions least a.samples) a.tally a.told) in
      let tally = same_tally plan (quiet_transactions least b.samples) a.tally b.tally first (each_told plan (quiet_transactions least b.samples) b.tally b.told) in
      a.lines ∙ (ap capture_report tally ∙ sym b.lines)

  -- the front of what begins it begins it
  shorter : (dump lines front left : List ℕ) → lines ≡ front ++ left → BeginsReport least scl sda plan lines dump → BeginsReport least scl sda plan front dump
  shorter dump lines front left split begins report status c =
      let b = begins report status c in
      (left ++ b.0, b.1 ∙ (ap (λ (ls : List ℕ). ls ++ b.0) split ∙ append_assoc front left b.0))

  module _ {E O : Type 0} (second : Reader E) (writer : Writer O) (before : E) (start : O) where
    pub front_live : (e : RunError) (now : E) (end : O) → HaltsLive least scl sda plan second writer before start e now end → WroteFront least scl sda plan second writer before start now end
    front_live e now end (at_dump {lines = lines} halts first whole all) =
        of_each lines (given_then second scl sda before now e halts).2 (λ rest. first_begin (given_by_then second halts) lines rest first) all.appended
    front_live e now end (at_both {lines = lines} halts first whole stops) =
        let text = given_by_then second halts in
        of_each stops.front (given_then second scl sda before now e halts).2 (λ rest. shorter (text ++ rest) lines stops.front stops.left stops.split (first_begin text lines rest first)) stops.appended
    front_live e now end (at_writer {text = text} {lines = lines} few begun first why) =
        let stops = front_of_stop (by_parts writer) start end lines e why in
        of_each stops.front begun.given (λ rest. shorter (text ++ rest) lines stops.front stops.left stops.split (first_begin text lines rest first)) stops.appended
    front_live _ now end (at_end {dump = dump} {lines = lines} read of all) = of_whole lines read (dump_begins dump lines of) all.appended
    front_live e now end (at_report {dump = dump} {report = report} {status = status} read capture why) =
        let stops = front_of_stop (by_parts writer) start end report e why in
        of_whole stops.front read (λ other second_status c. (stops.left, same_report dump other report second_status status c capture ∙ stops.split)) stops.appended
