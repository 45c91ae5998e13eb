-- What was learned of a dump.
use Rattle.std.proofs.Common.{◌≡◌, ◌⊎◌, inl, inr, ℕ, Bool, true, false, List, [], ◌∷◌, All, map, refl, ap, subst}
use Rattle.std.proofs.lemmas.List.Elements.{All-contains, All-weaker}
use Rattle.capture_check.specs.Explained.{Leaver}
use Rattle.capture_check.specs.Transactions.{Recorded}
use Rattle.decoding.specs.Decoding.{DecodesDump}
use Rattle.decoding.specs.Sinks.{HasTaken, no_call, next_call}
use Rattle.pulses.specs.Following.{quiet_transactions}
use Rattle.vcd_read.specs.Probes.{Finder}
use Rattle.run_parts.specs.declared.runs.Status.TheVariants.{Good}
use Rattle.lessons.specs.declared.checking.Learned.{Learned}
use Rattle.lessons.specs.declared.seen.Sight.{Sight}
use Rattle.lessons.specs.declared.seen.Sights.{Sights}
use Rattle.lessons.specs.Lessons.{Teaches, marked, unmarked, odd_in, path_seen, paths_in, seen_in}
use Rattle.lessons.specs.Plans.{HasPath}
use Rattle.lessons.specs.Seen.{ExplainsAll, IsKept, IsStopped, KeepsAll, Learns, Sees, seeing_sink}
use Rattle.lessons.proofs.SeenLemmas.{sees_more, sees_none}

-- all calls together
all_seen : (start told : Sights) (ts : List Recorded) → HasTaken seeing_sink start ts told → Sees start ts told
all_seen start told ts no_call = sees_none start
all_seen start told ts (next_call {ts = first} {more = more} {before = before} taken takes) =
    sees_more start before told first more (all_seen start before first taken) takes

marked_all : {A : Type 0} (marks : List Bool) (xs : List A) → unmarked marks xs ≡ [] → marked marks xs ≡ xs
marked_all [] [] e = refl
marked_all [] (x ∷ xs) e = cc
marked_all (true ∷ marks) [] e = refl
marked_all (false ∷ marks) [] e = refl
marked_all {A} (true ∷ marks) (x ∷ xs) e = ap (λ (ys : List A). x ∷ ys) (marked_all marks xs e)
marked_all (false ∷ marks) (x ∷ xs) e = cc

module _ (told : Sights) (learned : Learned) (teaches : Teaches told learned) (good : learned.status ≡ Good) where
  has_all : All (HasPath teaches.plan) (paths_in told)
  has_all =
      let all = marked_all learned.had.items (seen_in told) (teaches.whole good).0 in
      subst (λ (ss : List Sight). All (HasPath teaches.plan) (map path_seen ss)) all teaches.has

  explained : (t : Recorded) → IsKept told t → (p : ℕ) × Leaver teaches.plan t.marks p
  explained t (inl (path, at, has)) =
      let who = All-contains (HasPath teaches.plan) (paths_in told) path has_all at in
      (who.0, who.1 t.marks has)
  explained t (inr odd) = absurd (odd (teaches.whole good).1)

  explains : (ts : List Recorded) → All (λ t. IsStopped t.until → IsKept told t) ts → ExplainsAll teaches.plan ts
  explains ts kept =
      All-weaker (λ t. IsStopped t.until → IsKept told t) (λ t. IsStopped t.until → (p : ℕ) × Leaver teaches.plan t.marks p)
      (λ t is stopped. explained t (is stopped)) ts kept

pub learns : (least : ℕ) (scl sda : Finder) (start told : Sights) (dump : List ℕ) (learned : Learned) →
    DecodesDump seeing_sink start least scl sda dump told → Teaches told learned → Learns least scl sda start dump learned
learns least scl sda start told dump learned decodes teaches =
    let ts = quiet_transactions least decodes.samples in
    let sees = all_seen start told ts decodes.taken in
    record {
      samples = decodes.samples;
      read = decodes.read;
      seen = told;
      sees = sees;
      teaches = teaches;
      explains = λ all good. explains told learned teaches good ts (sees.kept all);
    }
