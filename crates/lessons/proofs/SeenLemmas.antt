-- What was kept of the transactions that were seen stays kept.
use Rattle.std.proofs.Common.{◌≡◌, ◌≢◌, ◌⊎◌, inl, inr, ℕ, zero, suc, ◌<◌, ◌+◌, List, [], ◌∷◌, ◌++◌, All, map, length, get_or, take, slice_set, Contains, refl, sym, ◌∙◌, ap, subst, arith, Result, Ok, Err, OnOk}
use Rattle.std.proofs.lemmas.List.Elements.{All-append, All-cons, All-nil, All-weaker, Contains-append_left, Contains-append_right, Contains-append_cases, Contains-push}
use Rattle.std.proofs.lemmas.List.{get_or-map, length-map, map-append, take_more}
use Rattle.capture_check.specs.Transactions.{Recorded}
use Rattle.capture_check.specs.Views.{recorded}
use Rattle.capture_check.specs.declared.listening.Mark.{Mark}
use Rattle.capture_check.specs.declared.listening.Transaction.{Transaction}
use Rattle.lessons.specs.declared.paths.Step.{Step}
use Rattle.lessons.specs.declared.seen.Sight.{Sight}
use Rattle.lessons.specs.declared.seen.Sights.{Sights}
use Rattle.lessons.specs.Lessons.{odd_in, path_seen, paths_in, seen_in}
use Rattle.lessons.specs.Plans.{HasMarks}
use Rattle.lessons.specs.Seen.{IsAmong, IsKept, IsOfOne, IsStopped, KeepsAll, Sees}

-- all paths and all that is odd are still there
pub stays_by : (a b : Sights) → ((path : List Step) → Contains (paths_in a) path → Contains (paths_in b) path) → (odd_in a ≢ [] → odd_in b ≢ []) →
    (t : Recorded) → IsKept a t → IsKept b t
stays_by a b f g t (inl (path, at, h)) = inl (path, f path at, h)
stays_by a b f g t (inr odd) = inr (g odd)

-- what is of some is of more
of_left : (ts more : List Recorded) (path : List Step) → IsOfOne ts path → IsOfOne (ts ++ more) path
of_left ts more path o = (o.0, Contains-append_left ts more o.0 o.1, o.2, o.3)

of_right : (ts more : List Recorded) (path : List Step) → IsOfOne more path → IsOfOne (ts ++ more) path
of_right ts more path o = (o.0, Contains-append_right ts more o.0 o.1, o.2, o.3)

-- each path was there, or is of one of these
abbrev pub Shown : Sights → List Recorded → Sights → Type 0
Shown a ts b = (path : List Step) → Contains (paths_in b) path → Contains (paths_in a) path ⊎ IsOfOne ts path

-- one more transaction was seen
sees_one : (a b : Sights) (t : Recorded) → b.before ≡ a.before → b.view ≡ a.view → Shown a (t ∷ []) b →
    ((path : List Step) → Contains (paths_in a) path → Contains (paths_in b) path) → (odd_in a ≢ [] → odd_in b ≢ []) →
    (KeepsAll a → IsStopped t.until → IsKept b t) → Sees a (t ∷ []) b
sees_one a b t brief view shown f g kept = record {
  same_brief = brief;
  same_view = view;
  shown = shown;
  stays = stays_by a b f g;
  kept = λ all. All-cons (λ t. IsStopped t.until → IsKept b t) t [] (kept all) (All-nil (λ t. IsStopped t.until → IsKept b t));
}

-- where the paths are the same
pub same_paths : (a b : Sights) → paths_in b ≡ paths_in a → (path : List Step) → Contains (paths_in a) path → Contains (paths_in b) path
same_paths a b e path at = subst (λ (ps : List (List Step)). Contains ps path) (sym e) at

pub shown_same : (a b : Sights) (ts : List Recorded) → paths_in b ≡ paths_in a → Shown a ts b
shown_same a b ts e path at = inl (subst (λ (ps : List (List Step)). Contains ps path) e at)

-- it has one of the paths
pub sees_path : (a b : Sights) (t : Recorded) → b.before ≡ a.before → b.view ≡ a.view → paths_in b ≡ paths_in a → odd_in b ≡ odd_in a →
    IsAmong (paths_in b) t.marks → Sees a (t ∷ []) b
sees_path a b t brief view paths odd among =
    sees_one a b t brief view (shown_same a b (t ∷ []) paths) (same_paths a b paths) (λ some e. some (sym odd ∙ e)) (λ all stopped. inl among)

-- ---- one after another

pub sees_none : (a : Sights) → Sees a [] a
sees_none a = record {
  same_brief = refl;
  same_view = refl;
  shown = λ path at. inl at;
  stays = λ t kept. kept;
  kept = λ all. All-nil (λ t. IsStopped t.until → IsKept a t);
}

keeps_all : (a b : Sights) → b.before ≡ a.before → b.view ≡ a.view → KeepsAll a → KeepsAll b
keeps_all a b brief view all = (brief ∙ all.0, (ap (λ v. v.window.from) view ∙ all.1.0, ap (λ v. v.window.to) view ∙ all.1.1))

pub sees_more : (a b c : Sights) (ts more : List Recorded) → Sees a ts b → Sees b more c → Sees a (ts ++ more) c
sees_more a b c ts more first then = record {
  same_brief = then.same_brief ∙ first.same_brief;
  same_view = then.same_view ∙ first.same_view;
  shown = λ path at. shown_by path (then.shown path at);
  stays = λ t kept. then.stays t (first.stays t kept);
  kept = λ all. All-append (λ t. IsStopped t.until → IsKept c t) ts more
      (All-weaker (λ t. IsStopped t.until → IsKept b t) (λ t. IsStopped t.until → IsKept c t) (λ t kept stopped. then.stays t (kept stopped)) ts (first.kept all))
      (then.kept (keeps_all a b first.same_brief first.same_view all));
}
  where
    shown_before : (path : List Step) → Contains (paths_in a) path ⊎ IsOfOne ts path → Contains (paths_in a) path ⊎ IsOfOne (ts ++ more) path
    shown_before path (inl at) = inl at
    shown_before path (inr o) = inr (of_left ts more path o)

    shown_by : (path : List Step) → Contains (paths_in b) path ⊎ IsOfOne more path → Contains (paths_in a) path ⊎ IsOfOne (ts ++ more) path
    shown_by path (inl at) = shown_before path (first.shown path at)
    shown_by path (inr o) = inr (of_right ts more path o)

-- ---- paths

pub among_at : (sights : List Sight) (k : ℕ) (d : Sight) (marks : List Mark) → k < length sights → HasMarks (path_seen (get_or sights k d)) marks →
    IsAmong (map path_seen sights) marks
among_at sights k d marks lt has =
    let x = path_seen (get_or sights k d) in
    let long = length-map sights path_seen in
    let within : k < length (map path_seen sights) = omega (arith, long) in
    (x, (k, within, get_or-map path_seen sights k d x lt), has)

pub among_same : (ps qs : List (List Step)) (ms ns : List Mark) → ps ≡ qs → ms ≡ ns → IsAmong ps ms → IsAmong qs ns
among_same ps qs ms ns e f h = subst (λ (xs : List (List Step)). IsAmong xs ns) e (subst (λ (ys : List Mark). IsAmong ps ys) f h)

pub paths_more : (sights more new : List Sight) → new ≡ sights ++ more → (path : List Step) → Contains (map path_seen sights) path → Contains (map path_seen new) path
paths_more sights more new e path at =
    let both : map path_seen new ≡ map path_seen sights ++ map path_seen more = ap (map path_seen) e ∙ map-append path_seen sights more in
    subst (λ (ps : List (List Step)). Contains ps path) (sym both) (Contains-append_left (map path_seen sights) (map path_seen more) path at)

-- nothing more was seen
pub sees_added : (a b : Sights) → b.before ≡ a.before → b.view ≡ a.view → paths_in b ≡ paths_in a → odd_in b ≡ odd_in a → Sees a [] b
sees_added a b brief view paths odd = record {
  same_brief = brief;
  same_view = view;
  shown = shown_same a b [] paths;
  stays = stays_by a b (same_paths a b paths) (λ some e. some (sym odd ∙ e));
  kept = λ all. All-nil (λ t. IsStopped t.until → IsKept b t);
}

-- a path of this transaction was added
pub sees_new : (a b : Sights) (t : Recorded) (sight : Sight) → b.before ≡ a.before → b.view ≡ a.view → seen_in b ≡ seen_in a ++ sight ∷ [] → odd_in b ≡ odd_in a →
    IsStopped t.until → HasMarks (path_seen sight) t.marks → Sees a (t ∷ []) b
sees_new a b t sight brief view added odd stopped has =
    sees_one a b t brief view (λ path at. shown path (Contains-append_cases (paths_in a) (path_seen sight ∷ []) path (here path at)))
    (paths_more (seen_in a) (sight ∷ []) (seen_in b) added) (λ some e. some (sym odd ∙ e)) (λ all stopped. inl among)
  where
    both : paths_in b ≡ paths_in a ++ path_seen sight ∷ []
    both = ap (map path_seen) added ∙ map-append path_seen (seen_in a) (sight ∷ [])

    here : (path : List Step) → Contains (paths_in b) path → Contains (paths_in a ++ path_seen sight ∷ []) path
    here path at = subst (λ (ps : List (List Step)). Contains ps path) both at

    only : (path : List Step) → Contains (path_seen sight ∷ []) path → path_seen sight ≡ path
    only path (zero, lt, same) = same
    only path (suc k, lt, same) = absurd (omega (arith, lt))

    shown : (path : List Step) → Contains (paths_in a) path ⊎ Contains (path_seen sight ∷ []) path → Contains (paths_in a) path ⊎ IsOfOne (t ∷ []) path
    shown path (inl at) = inl at
    shown path (inr at) = inr (t, (zero, omega arith, refl), stopped, subst (λ (steps : List Step). HasMarks steps t.marks) (only path at) has)

    among : IsAmong (paths_in b) t.marks
    among = (path_seen sight, subst (λ (ps : List (List Step)). Contains ps (path_seen sight)) (sym both) (Contains-push (paths_in a) (path_seen sight)), has)

pub then_sees : {A E : Type 0} (r : Result A E) (a b c : Sights) (t : Recorded) → Sees a [] b → OnOk r (Sees b (t ∷ []) c) → OnOk r (Sees a (t ∷ []) c)
then_sees (Ok x) a b c t first then = sees_more a b c [] (t ∷ []) first then
then_sees (Err e) a b c t first then = tt

pub of_this : {A E : Type 0} (r : Result A E) (a c : Sights) (t : Recorded) → OnOk r ((t : Recorded) → Sees a (t ∷ []) c) → OnOk r (Sees a (t ∷ []) c)
of_this (Ok x) a c t h = h t
of_this (Err e) a c t h = tt

pub then_of_this : {A E : Type 0} (r : Result A E) (a b c : Sights) (t : Recorded) → Sees a [] b → OnOk r ((t : Recorded) → Sees b (t ∷ []) c) → OnOk r (Sees a (t ∷ []) c)
then_of_this r a b c t first h = then_sees r a b c t first (of_this r b c t h)

-- one sight is another of the same path
pub paths_set : (xs : List Sight) (i : ℕ) (s d : Sight) → path_seen s ≡ path_seen (get_or xs i d) → map path_seen (slice_set xs i s) ≡ map path_seen xs
paths_set [] i s d e = refl
paths_set (x ∷ xs) zero s d e = ap (λ (p : List Step). p ∷ map path_seen xs) e
paths_set (x ∷ xs) (suc i) s d e = ap (λ (ps : List (List Step)). path_seen x ∷ ps) (paths_set xs i s d e)

pub sees_next : (a b c : Sights) (ts : List Transaction) (i : ℕ) (d : Transaction) → i < length ts → Sees a (map recorded (take i ts)) b →
    Sees b (recorded (get_or ts i d) ∷ []) c → Sees a (map recorded (take (i + 1) ts)) c
sees_next a b c ts i d lt first then =
    let more : map recorded (take (i + 1) ts) ≡ map recorded (take i ts) ++ recorded (get_or ts i d) ∷ [] =
    ap (map recorded) (take_more ts i d lt) ∙ map-append recorded (take i ts) (get_or ts i d ∷ []) in
    subst (λ (rs : List Recorded). Sees a rs c) (sym more) (sees_more a b c (map recorded (take i ts)) (recorded (get_or ts i d) ∷ []) first then)
